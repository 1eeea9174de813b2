-- The scope's boundary rows P1 to P7, of the calls' definitions on a volume, in every volume that they can start from.
-- Assumes nothing.
use Rattle.std.specs.Prelude.{Ok, Err}
use mathlib.Core.Path.{◌≡◌, refl, sym, ap, ◌∙◌, subst}
use mathlib.Core.Bool.{false}
use mathlib.Core.List.{List, [], ◌∷◌}
use mathlib.Core.Option.{some}
use Prim.Native.Nat.{ℕ, ◌+◌, ◌^◌, ◌≤◌}
use native.Mathlib.Omega.{arith}
use lib.ListN.{length, take, length-take}
use lib.Seq.{take-suc-set}
use borrow.Author.Tests.{eq-eqb, ne_eqb, le-ltb}
use Rattle.words.specs.Bytes.{part, over, zeros}
use Rattle.words.specs.Rules.{pick, both}
use Rattle.words.specs.Tables.{find, lead, lead_of, insert_at, only}
use Rattle.words.proofs.Rules.{pick-false}
use Rattle.words.proofs.Written.{over-at}
use Rattle.types.specs.Sizes.{most_size}
use Rattle.types.specs.Outcomes.{done}
use Rattle.types.specs.Nodes.{is_directory, file_limit}
use Rattle.types.specs.declared.Error.TheVariants.{FileTooLarge}
use Rattle.types.specs.declared.FileType.TheVariants.{RegularFile}
use Rattle.types.specs.declared.NodeRecord.{NodeRecord}
use Rattle.types.proofs.Nodes.{no-directory}
use Rattle.volume.specs.declared.ChunkRow.{ChunkRow}
use Rattle.volume.specs.Volume.{Store, Volume, with_allocator, with_chunks, with_bytes, on_names}
use Rattle.volume.specs.Framed.{Fits}
use Rattle.volume.specs.Search.{pair_before}
use Rattle.volume.specs.Sound.{node, round_up}
use Rattle.volume.specs.Steps.{Step, becomes, with_node}
use Rattle.volume.specs.Files.{on_row, on_file}
use Rattle.allocator.specs.Allocator.{free, allocate, release, released}
use Rattle.store.proofs.SizeSet.{unused}
use Rattle.tables.proofs.NodeRows.{node-is}
use Rattle.tables.specs.OneRow.{sized, chunk}
use Rattle.store.specs.Content.{byte_at, bytes_from}
use Rattle.store.specs.Cut.{goes, cut_from, tail_zeroed, shrunk}
use Rattle.store.specs.Room.{room, missing, holes}
use Rattle.files.specs.Boundary.{Start, row}
use Rattle.store.specs.Written.{write_chunks, write_chunk, put, put_for, written}
use Rattle.store.specs.Taken.{ensured, ensured_for, taken}
use Rattle.files.specs.Write.{write, write_file}
use Rattle.files.proofs.WriteKept.{wrote, write_kept}
use Rattle.files.proofs.ResizeKept.{Accepts, resize-grows, resize-cuts}
use Rattle.files.specs.Effects.{written_size}
use Rattle.files.proofs.Reshaped.{reshaped}
use Rattle.tables.proofs.ChangedNames.{node-here}
use Rattle.files.specs.Read.{read_count, read_file, read}
use Rattle.files.specs.Resize.{resize}

-- ---- the volume to start from, as its parts

-- a store with chunks of 16,384 bytes, no free pointer, this next pointer and these rows, and these bytes
abbrev shape : Store → ℕ → List ChunkRow → List ℕ → Store
shape t next cs bytes = record {
  chunk_room = t.chunk_room;
  allocator = record { mark = t.allocator.mark; chunk_size = 16384; free_count = 0; next_ptr = next; unread = t.allocator.unread; words = t.allocator.words };
  chunks = cs;
  bytes = bytes;
}

module _ (n : ℕ) (r : NodeRecord) (v : Volume) (s : Start n r v) where
  none_free : v.store.allocator.free_count ≡ 0
  unfolding free
  none_free =
      let k : length (take v.store.allocator.free_count v.store.allocator.words) ≡ 0 = ap length (unused v.store s.good.stored s.unused).1 in
      omega (arith, k, length-take v.store.allocator.free_count v.store.allocator.words, s.fits.store.words, s.fits.store.free)

  start-store : shape v.store 0 [] v.store.bytes ≡ v.store
  start-store = sym (λ i. record {
    chunk_room = v.store.chunk_room;
    allocator = record { mark = v.store.allocator.mark; chunk_size = s.size i; free_count = none_free i; next_ptr = s.unused i; unread = v.store.allocator.unread; words = v.store.allocator.words };
    chunks = (unused v.store s.good.stored s.unused).0 i;
    bytes = v.store.bytes;
  })

  area : 65536 ≤ length v.store.bytes
  area = omega (arith, s.fits.store.long)

  number : r.node ≡ n
  number = node-is n v.names r s.there

-- ---- chunks taken

module _ (n offset : ℕ) (bs : List ℕ) (t : Store) where
  -- the first one
  first : (k : ℕ) (bytes : List ℕ) → write_chunk n offset bs k (shape t 0 [] bytes) ≡ shape t 16384 (row n k 0 ∷ []) (write_chunk n offset bs k (shape t 0 [] bytes)).bytes
  unfolding write_chunk put put_for ensured ensured_for taken allocate chunk pick both find insert_at lead
  first k bytes = rw (eq-eqb n n refl, eq-eqb k k refl) refl

  -- the one behind it
  second : (bytes : List ℕ) → write_chunk n offset bs 1 (shape t 16384 (row n 0 0 ∷ []) bytes) ≡ shape t 32768 (row n 0 0 ∷ row n 1 16384 ∷ []) (write_chunk n offset bs 1 (shape t 16384 (row n 0 0 ∷ []) bytes)).bytes
  unfolding write_chunk put put_for ensured ensured_for taken allocate chunk pick both find insert_at lead lead_of pair_before
  second bytes = rw (eq-eqb n n refl, eq-eqb n n refl, eq-eqb n n refl) refl

-- ---- the calls when they are accepted

module _ (n : ℕ) (r : NodeRecord) (v : Volume) (there : node n v.names ≡ some r) (file : r.kind ≡ RegularFile) where
  not-directory : is_directory r.kind ≡ false
  not-directory = rw file refl

  writes : (offset : ℕ) (bs : List ℕ) → (length bs ≡ 0 → ⊥) → offset + length bs ≤ file_limit r.limit → holes n offset (length bs) v.store ≤ room v.store → write n offset bs v ≡ becomes (length bs) (wrote n offset bs r v)
  unfolding write write_file on_file on_row
  writes offset bs h l e =
      let i : r.node ≡ n = node-is n v.names r there in
      rw (there, i) (sym (pick-false _ _ _ _ not-directory (pick-false _ _ _ _ (ne_eqb _ _ h) (pick-false _ _ _ _ (le-ltb _ _ l) (pick-false _ _ _ _ (le-ltb _ _ e) refl)))))

  writes-none : (offset : ℕ) → write n offset [] v ≡ becomes 0 v
  unfolding write write_file on_file on_row pick
  writes-none offset = rw (there, file) refl

  resizes : (z : ℕ) → z ≤ file_limit r.limit → Accepts n z v r
  resizes z l = record { there = there; file = no-directory r.kind not-directory; within = l }

module _ (n : ℕ) (r : NodeRecord) (v : Volume) (s : Start n r v) where
  -- what holds of the store in its parts holds of the store
  parted : (P : Store → Type 0) → P (shape v.store 0 [] v.store.bytes) → P v.store
  parted P h = subst P (start-store n r v s) h

  two-left : 2 ≤ room v.store
  unfolding room
  two-left = parted (λ t. 2 ≤ room t) (omega (arith, s.room, area n r v s))

  limit : file_limit r.limit ≡ most_size
  limit = rw s.unlimited refl

  -- ---- two chunks cut to one

  module _ (area : List ℕ) where
    abbrev full : Volume
    full = reshaped n 16386 (shape v.store 32768 (row n 0 0 ∷ row n 1 16384 ∷ []) area) v

    full-row : node n full.names ≡ some (sized 16386 r)
    full-row = node-here n (sized 16386) (λ a. refl) r v.names s.there

    -- one row left, the other one's pointer free, and a zero where the file now ends
    abbrev less : Store
    less = with_bytes (over area 16383 (0 ∷ [])) (with_chunks (row n 0 0 ∷ []) (with_allocator (release 16384 full.store.allocator) full.store))

    cut : shrunk n 16383 full.store ≡ less
    unfolding shrunk tail_zeroed cut_from released only goes round_up pick both put put_for chunk find part zeros release
    cut = rw (eq-eqb n n refl, eq-eqb n n refl) refl

    abbrev cut_down : Volume
    cut_down = reshaped n 16383 less full

    cuts : resize n 16383 full ≡ becomes 0 cut_down
    cuts =
        resize-cuts n 16383 full (sized 16386 r) (resizes n (sized 16386 r) full full-row s.file 16383 (omega (arith, limit))) (omega arith)
        ∙ ap (λ (t : Store). becomes 0 (reshaped n 16383 t full)) cut

    word-free : free less.allocator ≡ 16384 ∷ []
    unfolding free release
    word-free = take-suc-set v.store.allocator.words 0 16384 (omega (arith, s.fits.store.words, s.room))

    -- grown again
    abbrev again : Volume
    again = on_names (with_node n (sized 16386)) cut_down

    less-row : node n cut_down.names ≡ some (sized 16383 r)
    less-row = node-here n (sized 16383) (λ a. refl) (sized 16386 r) full.names full-row

    again-row : node n again.names ≡ some (sized 16386 r)
    again-row = node-here n (sized 16386) (λ a. refl) (sized 16383 r) cut_down.names less-row

    grows-again : resize n 16386 cut_down ≡ becomes 0 again
    grows-again = resize-grows n 16386 cut_down (sized 16383 r) (resizes n (sized 16383 r) cut_down less-row s.file 16386 (omega (arith, limit))) (omega arith)

    zeros-again : 16383 ≤ length area → bytes_from again.store n 16383 3 ≡ 0 ∷ 0 ∷ 0 ∷ []
    unfolding bytes_from byte_at chunk find pick both release
    zeros-again h = rw (eq-eqb n n refl, over-at area 16383 (0 ∷ []) 0 h (omega arith)) refl

    reads : 16383 ≤ length area → read n 16383 again (1 ∷ 1 ∷ 1 ∷ []) ≡ done 3 (0 ∷ 0 ∷ 0 ∷ [])
    unfolding read read_file on_file on_row read_count pick over release
    reads h = rw (again-row, s.file, number n r v s, zeros-again h) refl

  -- ---- three bytes, the first one the last of a chunk

  module _ (bs : List ℕ) (three : length bs ≡ 3) where
    abbrev filled : List ℕ
    filled = (written n 16383 bs v.store).bytes

    two-written : written n 16383 bs v.store ≡ shape v.store 32768 (row n 0 0 ∷ row n 1 16384 ∷ []) filled
    unfolding written write_chunks
    two-written =
        parted (λ t. written n 16383 bs t ≡ shape v.store 32768 (row n 0 0 ∷ row n 1 16384 ∷ []) (written n 16383 bs t).bytes)
        (rw (three, first n 16383 bs v.store 0 v.store.bytes) (second n 16383 bs v.store (write_chunk n 16383 bs 0 (shape v.store 0 [] v.store.bytes)).bytes))

    two-holes : holes n 16383 (length bs) v.store ≡ 2
    unfolding holes missing chunk find
    two-holes = rw three (parted (λ t. holes n 16383 3 t ≡ 2) refl)

    writes-two : write n 16383 bs v ≡ becomes (length bs) (wrote n 16383 bs r v)
    writes-two = writes n r v s.there s.file 16383 bs (λ e. omega (arith, three)) (omega (arith, three, limit)) (omega (arith, two-holes, two-left))

    two_size : written_size 16383 bs r ≡ 16386
    two_size = omega (arith, three, s.empty)

    -- write 3 bytes at 16,383, first in the volume: pointers 0 and 16,384, size 16,386
    pub p1 : ((write n 16383 bs v).answer ≡ Ok 3) × ((write n 16383 bs v).after.store.chunks ≡ row n 0 0 ∷ row n 1 16384 ∷ []) × (node n (write n 16383 bs v).after.names ≡ some (sized 16386 r))
    p1 =
        rw writes-two (
          ap Ok three,
          ap (λ (t : Store). t.chunks) two-written,
          node-here n (sized (written_size 16383 bs r)) (λ a. refl) r v.names s.there ∙ ap (λ (k : ℕ). some (sized k r)) two_size,
        )

    its-full : (write n 16383 bs v).after ≡ full filled
    its-full =
        ap (λ (t : Step). t.after) writes-two
        ∙ ap (λ (t : Store). reshaped n (written_size 16383 bs r) t v) two-written
        ∙ ap (λ (k : ℕ). reshaped n k (shape v.store 32768 (row n 0 0 ∷ row n 1 16384 ∷ []) filled) v) two_size

    long : 16383 ≤ length filled
    long = let k : Fits (full filled) = subst Fits its-full (write_kept n 16383 bs v s.fits s.good).0 in omega (arith, k.store.long)

    -- then resize to 16,383: free word 16 is 16,384
    pub p2 : ((resize n 16383 (write n 16383 bs v).after).answer ≡ Ok 0) × (free (resize n 16383 (write n 16383 bs v).after).after.store.allocator ≡ 16384 ∷ [])
    p2 = rw (its-full, cuts filled) (refl, word-free filled)

    -- back to 16,386, read there: 0 0 0
    pub p3 : read n 16383 (resize n 16386 (resize n 16383 (write n 16383 bs v).after).after).after (1 ∷ 1 ∷ 1 ∷ []) ≡ done 3 (0 ∷ 0 ∷ 0 ∷ [])
    p3 = rw (its-full, cuts filled, grows-again filled) (reads filled long)

    -- after the write, empty write at u64::MAX: 0, size kept (16,386)
    pub p4 : ((write n 18446744073709551615 [] (write n 16383 bs v).after).answer ≡ Ok 0) × ((write n 18446744073709551615 [] (write n 16383 bs v).after).after ≡ (write n 16383 bs v).after)
        × (node n (write n 18446744073709551615 [] (write n 16383 bs v).after).after.names ≡ some (sized 16386 r))
    p4 =
        let there : node n (write n 16383 bs v).after.names ≡ some (sized 16386 r) = p1.2 in
        rw (writes-none n (sized 16386 r) (write n 16383 bs v).after there s.file 18446744073709551615) (refl, refl, there)

  -- ---- one byte at the end of all sizes

  module _ (bs : List ℕ) (one : length bs ≡ 1) where
    -- one byte at 2^40: 5
    pub p5 : ((write n (2 ^ 40) bs v).answer ≡ Err FileTooLarge) × ((write n (2 ^ 40) bs v).after ≡ v)
    unfolding write write_file on_file on_row pick
    p5 = rw (s.there, s.file, s.unlimited, one) (refl, refl)

    one_written : written n 1099511627775 bs v.store ≡ shape v.store 16384 (row n 67108863 0 ∷ []) (written n 1099511627775 bs v.store).bytes
    unfolding written write_chunks
    one_written =
        parted (λ t. written n 1099511627775 bs t ≡ shape v.store 16384 (row n 67108863 0 ∷ []) (written n 1099511627775 bs t).bytes)
        (rw one (first n 1099511627775 bs v.store 67108863 v.store.bytes))

    one-hole : holes n 1099511627775 (length bs) v.store ≡ 1
    unfolding holes missing chunk find
    one-hole = rw one (parted (λ t. holes n 1099511627775 1 t ≡ 1) refl)

    -- at 2^40 - 1: index 67,108,863
    pub p6 : ((write n 1099511627775 bs v).answer ≡ Ok 1) × ((write n 1099511627775 bs v).after.store.chunks ≡ row n 67108863 0 ∷ [])
    p6 =
        rw (writes n r v s.there s.file 1099511627775 bs (λ e. omega (arith, one)) (omega (arith, one, limit)) (omega (arith, one-hole, two-left)))
        (ap Ok one, ap (λ (t : Store). t.chunks) one_written)

  -- ---- grown, then cut

  abbrev grown : Volume
  grown = on_names (with_node n (sized 40000)) v

  grown-row : node n grown.names ≡ some (sized 40000 r)
  grown-row = node-here n (sized 40000) (λ a. refl) r v.names s.there

  none-taken : (shrunk n 20000 v.store).chunks ≡ []
  unfolding shrunk tail_zeroed cut_from released only round_up put put_for chunk find
  none-taken = parted (λ t. (shrunk n 20000 t).chunks ≡ []) refl

  -- empty file to 40,000, then 20,000: no row
  pub p7 : ((resize n 20000 (resize n 40000 v).after).answer ≡ Ok 0) × ((resize n 20000 (resize n 40000 v).after).after.store.chunks ≡ [])
  p7 =
      let e : resize n 40000 v ≡ becomes 0 grown = resize-grows n 40000 v r (resizes n r v s.there s.file 40000 (omega (arith, limit))) (omega (arith, s.empty)) in
      let k : resize n 20000 grown ≡ becomes 0 (reshaped n 20000 (shrunk n 20000 v.store) grown) = resize-cuts n 20000 grown (sized 40000 r) (resizes n (sized 40000 r) grown grown-row s.file 20000 (omega (arith, limit))) (omega arith) in
      rw (e, k) (refl, none-taken)
