-- A file's chunks freed from an index on: what stays, what goes, and what the volume keeps. Over any chunk size.
-- Assumes nothing.
use mathlib.Core.Path.{◌≡◌, refl, sym, ◌∙◌}
use mathlib.Core.Bool.{not}
use mathlib.Core.List.{List, [], ◌∷◌, map}
use mathlib.Core.Option.{none}
use Prim.Native.Nat.{◌^◌, ℕ, suc, ◌+◌, ◌/◌, ◌≤◌, ◌<◌}
use native.Mathlib.Nat.{div-lt_iff_lt-mul, suc-mul}
use native.Mathlib.Omega.{arith}
use lib.ListN.{length, length-map}
use lib.Seq.{length-take-le}
use Rattle.words.specs.Tables.{Each, only}
use Rattle.words.specs.Rules.{Says}
use Rattle.words.proofs.Rules.{says_both, says-eqb, says-leb, says-true, true-says, false-says}
use Rattle.allocator.specs.Allocator.{free, released}
use Rattle.allocator.specs.Pointers.{Accounted}
use Rattle.allocator.proofs.Counted.{all-pointers}
use Rattle.volume.specs.declared.ChunkRow.{ChunkRow}
use Rattle.volume.specs.Volume.{Store, with_allocator}
use Rattle.volume.specs.Framed.{ChunkFits, StoreFits}
use Rattle.volume.specs.Sound.{chunk_before}
use Rattle.volume.proofs.Framed.{fits-chunks, fits-allocator}
use Rattle.tables.specs.OneRow.{is_chunk, chunk}
use Rattle.tables.proofs.ChunkCursor.{says-chunk}
use Rattle.tables.proofs.StoredRows.{live, stored-accounted}
use Rattle.store.specs.Content.{byte_at}
use Rattle.store.specs.Cut.{goes, cut_from}
use Rattle.store.specs.Workable.{Workable}
use Rattle.words.proofs.Only.{rest, each-only, asc-only, find-only, find-gone, length_both, count-both}
use Rattle.allocator.proofs.Released.{released-accounts, all_fit, Freed, freed-all}

-- ---- pointers freed

-- the pointers of rows that fit
pub pointers-small : (cs : List ChunkRow) → Each ChunkFits cs → Each (λ p. p < 2 ^ 64) (map (λ c. c.pointer) cs)
unfolding Each
pointers-small [] h = tt
pointers-small (c ∷ cs) h = (h.0.pointer, pointers-small cs h.1)

-- the store with them freed
pub released-fits : (v : Store) → StoreFits v → (ps : List ℕ) → Each (λ p. p < 2 ^ 64) ps → v.allocator.free_count + length ps ≤ v.chunk_room → StoreFits (with_allocator (released ps v.allocator) v)
released-fits v f ps h k =
    let a = freed-all ps v.allocator in
    fits-allocator v f (released ps v.allocator) (a.mark ∙ f.mark) (all_fit ps v.allocator h (omega (arith, f.chunk_room)) (record { twelve = f.twelve; small = f.small })) (a.words ∙ f.words) (rw a.size f.size) (omega (arith, a.count))

-- ---- room for what may be freed

-- rows and free pointers together have their words
pub rows-and-free : (v : Store) → Workable v → length v.chunks + v.allocator.free_count ≤ v.chunk_room
rows-and-free v s =
    let a = v.allocator in
    let k = all-pointers a (live v) s.size s.stored.lined (stored-accounted v s.stored) in
    let m = length-map v.chunks (λ r. r.pointer) in
    let h : a.next_ptr / a.chunk_size < suc v.chunk_room = (div-lt_iff_lt-mul s.size).1 (rw suc-mul (omega (arith, s.stored.enough, s.size))) in
    let f : length (free a) ≡ a.free_count = unfold free in length-take-le a.free_count a.words (omega (arith, s.words, s.frees)) in
    omega arith

module _ (n c : ℕ) where
  -- ---- which rows go

  pub says-goes : (r : ChunkRow) → Says ((r.node ≡ n) × (c ≤ r.index)) (goes n c r)
  unfolding goes
  says-goes r = says_both (says-eqb r.node n) (says-leb c r.index)

  module _ (v : Store) where
    -- the rows that go, and their pointers
    abbrev pub going : List ChunkRow
    going = only (goes n c) v.chunks

    abbrev pub freed : List ℕ
    freed = map (λ r. r.pointer) going

    length-freed : length freed ≡ length going
    length-freed = length-map going (λ r. r.pointer)

    -- the allocator, but for which pointers are free
    pub cut-allocator : Freed (length freed) v.allocator (cut_from n c v).allocator
    unfolding cut_from
    cut-allocator = freed-all freed v.allocator

    -- ---- what stays as it was

    pub cut-size : (cut_from n c v).allocator.chunk_size ≡ v.allocator.chunk_size
    cut-size = cut-allocator.size

    -- ---- the chunks of each file

    pub cut-other : (m i : ℕ) → (m ≡ n → ⊥) → chunk m i (cut_from n c v).chunks ≡ chunk m i v.chunks
    unfolding cut_from chunk
    cut-other m i h = find-only (is_chunk m i) (λ r. not (goes n c r)) v.chunks (λ r e. rw (false-says (says-goes r) (λ g. h (sym (says-true (says-chunk m i r) e).0 ∙ g.0))))

    pub cut_low : (i : ℕ) → i < c → chunk n i (cut_from n c v).chunks ≡ chunk n i v.chunks
    unfolding cut_from chunk
    cut_low i h = find-only (is_chunk n i) (λ r. not (goes n c r)) v.chunks (λ r e. rw (false-says (says-goes r) (λ g. omega (arith, (says-true (says-chunk n i r) e).1, g.1))))

    pub cut_high : (i : ℕ) → c ≤ i → chunk n i (cut_from n c v).chunks ≡ none
    unfolding cut_from chunk
    cut_high i h = find-gone (is_chunk n i) (λ r. not (goes n c r)) v.chunks (λ r e. let q = says-true (says-chunk n i r) e in rw (true-says (says-goes r) (q.0, omega (arith, q.1))))

    -- ---- the bytes of each file

    byte-same : (m j : ℕ) → chunk m (j / v.allocator.chunk_size) (cut_from n c v).chunks ≡ chunk m (j / v.allocator.chunk_size) v.chunks → byte_at (cut_from n c v) m j ≡ byte_at v m j
    unfolding byte_at
    byte-same m j e = rw (cut-size, e) (unfold cut_from in refl)

    pub byte-other : (m j : ℕ) → (m ≡ n → ⊥) → byte_at (cut_from n c v) m j ≡ byte_at v m j
    byte-other m j h = byte-same m j (cut-other m (j / v.allocator.chunk_size) h)

    pub byte_low : (j : ℕ) → j / v.allocator.chunk_size < c → byte_at (cut_from n c v) n j ≡ byte_at v n j
    byte_low j h = byte-same n j (cut_low (j / v.allocator.chunk_size) h)

    pub byte_high : (j : ℕ) → c ≤ j / v.allocator.chunk_size → byte_at (cut_from n c v) n j ≡ 0
    unfolding byte_at
    byte_high j h = rw (cut-size, cut_high (j / v.allocator.chunk_size) h)

    module _ (s : Workable v) where
      -- ---- what the volume keeps

      -- the pointers freed have their words
      pub freed-fit : v.allocator.free_count + length freed ≤ v.chunk_room
      freed-fit = omega (arith, rows-and-free v s, length_both (goes n c) v.chunks, length-freed)

      cut-pointers : Accounted (cut_from n c v).allocator (live (cut_from n c v))
      unfolding cut_from
      cut-pointers = released-accounts v.allocator freed (live v) (live (cut_from n c v)) (omega (arith, freed-fit, s.words)) (λ q. sym (count-both (λ r. r.pointer) (goes n c) q v.chunks)) (stored-accounted v s.stored)

      pub cut-stored : Workable (cut_from n c v)
      cut-stored = unfold cut_from in record {
        size = rw cut-allocator.size s.size;
        stored = record {
          order = asc-only chunk_before (λ r. not (goes n c r)) v.chunks s.stored.order;
          lined = rw (cut-allocator.size, cut-allocator.next) s.stored.lined;
          inside = rw cut-allocator.next s.stored.inside;
          enough = rw (cut-allocator.size, cut-allocator.next) s.stored.enough;
          pointers = unfold Accounted in cut-pointers;
        };
        rows = omega (arith, s.rows, length_both (goes n c) v.chunks);
        words = cut-allocator.words ∙ s.words;
        frees = omega (arith, cut-allocator.count, freed-fit);
      }

      pub cut_fits : StoreFits v → StoreFits (cut_from n c v)
      unfolding cut_from
      cut_fits f =
          fits-chunks (with_allocator (released freed v.allocator) v) (released-fits v f freed (pointers-small going (each-only ChunkFits (goes n c) v.chunks f.chunk_rows)) freed-fit)
          (rest (goes n c) v.chunks) (omega (arith, f.chunks, length_both (goes n c) v.chunks)) (each-only ChunkFits (λ r. not (goes n c r)) v.chunks f.chunk_rows)
