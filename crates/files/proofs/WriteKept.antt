-- What a write leaves: after a refusal or an empty write the volume as it was; after an accepted one a good volume that fits, in which the
-- file has the bytes written and the greater of its size and their end, and all else is as before.
-- Assumes nothing.
use Rattle.std.specs.Prelude.{Ok, Err}
use mathlib.Core.Path.{◌≡◌, refl, sym, ap, ◌∙◌}
use mathlib.Core.Bool.{Bool, true, false}
use mathlib.Core.List.{List}
use mathlib.Core.Option.{Option, none, some}
use Prim.Native.Nat.{ℕ, ◌+◌, ◌*◌, ◌^◌, ◌≤◌, ◌<◌, max}
use native.Mathlib.Omega.{arith}
use lib.Dec.{eqb, ltb}
use lib.ListN.{length}
use Rattle.words.specs.Rules.{pick, Says, holds, fails}
use Rattle.words.proofs.Rules.{says-eqb, says-ltb}
use Rattle.types.specs.Nodes.{file_limit}
use Rattle.types.specs.Answers.{value}
use Rattle.types.specs.declared.Error.{Error}
use Rattle.types.specs.declared.Error.TheVariants.{FileTooLarge, NoChunkRoom}
use Rattle.types.specs.declared.FileType.TheVariants.{Directory}
use Rattle.types.specs.declared.NodeRecord.{NodeRecord}
use Rattle.types.proofs.Nodes.{limit-most}
use Rattle.volume.specs.declared.ChunkRow.{ChunkRow}
use Rattle.volume.specs.Volume.{Store, Volume}
use Rattle.volume.specs.Steps.{Step, stays, becomes}
use Rattle.volume.specs.Framed.{NodeFits, Fits}
use Rattle.volume.specs.Sound.{NodeGood, Good, node}
use Rattle.volume.proofs.Rounding.{lt_up}
use Rattle.tables.specs.OneRow.{sized, chunk}
use Rattle.store.specs.Content.{byte_at}
use Rattle.store.specs.Room.{room, holes}
use Rattle.store.specs.Written.{written}
use Rattle.files.specs.Write.{write_file, write}
use Rattle.files.specs.Effects.{Wrote, written_size}
use Rattle.store.specs.Workable.{Workable}
use Rattle.store.proofs.Workable.{stored-workable}
use Rattle.tables.proofs.NodeRows.{node-is, node-each}
use Rattle.store.proofs.KeptFields.{kept-written}
use Rattle.store.proofs.Written.{written-stored, fits-written, written_in, written-away, written-beside, written_new}
use Rattle.store.proofs.OwnedContent.{Reached, zero-above, owned-reached}
use Rattle.files.proofs.Reshaped.{Reshaped, reshaped, sized-kept}
use Rattle.tables.proofs.ChangedNames.{node-here, node-other}
use Rattle.tables.proofs.Files.{OnFile, stops, goes_on, on-file}

-- ---- the cases of a write

-- what an accepted write has passed
pub record Accepts (n offset : ℕ) (bs : List ℕ) (v : Volume) (r : NodeRecord) : Type 0 where
  pub there : node n v.names ≡ some r
  pub file : r.kind ≡ Directory → ⊥
  pub some_bytes : 0 < length bs
  pub within : offset + length bs ≤ file_limit r.limit
  pub enough : holes n offset (length bs) v.store ≤ room v.store

-- what an accepted write leaves
abbrev pub wrote : ℕ → ℕ → List ℕ → NodeRecord → Volume → Volume
wrote n offset bs r v = reshaped n (written_size offset bs r) (written n offset bs v.store) v

-- what holds of each case holds of a write
pub write-cases : (P : Step → Type 0) (n offset : ℕ) (bs : List ℕ) (v : Volume) → ((e : Error) → P (stays e v)) → (length bs ≡ 0 → P (becomes 0 v))
    → ((r : NodeRecord) → Accepts n offset bs v r → P (becomes (length bs) (wrote n offset bs r v))) → P (write n offset bs v)
unfolding write write_file pick
write-cases P n offset bs v refusal empty accepted = go (write n offset bs v) (on-file n v.names (λ e. stays e v) (write_file offset bs v))
  where
    from-file : (r : NodeRecord) → node n v.names ≡ some r → r.node ≡ n → (r.kind ≡ Directory → ⊥) → (b : Bool) → Says (length bs ≡ 0) b → (c : Bool) → Says (file_limit r.limit < offset + length bs) c
        → (d : Bool) → Says (room v.store < holes r.node offset (length bs) v.store) d
        → P (pick b (becomes 0 v) (pick c (stays FileTooLarge v) (pick d (stays NoChunkRoom v) (becomes (length bs) (reshaped r.node (max r.size (offset + length bs)) (written r.node offset bs v.store) v)))))
    from-file r e i k true (holds p) c q d s = empty p
    from-file r e i k false (fails p) true q d s = refusal FileTooLarge
    from-file r e i k false (fails p) false (fails q) true s = refusal NoChunkRoom
    from-file r e i k false (fails p) false (fails q) false (fails s) =
        let enough : room v.store < holes n offset (length bs) v.store → ⊥ = rw i at s in
        rw i (accepted r (record { there = e; file = k; some_bytes = omega arith; within = omega arith; enough = omega arith }))

    go : (s : Step) → OnFile Step n v.names (λ e. stays e v) (write_file offset bs v) s → P s
    go s (stops e) = refusal e
    go s (goes_on r e i k) =
        from-file r e i k (eqb (length bs) 0) (says-eqb (length bs) 0) (ltb (file_limit r.limit) (offset + length bs)) (says-ltb (file_limit r.limit) (offset + length bs))
        (ltb (room v.store) (holes r.node offset (length bs) v.store)) (says-ltb (room v.store) (holes r.node offset (length bs) v.store))

-- ---- an accepted write

module _ (n offset : ℕ) (bs : List ℕ) (v : Volume) (f : Fits v) (g : Good v) (r : NodeRecord) (a : Accepts n offset bs v r) where
  abbrev s : Store
  s = v.store

  st : Workable s
  st = stored-workable s f.store g.stored

  abbrev t : Store
  t = written n offset bs s

  abbrev z : ℕ
  z = written_size offset bs r

  row-good : NodeGood v.names.entries r
  row-good = node-each n v.names r a.there (NodeGood v.names.entries) g.named.nodes

  row_fits : NodeFits r
  row_fits = node-each n v.names r a.there NodeFits f.names.node_rows

  end-most : offset + length bs ≤ 2 ^ 64
  end-most = omega (arith, limit-most r.limit row_fits.limit, a.within)

  away : (m j : ℕ) → (n ≡ m → offset ≤ j → j < offset + length bs → ⊥) → byte_at t m j ≡ byte_at s m j
  away = written-away s st n offset bs a.some_bytes a.enough

  -- a chunk of the file starts below its new size: it was there, or is one of those touched
  its-chunks : (k : ℕ) (c : ChunkRow) → chunk n k t.chunks ≡ some c → k * s.allocator.chunk_size < z
  its-chunks k c e = go (chunk n k s.chunks) refl
    where
      go : (o : Option ChunkRow) → chunk n k s.chunks ≡ o → k * s.allocator.chunk_size < z
      go none q = omega (arith, (written_new s st n offset bs a.some_bytes a.enough n k c q e).1.behind)
      go (some d) q =
          let h : Reached s n k (some r) = rw a.there at (owned-reached v.names s st.size g.owned n k d q) in
          omega (arith, lt_up s.allocator.chunk_size r.size k st.size h.below)

  shape : Reshaped s t n z
  shape = record {
    size = (kept-written n offset bs s).rest.size;
    workable = written-stored s st n offset bs a.some_bytes a.enough;
    fits = fits-written s st n offset bs a.some_bytes a.enough f.store (rw (node-is n v.names r a.there) at row_fits.node) end-most;
    rows = λ m k h. written-beside s st n offset bs a.some_bytes a.enough m k (λ e t. h (sym e));
    bytes = λ m j h. away m j (λ e l b. h (sym e));
    below = its-chunks;
    above = λ j h. away n j (λ e l b. omega arith) ∙ zero-above v.names s st.size g.owned n j r a.there (omega arith);
  }

  wrote_kept : Fits (wrote n offset bs r v) × Good (wrote n offset bs r v)
  wrote_kept = sized-kept v t n z shape f g r a.there a.file (omega (arith, a.within, row-good.size))

  its-shows : Wrote n offset bs v (wrote n offset bs r v)
  its-shows = record {
    row = r;
    there = a.there;
    file = a.file;
    within = a.within;
    changed = node-here n (sized z) (λ b. refl) r v.names a.there;
    others = node-other n (sized z) (λ b. refl) r v.names a.there;
    entries = refl;
    next_node = refl;
    inside = written_in s st n offset bs a.some_bytes a.enough;
    outside = λ m j h. away m j (λ e. h (sym e));
  }

-- ---- any write

-- a good volume that fits stays one
pub write_kept : (n offset : ℕ) (bs : List ℕ) (v : Volume) → Fits v → Good v → Fits (write n offset bs v).after × Good (write n offset bs v).after
write_kept n offset bs v f g = write-cases (λ s. Fits s.after × Good s.after) n offset bs v (λ e. (f, g)) (λ e. (f, g)) (wrote_kept n offset bs v f g)

-- an accepted write of bytes gives their number, and shows them
pub write-shows : (n offset : ℕ) (bs : List ℕ) (v : Volume) → Fits v → Good v → 0 < length bs → (k : ℕ) → (write n offset bs v).answer ≡ Ok k → (k ≡ length bs) × Wrote n offset bs v (write n offset bs v).after
write-shows n offset bs v f g h k =
    write-cases (λ s. s.answer ≡ Ok k → (k ≡ length bs) × Wrote n offset bs v s.after) n offset bs v (λ e q. absurd cc) (λ e q. absurd (omega arith))
    (λ r a q. (sym (ap value q), its-shows n offset bs v f g r a))

-- a refusal leaves the volume as it was
pub write-refused : (n offset : ℕ) (bs : List ℕ) (v : Volume) (e : Error) → (write n offset bs v).answer ≡ Err e → (write n offset bs v).after ≡ v
write-refused n offset bs v e =
    write-cases (λ s. s.answer ≡ Err e → s.after ≡ v) n offset bs v (λ d q. refl) (λ d q. refl) (λ r a q. absurd cc)

-- an accepted empty write gives 0 and leaves the volume as it was
pub write-empty : (n offset : ℕ) (bs : List ℕ) (v : Volume) → length bs ≡ 0 → (k : ℕ) → (write n offset bs v).answer ≡ Ok k → (k ≡ 0) × ((write n offset bs v).after ≡ v)
write-empty n offset bs v h k =
    write-cases (λ s. s.answer ≡ Ok k → (k ≡ 0) × (s.after ≡ v)) n offset bs v (λ e q. absurd cc) (λ e q. (sym (ap value q), refl))
    (λ r a q. absurd (omega (arith, a.some_bytes)))
