-- Bytes written chunk by chunk, in index order: one chunk, and c of them. Over any chunk size.
-- Assumes nothing.
use mathlib.Core.Path.{◌≡◌, refl, ap, ◌∙◌, subst}
use mathlib.Core.List.{List}
use mathlib.Core.Option.{none}
use Prim.Native.Nat.{ℕ, zero, suc, ◌+◌, ◌-◌, ◌/◌, ◌≤◌, ◌<◌}
use native.Mathlib.Nat.{add-zero}
use native.Mathlib.Decide.{dec_lt}
use native.Mathlib.Omega.{arith}
use lib.ListN.{length, get_or}
use Rattle.words.specs.Tables.{lead}
use Rattle.volume.specs.declared.ChunkRow.{ChunkRow}
use Rattle.volume.specs.Search.{chunk_under}
use Rattle.volume.specs.Volume.{Store}
use Rattle.tables.specs.OneRow.{chunk}
use Rattle.store.specs.Content.{byte_at}
use Rattle.store.specs.Room.{room, hole, missing}
use Rattle.store.specs.Taken.{taken}
use Rattle.store.specs.Written.{put, write_chunk, write_chunks}
use Rattle.store.specs.Workable.{Workable}
use Rattle.store.proofs.KeptFields.{kept-taken, kept-write_chunk, fits-taken}
use Rattle.store.proofs.Put.{Touched, Writes, put-writes}
use Rattle.store.proofs.Taken.{ensured-cases, new_row, taken-room, taken-lead, taken-other, taken_here, taken-stored, taken-byte}

-- ---- one chunk

module _ (v : Store) (st : Workable v) (n offset : ℕ) (bs : List ℕ) (k : ℕ) (t : Touched v.allocator.chunk_size offset (length bs) k) (enough : hole (chunk n k v.chunks) ≤ room v) where
  abbrev S : ℕ
  S = v.allocator.chunk_size

  -- into a chunk taken
  taken-writes : chunk n k v.chunks ≡ none → Writes S n offset bs k 1 v (put n offset bs k (taken n k v))
  unfolding missing
  taken-writes e =
      let one : 1 ≤ room v = rw e at enough in
      let size = (kept-taken n k v).rest.size in
      let b = subst (λ (x : ℕ). Writes x n offset bs k 1 (taken n k v) (put n offset bs k (taken n k v))) size (put-writes (taken n k v) (taken-stored v st one n k e) n offset bs k (rw size t) (new_row n k v) (taken_here v st one n k e)) in
      record {
        stored = b.stored;
        fits = λ f node index. b.fits (fits-taken v f st n k node (omega arith) one e) node index;
        space = let z : hole (chunk n k (taken n k v).chunks) ≡ 0 = ap hole (taken_here v st one n k e) in rw e (omega (arith, b.space, taken-room v st one n k));
        place = b.place ∙ ap (λ (x : ℕ). x + 1) (taken-lead v st one n k);
        rows = λ m i h. b.rows m i h ∙ taken-other v st one n k m i (λ q. h q.0 (omega (arith, q.1)) (omega (arith, q.1)));
        inside = b.inside;
        outside = λ m j h. b.outside m j h ∙ taken-byte v st one n k e m j;
      }

  write_chunk-writes : Writes S n offset bs k 1 v (write_chunk n offset bs k v)
  unfolding write_chunk
  write_chunk-writes = ensured-cases n k v (λ u. Writes S n offset bs k 1 v (put n offset bs k u)) taken-writes (put-writes v st n offset bs k t)

-- ---- chunk after chunk

missing-same : (n c k : ℕ) (cs ds : List ChunkRow) → ((i : ℕ) → k ≤ i → chunk n i ds ≡ chunk n i cs) → missing n c k ds ≡ missing n c k cs
unfolding missing
missing-same n zero k cs ds h = refl
missing-same n (suc c) k cs ds h = rw (h k (omega arith), missing-same n c (suc k) cs ds (λ i a. h i (omega arith)))

writes-none : {s n offset : ℕ} {bs : List ℕ} {k : ℕ} (v : Store) → Workable v → Writes s n offset bs k 0 v v
unfolding missing
writes-none {k = k} v st =
    record { stored = st; fits = λ f h i. f; space = omega arith; place = rw (add-zero k) (omega arith); rows = λ m i h. refl; inside = λ j x y. absurd (omega arith); outside = λ m j h. refl }

module _ {s n offset : ℕ} {bs : List ℕ} {k : ℕ} (c : ℕ) {u v : Store} (a : Writes s n offset bs k 1 u v) where
  pub next-missing : missing n c (suc k) v.chunks ≡ missing n c (suc k) u.chunks
  next-missing = missing-same n c (suc k) u.chunks v.chunks (λ i h. a.rows n i (λ e x y. omega arith))

  -- one chunk, then the c behind it
  writes-next : {w : Store} → Writes s n offset bs (suc k) c v w → Writes s n offset bs k (suc c) u w
  unfolding missing
  writes-next {w} b =
      let e : suc k + c ≡ k + suc c = omega arith in
      let f : suc k ≡ k + 1 = omega arith in
      record {
        stored = b.stored;
        fits = λ f h i. b.fits (a.fits f h (omega arith)) h (omega arith);
        space = omega (arith, a.space, b.space, next-missing);
        place = rw e at b.place ∙ ap (λ (x : ℕ). lead (chunk_under n x) v.chunks + c) f ∙ omega (arith, a.place);
        rows = λ m i h. b.rows m i (λ e x y. h e (omega arith) (omega arith)) ∙ a.rows m i (λ e x y. h e x (omega arith));
        inside = λ j x y l h. either j (dec_lt k (j / s)) x y l h;
        outside = λ m j h. b.outside m j (λ e x y. h e (omega arith) (omega arith)) ∙ a.outside m j (λ e x y. h e x (omega arith));
      }
    where
      either : (j : ℕ) → Dec (k < j / s) → k ≤ j / s → j / s < k + suc c → offset ≤ j → j < offset + length bs → byte_at w n j ≡ get_or bs (j - offset) 0
      either j (yes q) x y l h = b.inside j q (omega arith) l h
      either j (no q) x y l h = b.outside n j (λ e x y. omega arith) ∙ a.inside j x (omega arith) l h

module _ (n offset : ℕ) (bs : List ℕ) where
  -- c chunks from chunk k on can be written: all of them are touched, and there is room for the missing ones
  pub record Writable (c k : ℕ) (v : Store) : Type 0 where
    pub stored : Workable v
    pub span : (i : ℕ) → k ≤ i → i < k + c → Touched v.allocator.chunk_size offset (length bs) i
    pub enough : missing n c k v.chunks ≤ room v

  module _ (c k : ℕ) (v : Store) (r : Writable (suc c) k v) where
    pub first-touched : Touched v.allocator.chunk_size offset (length bs) k
    first-touched = r.span k (omega arith) (omega arith)

    pub first-enough : hole (chunk n k v.chunks) ≤ room v
    unfolding missing
    first-enough = omega (arith, r.enough)

    pub first-writes : Writes v.allocator.chunk_size n offset bs k 1 v (write_chunk n offset bs k v)
    first-writes = write_chunk-writes v r.stored n offset bs k first-touched first-enough

    next-size : (write_chunk n offset bs k v).allocator.chunk_size ≡ v.allocator.chunk_size
    next-size = (kept-write_chunk n offset bs k v).rest.size

    pub next-writable : Writable c (suc k) (write_chunk n offset bs k v)
    unfolding missing
    next-writable = record {
      stored = first-writes.stored;
      span = λ i a b. rw next-size (r.span i (omega arith) (omega arith));
      enough = omega (arith, r.enough, first-writes.space, next-missing c first-writes);
    }

  pub write_chunks-writes : (c k : ℕ) (v : Store) → Writable c k v → Writes v.allocator.chunk_size n offset bs k c v (write_chunks n offset bs c k v)
  unfolding write_chunks
  write_chunks-writes zero k v r = writes-none v r.stored
  write_chunks-writes (suc c) k v r =
      writes-next c (first-writes c k v r)
      (subst (λ (x : ℕ). Writes x n offset bs (suc k) c (write_chunk n offset bs k v) (write_chunks n offset bs c (suc k) (write_chunk n offset bs k v))) (next-size c k v r)
      (write_chunks-writes c (suc k) (write_chunk n offset bs k v) (next-writable c k v r)))
