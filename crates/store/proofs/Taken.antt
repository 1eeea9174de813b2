-- A chunk taken for an index without a row: the volume stays stored, shows the same bytes, has the new row and the other ones, and room for
-- one chunk less. Over any chunk size.
-- Assumes nothing.
use mathlib.Core.Path.{◌≡◌, refl, ap, ◌∙◌}
use mathlib.Core.Bool.{false}
use mathlib.Core.Logic.{inl, inr}
use mathlib.Core.List.{List, ◌∷◌}
use mathlib.Core.Option.{Option, none, some}
use Prim.Native.Nat.{ℕ, suc, ◌+◌, ◌/◌, ◌%◌, ◌≤◌, ◌<◌}
use native.Mathlib.Nat.{mod-lt}
use native.Mathlib.Decide.{dec_lt}
use native.Mathlib.Omega.{arith}
use lib.ListN.{length, get_or, get_or-replicate, length-map}
use Rattle.words.specs.Bytes.{zeros}
use Rattle.words.specs.Rules.{count}
use Rattle.words.specs.Tables.{Asc, lead, insert_at}
use Rattle.words.proofs.Rules.{says-true, true-says, false-says, says-false}
use Rattle.words.proofs.Order.{insert-asc, each_map}
use Rattle.words.proofs.Parts.{length_over, length-zeros}
use Rattle.words.proofs.Tables.{length-insert_at}
use Rattle.words.proofs.Search.{lead-le, lead-insert}
use Rattle.words.proofs.Counting.{count-cons, bit-same}
use Rattle.words.proofs.Multiples.{gap}
use Rattle.words.proofs.FoundRows.{none_passes, find-insert-other, find-insert-here, count-insert, count-found}
use Rattle.words.proofs.Written.{over-at}
use Rattle.allocator.specs.Allocator.{Allocator, allocate}
use Rattle.allocator.specs.Pointers.{Accounted, Due}
use Rattle.allocator.proofs.Accounts.{allocate-accounts, allocate-lined, live-once}
use Rattle.allocator.proofs.Allocated.{Rest, allocate-rest, allocate-count, allocate-inside, allocate-left, allocate-enough, left}
use Rattle.volume.specs.declared.ChunkRow.{ChunkRow}
use Rattle.volume.specs.Volume.{Store}
use Rattle.volume.specs.Search.{chunk_under, PairBefore}
use Rattle.volume.specs.Sound.{chunk_before}
use Rattle.tables.specs.OneRow.{is_chunk, chunk}
use Rattle.volume.proofs.PairOrder.{pair-trans}
use Rattle.store.specs.Content.{byte_at}
use Rattle.store.specs.Room.{room}
use Rattle.store.specs.Taken.{taken, ensured, ensured_for}
use Rattle.tables.proofs.ChunkCursor.{says-chunk, says-under}
use Rattle.store.specs.Workable.{Workable}
use Rattle.tables.proofs.StoredRows.{live, stored-accounted}
use Rattle.store.proofs.ChunkPlaces.{Other, same-or-other, Far, lined-far, row-due-found, byte-elsewhere}

-- a chunk made sure of: what holds of it taken where its index is a hole, and of the store where it is there
pub ensured-cases : (n k : ℕ) (v : Store) (P : Store → Type 0) → (chunk n k v.chunks ≡ none → P (taken n k v)) → ((c : ChunkRow) → chunk n k v.chunks ≡ some c → P v) → P (ensured n k v)
unfolding ensured ensured_for
ensured-cases n k v P gap there = go (chunk n k v.chunks) refl
  where
    go : (o : Option ChunkRow) → chunk n k v.chunks ≡ o → P (ensured_for o n k v)
    go none e = gap e
    go (some c) e = there c e

-- the row of a chunk taken
abbrev pub new_row : ℕ → ℕ → Store → ChunkRow
new_row n k v = record { node = n; index = k; pointer = (allocate v.allocator).pointer }

-- ---- the rows stay in order

behind : (n k a b : ℕ) → (PairBefore a b n k → ⊥) → ((a ≡ n) × (b ≡ k) → ⊥) → PairBefore n k a b
behind n k a b h e = go (dec_lt n a) (dec_lt a n) (dec_lt k b) (dec_lt b k)
  where
    go : Dec (n < a) → Dec (a < n) → Dec (k < b) → Dec (b < k) → PairBefore n k a b
    go (yes x) y p q = inl x
    go (no x) (yes y) p q = absurd (h (inl y))
    go (no x) (no y) (yes p) q = inr (omega arith, p)
    go (no x) (no y) (no p) (yes q) = absurd (h (inr (omega arith, q)))
    go (no x) (no y) (no p) (no q) = absurd (e (omega arith, omega arith))

inserted-asc : (n k : ℕ) (cs : List ChunkRow) (p : ℕ) → chunk n k cs ≡ none → Asc chunk_before cs → Asc chunk_before (insert_at (lead (chunk_under n k) cs) (record { node = n; index = k; pointer = p }) cs)
unfolding chunk
inserted-asc n k cs p e a =
    insert-asc chunk_before (λ x y z. pair-trans x.node x.index y.node y.index z.node z.index) (chunk_under n k) (record { node = n; index = k; pointer = p })
    (λ r q. says-true (says-under n k r k) q) cs a
    (each_map (λ r. is_chunk n k r ≡ false) (λ r. chunk_under n k r ≡ false → chunk_before (record { node = n; index = k; pointer = p }) r)
    (λ r q u. behind n k r.node r.index (says-false (says-under n k r k) u) (says-false (says-chunk n k r) q)) cs (none_passes (is_chunk n k) cs e))

module _ (v : Store) (st : Workable v) (some-room : 1 ≤ room v) where
  abbrev S : ℕ
  S = v.allocator.chunk_size

  abbrev given : ℕ
  given = (allocate v.allocator).pointer

  abbrev after : Allocator
  after = (allocate v.allocator).after

  rest : Rest v.allocator after
  rest = allocate-rest v.allocator

  -- ---- the pointer taken

  some_left : 1 ≤ left (length v.bytes) v.allocator
  unfolding room
  some_left = omega (arith, some-room)

  rows-fewer : length v.chunks < v.chunk_room
  unfolding room
  rows-fewer = omega (arith, some-room)

  counts : v.allocator.free_count ≤ length v.allocator.words
  counts = omega (arith, st.frees, st.words)

  account : Accounted after (given ∷ live v)
  account = allocate-accounts v.allocator (live v) st.size st.stored.lined counts (stored-accounted v st.stored)

  its-due : (count given (given ∷ live v) ≡ 1) × Due after.chunk_size after.next_ptr given
  its-due = let o = live-once after (given ∷ live v) given account (omega (arith, count-cons given given (live v), bit-same given)) in (o.0, o.2)

  given-lined : given % S ≡ 0
  given-lined = rw rest.size at its-due.1.lined

  pub given_below : given + S ≤ after.next_ptr
  given_below =
      let l : after.next_ptr % S ≡ 0 = rw rest.size at (allocate-lined v.allocator st.stored.lined) in
      gap S given after.next_ptr st.size given-lined l its-due.1.low

  pub given_inside : given + S ≤ length v.bytes
  given_inside = omega (arith, given_below, allocate-inside v.allocator (length v.bytes) st.size st.stored.inside some_left)

  -- no chunk has it
  given-far : (m i : ℕ) (c : ChunkRow) → chunk m i v.chunks ≡ some c → Far S given c.pointer
  unfolding chunk
  given-far m i c e =
      lined-far S given c.pointer st.size given-lined (row-due-found v st m i c e).lined
      (λ q. let u : 1 ≤ count given (live v) = rw q (count-found (λ r. r.pointer) (is_chunk m i) v.chunks c e) in
      omega (arith, its-due.0, count-cons given given (live v), bit-same given))

  -- ---- the chunk taken

  module _ (n k : ℕ) where
    pub taken-long : length (taken n k v).bytes ≡ length v.bytes
    unfolding taken
    taken-long = length_over v.bytes given (zeros S) (omega (arith, given_inside, length-zeros S))

    taken-rows : length (taken n k v).chunks ≡ suc (length v.chunks)
    unfolding taken
    taken-rows = length-insert_at (lead (chunk_under n k) v.chunks) (new_row n k v) v.chunks (lead-le (chunk_under n k) v.chunks) ∙ omega arith

    pub taken-room : suc (room (taken n k v)) ≡ room v
    unfolding room taken
    taken-room = rw taken-long (omega (arith, taken-rows, rows-fewer, allocate-left v.allocator (length v.bytes) st.size st.stored.inside some_left))

    -- the place of its row is as it was
    pub taken-lead : lead (chunk_under n k) (taken n k v).chunks ≡ lead (chunk_under n k) v.chunks
    unfolding taken
    taken-lead = lead-insert (chunk_under n k) (new_row n k v) v.chunks (false-says (says-under n k (new_row n k v) k) not-before)
      where
        not-before : PairBefore n k n k → ⊥
        not-before (inl h) = omega arith
        not-before (inr h) = omega (arith, h.1)

    pub taken-other : (m i : ℕ) → Other n k m i → chunk m i (taken n k v).chunks ≡ chunk m i v.chunks
    unfolding chunk taken
    taken-other m i other = find-insert-other (is_chunk m i) (lead (chunk_under n k) v.chunks) (new_row n k v) v.chunks (false-says (says-chunk m i (new_row n k v)) other)

    taken-size : (taken n k v).allocator.chunk_size ≡ S
    unfolding taken
    taken-size = rest.size

    taken-zero : (x : ℕ) → x < S → get_or (taken n k v).bytes (given + x) 0 ≡ 0
    unfolding taken
    taken-zero x h = over-at v.bytes given (zeros S) x (omega (arith, given_inside)) (rw (length-zeros S) h) ∙ (unfold zeros in get_or-replicate S x 0 0 h)

    module _ (hole : chunk n k v.chunks ≡ none) where
      pub taken_here : chunk n k (taken n k v).chunks ≡ some (new_row n k v)
      unfolding chunk taken
      taken_here = find-insert-here (is_chunk n k) (lead (chunk_under n k) v.chunks) (new_row n k v) v.chunks (true-says (says-chunk n k (new_row n k v)) (refl, refl)) hole

      pub taken-stored : Workable (taken n k v)
      unfolding taken Accounted
      taken-stored = record {
        size = rw rest.size st.size;
        stored = record {
          order = inserted-asc n k v.chunks given hole st.stored.order;
          lined = allocate-lined v.allocator st.stored.lined;
          inside = rw taken-long (allocate-inside v.allocator (length v.bytes) st.size st.stored.inside some_left);
          enough = rw rest.size (allocate-enough v.allocator (live v) v.chunk_room st.size st.stored.lined counts (stored-accounted v st.stored) (omega (arith, length-map v.chunks (λ c. c.pointer), rows-fewer)) st.stored.enough);
          pointers = λ p. omega (arith, account p, count-insert (λ c. c.pointer) p (lead (chunk_under n k) v.chunks) (new_row n k v) v.chunks, count-cons p given (live v));
        };
        rows = omega (arith, taken-rows, rows-fewer);
        words = ap length rest.words ∙ st.words;
        frees = omega (arith, allocate-count v.allocator, st.frees);
      }

      -- a chunk taken shows nothing: a hole is zeros, and so is the new chunk
      pub taken-byte : (m j : ℕ) → byte_at (taken n k v) m j ≡ byte_at v m j
      unfolding byte_at
      taken-byte m j =
          rw taken-size
          (same-or-other n k m (j / S) _ (λ x y. rw (← x, ← y, taken_here, hole) (taken-zero (j % S) (mod-lt j st.size)))
          (λ other. rw (taken-other m (j / S) other) (unfold taken in byte-elsewhere v st given (zeros S) given (omega arith) (omega (arith, length-zeros S)) given_inside m j (given-far m (j / S)))))
