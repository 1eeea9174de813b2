-- What a write into chunks of a file does to a store, as one record; and that the piece of bytes that falls into a chunk, put there, does
-- it. Over any chunk size.
-- Assumes nothing.
use mathlib.Core.Path.{◌≡◌, refl, sym, ap, ◌∙◌}
use mathlib.Core.List.{List}
use mathlib.Core.Option.{Option, none, some}
use Prim.Native.Nat.{ℕ, ◌+◌, ◌-◌, ◌*◌, ◌/◌, ◌%◌, ◌^◌, ◌≤◌, ◌<◌}
use native.Mathlib.Decide.{dec_lt}
use native.Mathlib.Omega.{arith}
use lib.ListN.{length, get_or}
use Rattle.words.specs.Bytes.{over}
use Rattle.words.specs.Tables.{lead}
use Rattle.words.proofs.Parts.{length_part, length_over}
use Rattle.words.proofs.Numbers.{get_or-over-before, get_or-over-after}
use Rattle.words.proofs.Multiples.{Parts, parts}
use Rattle.words.proofs.Written.{part_at, over-at}
use Rattle.volume.specs.declared.ChunkRow.{ChunkRow}
use Rattle.volume.specs.Search.{chunk_under}
use Rattle.volume.specs.Volume.{Store, with_bytes}
use Rattle.volume.specs.Framed.{StoreFits}
use Rattle.volume.proofs.Framed.{fits-bytes}
use Rattle.tables.specs.OneRow.{chunk}
use Rattle.store.specs.Content.{byte_at}
use Rattle.store.specs.Room.{room, hole, missing}
use Rattle.store.specs.Written.{low_of, high_of, piece_of, put, put_for}
use Rattle.store.specs.Workable.{Workable}
use Rattle.store.proofs.ChunkPlaces.{Other, same-or-other, row-inside-found, rows-far, byte-elsewhere}
use Rattle.store.proofs.Holes.{hole-lead}

-- bytes from byte offset of a file on touch its chunk k
pub record Touched (s offset len k : ℕ) : Type 0 where
  pub before : offset < k * s + s
  pub behind : k * s < offset + len

-- w is v with what of the bytes falls into c chunks of node n, from chunk k on, written there; s is the chunk size
pub record Writes (s n offset : ℕ) (bs : List ℕ) (k c : ℕ) (v w : Store) : Type 0 where
  pub stored : Workable w
  pub fits : StoreFits v → n < 2 ^ 64 → k + c ≤ 2 ^ 64 → StoreFits w
  -- the room falls by the chunks that were missing
  pub space : missing n c k v.chunks + room w ≡ room v
  -- each of the chunks has its row, and the other rows are as they were
  pub place : lead (chunk_under n (k + c)) w.chunks ≡ lead (chunk_under n k) v.chunks + c
  pub rows : (m i : ℕ) → (n ≡ m → k ≤ i → i < k + c → ⊥) → chunk m i w.chunks ≡ chunk m i v.chunks
  -- the bytes written, and all others as they were
  pub inside : (j : ℕ) → k ≤ j / s → j / s < k + c → offset ≤ j → j < offset + length bs → byte_at w n j ≡ get_or bs (j - offset) 0
  pub outside : (m j : ℕ) → (n ≡ m → k ≤ j / s → j / s < k + c → offset ≤ j → j < offset + length bs → ⊥) → byte_at w m j ≡ byte_at v m j

-- ---- where there is a row, and where there is none

module _ (n offset : ℕ) (bs : List ℕ) (k : ℕ) (v : Store) where
  -- nothing is put into a hole
  pub put-cases : (P : Store → Type 0) → (chunk n k v.chunks ≡ none → P v) → ((c : ChunkRow) → chunk n k v.chunks ≡ some c → P (put n offset bs k v)) → P (put n offset bs k v)
  unfolding put put_for
  put-cases P gap there = go (chunk n k v.chunks) refl gap there
    where
      go : (o : Option ChunkRow) → chunk n k v.chunks ≡ o → (o ≡ none → P v) → ((c : ChunkRow) → o ≡ some c → P (put_for o offset bs k v)) → P (put_for o offset bs k v)
      go none e gap there = gap refl
      go (some c) e gap there = there c refl

  -- the rows stay
  pub put-rows : (put n offset bs k v).chunks ≡ v.chunks
  put-rows = put-cases (λ w. w.chunks ≡ v.chunks) (λ e. refl) (λ c e. unfold put put_for in rw e)

-- byte j of a file, in the chunk area and in the bytes that are written, by the piece that starts at byte low of it
piece-place : (pointer rest base offset low j : ℕ) → rest ≡ j - base → base ≤ low → offset ≤ low → low ≤ j → (pointer + rest ≡ pointer + (low - base) + (j - low)) × (low - offset + (j - low) ≡ j - offset)
piece-place pointer rest base offset low j e a b d = (omega arith, omega arith)

module _ (v : Store) (st : Workable v) (n offset : ℕ) (bs : List ℕ) (k : ℕ) (t : Touched v.allocator.chunk_size offset (length bs) k) (c : ChunkRow) (found : chunk n k v.chunks ≡ some c) where
  abbrev S : ℕ
  S = v.allocator.chunk_size

  abbrev low : ℕ
  low = low_of S offset k

  abbrev at : ℕ
  at = c.pointer + (low - k * S)

  abbrev piece : List ℕ
  piece = piece_of S offset bs k

  pub put_is : put n offset bs k v ≡ with_bytes (over v.bytes at piece) v
  unfolding put put_for
  put_is = rw found

  piece-long : length piece ≡ high_of S offset (length bs) k - low
  piece-long = length_part bs (low - offset) (high_of S offset (length bs) k - low) (omega (arith, t.before, t.behind))

  -- the piece lies in its chunk, and that in the chunk area
  inner : at + length piece ≤ c.pointer + S
  inner = omega (arith, piece-long, t.before, t.behind)

  area : c.pointer + S ≤ length v.bytes
  area = row-inside-found v st n k c found

  long : length (over v.bytes at piece) ≡ length v.bytes
  long = length_over v.bytes at piece (omega (arith, inner, area))

  -- ---- what it shows

  put_in : (j : ℕ) → j / S ≡ k → offset ≤ j → j < offset + length bs → byte_at (put n offset bs k v) n j ≡ get_or bs (j - offset) 0
  unfolding byte_at
  put_in j e l h =
      let d = parts st.size j in
      let z : j / S * S ≡ k * S = ap (λ (x : ℕ). x * S) e in
      let i : j - low < high_of S offset (length bs) k - low = omega arith in
      let x = piece-place c.pointer (j % S) (k * S) offset low j (omega arith) (omega arith) (omega arith) (omega arith) in
      rw (put_is, e, found, x.0)
      (over-at v.bytes at piece (j - low) (omega (arith, inner, area)) (rw piece-long i) ∙ part_at bs (low - offset) (high_of S offset (length bs) k - low) (j - low) i ∙ ap (λ (q : ℕ). get_or bs q 0) x.1)

  put-beside : (j : ℕ) → j / S ≡ k → (offset ≤ j → j < offset + length bs → ⊥) → byte_at (put n offset bs k v) n j ≡ byte_at v n j
  unfolding byte_at
  put-beside j e h = rw (put_is, e, found) (go (dec_lt j offset) (dec_lt j (offset + length bs)) (parts st.size j) (ap (λ (x : ℕ). x * S) e) t.before t.behind)
    where
      go : Dec (j < offset) → Dec (j < offset + length bs) → Parts S j → j / S * S ≡ k * S → offset < k * S + S → k * S < offset + length bs → get_or (over v.bytes at piece) (c.pointer + j % S) 0 ≡ get_or v.bytes (c.pointer + j % S) 0
      go (yes l) u d z a b = get_or-over-before v.bytes at piece (c.pointer + j % S) (omega (arith, inner, area)) (omega (arith, d.rest))
      go (no l) (no u) d z a b = get_or-over-after v.bytes at piece (c.pointer + j % S) (omega (arith, d.rest, d.low, d.high, piece-long)) (omega (arith, d.rest, d.high, area))
      go (no l) (yes u) d z a b = absurd (h (omega arith) u)

  put_other : (m j : ℕ) → Other n k m (j / S) → byte_at (put n offset bs k v) m j ≡ byte_at v m j
  put_other m j other = rw put_is (unfold byte_at in byte-elsewhere v st at piece c.pointer (omega arith) inner area m j (λ d e. rows-far v st n k m (j / S) c d other found e))

  put-away : (m j : ℕ) → (n ≡ m → k ≤ j / S → j / S < k + 1 → offset ≤ j → j < offset + length bs → ⊥) → byte_at (put n offset bs k v) m j ≡ byte_at v m j
  put-away m j h = same-or-other n k m (j / S) _ (λ x y. rw (← x) (put-beside j (sym y) (h x (omega arith) (omega arith)))) (put_other m j)

  -- ---- all it does

  pub put-fits : StoreFits v → StoreFits (put n offset bs k v)
  put-fits f = rw put_is (fits-bytes v f (over v.bytes at piece) long)

  pub put-writes : Writes S n offset bs k 1 v (put n offset bs k v)
  unfolding missing room
  put-writes = record {
    stored =
        rw put_is
        (record {
          stored = record { order = st.stored.order; lined = st.stored.lined; inside = rw long st.stored.inside; enough = st.stored.enough; pointers = st.stored.pointers };
          size = st.size;
          rows = st.rows;
          words = st.words;
          frees = st.frees;
        });
    fits = λ f node index. put-fits f;
    space = rw (put_is, found, long) (omega arith);
    place = let z : hole (chunk n k v.chunks) ≡ 0 = ap hole found in rw put_is (omega (arith, hole-lead n v.chunks st.stored.order k));
    rows = λ m i h. rw put_is;
    inside = λ j a b. put_in j (omega arith);
    outside = put-away;
  }
