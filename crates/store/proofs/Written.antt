-- A write of bytes, its chunks taken in index order: the volume stays stored, shows the bytes, and elsewhere what it showed; the rows of
-- other chunks stay, and a new one is of a touched chunk. Over any chunk size.
-- Assumes nothing.
use mathlib.Core.Path.{◌≡◌, sym, ◌∙◌}
use mathlib.Core.Bool.{Bool, true, false}
use mathlib.Core.List.{List}
use mathlib.Core.Option.{none, some, none-ne-some}
use Prim.Native.Nat.{ℕ, ◌+◌, ◌-◌, ◌*◌, ◌/◌, ◌^◌, ◌≤◌, ◌<◌}
use native.Mathlib.Nat.{div-le_self, mul-le-mul_right}
use native.Mathlib.Decide.{dec_lt}
use native.Mathlib.Omega.{arith}
use lib.Dec.{eqb}
use lib.ListN.{length, get_or}
use Rattle.words.specs.Rules.{Says, holds, fails}
use Rattle.words.proofs.Rules.{says-eqb}
use Rattle.words.proofs.Multiples.{parts, div_mono}
use Rattle.volume.specs.declared.ChunkRow.{ChunkRow}
use Rattle.volume.specs.Volume.{Store}
use Rattle.volume.specs.Framed.{StoreFits}
use Rattle.tables.specs.OneRow.{chunk}
use Rattle.store.specs.Content.{byte_at}
use Rattle.store.specs.Room.{room, first_of, num_of, holes}
use Rattle.store.specs.Written.{written}
use Rattle.store.specs.Workable.{Workable}
use Rattle.store.proofs.Put.{Touched, Writes}
use Rattle.store.proofs.WriteChunks.{Writable, write_chunks-writes}

-- ---- the touched chunks

module _ (s offset len : ℕ) (pos : 0 < s) (some_bytes : 0 < len) where
  first-last : offset / s ≤ (offset + len - 1) / s
  first-last = div_mono {a = offset} {b = offset + len - 1} pos (omega arith)

  -- they are those from the first one on
  span-touched : (i : ℕ) → first_of s offset ≤ i → i < first_of s offset + num_of s offset len → Touched s offset len i
  span-touched i a b =
      let c = parts pos offset in
      let d = parts pos (offset + len - 1) in
      let l : i ≤ (offset + len - 1) / s = omega (arith, first-last) in
      record { before = omega (arith, mul-le-mul_right s a); behind = omega (arith, mul-le-mul_right s l) }

  -- the last of them
  span-end : first_of s offset + num_of s offset len ≤ offset + len
  span-end = omega (arith, first-last, div-le_self (offset + len - 1) s)

-- ---- the write

module _ (v : Store) (st : Workable v) (n offset : ℕ) (bs : List ℕ) (some_bytes : 0 < length bs) (enough : holes n offset (length bs) v ≤ room v) where
  abbrev S : ℕ
  S = v.allocator.chunk_size

  abbrev first : ℕ
  first = first_of S offset

  abbrev num : ℕ
  num = num_of S offset (length bs)

  pub written-writable : Writable n offset bs num first v
  unfolding holes
  written-writable = record { stored = st; span = span-touched S offset (length bs) st.size some_bytes; enough = enough }

  writes : Writes S n offset bs first num v (written n offset bs v)
  unfolding written
  writes = write_chunks-writes n offset bs num first v written-writable

  pub written-stored : Workable (written n offset bs v)
  written-stored = writes.stored

  pub written-room : holes n offset (length bs) v + room (written n offset bs v) ≡ room v
  unfolding holes
  written-room = writes.space

  pub fits-written : StoreFits v → n < 2 ^ 64 → offset + length bs ≤ 2 ^ 64 → StoreFits (written n offset bs v)
  fits-written f node h = writes.fits f node (omega (arith, span-end S offset (length bs) st.size some_bytes))

  -- the bytes written
  pub written_in : (j : ℕ) → offset ≤ j → j < offset + length bs → byte_at (written n offset bs v) n j ≡ get_or bs (j - offset) 0
  written_in j l u =
      writes.inside j (div_mono st.size l) (omega (arith, div_mono {a = j} {b = offset + length bs - 1} st.size (omega arith), first-last S offset (length bs) st.size some_bytes)) l u

  -- all others
  pub written-away : (m j : ℕ) → (n ≡ m → offset ≤ j → j < offset + length bs → ⊥) → byte_at (written n offset bs v) m j ≡ byte_at v m j
  written-away m j h = writes.outside m j (λ e x y. h e)

  -- ---- the rows

  -- all but those of touched chunks
  pub written-beside : (m i : ℕ) → (n ≡ m → Touched S offset (length bs) i → ⊥) → chunk m i (written n offset bs v).chunks ≡ chunk m i v.chunks
  written-beside m i h = writes.rows m i (λ e x y. h e (span-touched S offset (length bs) st.size some_bytes i x y))

  -- a new one is of a touched chunk
  pub written_new : (m i : ℕ) (c : ChunkRow) → chunk m i v.chunks ≡ none → chunk m i (written n offset bs v).chunks ≡ some c → (n ≡ m) × Touched S offset (length bs) i
  written_new m i c e f = go (eqb n m) (says-eqb n m) (dec_lt offset (i * S + S)) (dec_lt (i * S) (offset + length bs))
    where
      old : (n ≡ m → Touched S offset (length bs) i → ⊥) → ⊥
      old h = none-ne-some c (sym e ∙ sym (written-beside m i h) ∙ f)

      go : (b : Bool) → Says (n ≡ m) b → Dec (offset < i * S + S) → Dec (i * S < offset + length bs) → (n ≡ m) × Touched S offset (length bs) i
      go false (fails x) y z = absurd (old (λ q t. x q))
      go true (holds x) (yes y) (yes z) = (x, record { before = y; behind = z })
      go true (holds x) (no y) z = absurd (old (λ q t. y t.before))
      go true (holds x) (yes y) (no z) = absurd (old (λ q t. z t.behind))
