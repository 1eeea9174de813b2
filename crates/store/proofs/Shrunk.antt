-- A file cut to z bytes, its size aside: it shows zeros from there on and below that what it showed, other files are as they were, no index has
-- a row that had none, and the store stays workable and fits. Over any chunk size.
-- Assumes nothing.
use mathlib.Core.Path.{◌≡◌, refl, sym, ap, ◌∙◌}
use mathlib.Core.Bool.{Bool, true, false}
use mathlib.Core.List.{List}
use mathlib.Core.Option.{none, some, none-ne-some}
use Prim.Native.Nat.{ℕ, ◌-◌, ◌*◌, ◌/◌, ◌%◌, ◌≤◌, ◌<◌}
use native.Mathlib.Nat.{mod-lt}
use native.Mathlib.Decide.{dec_lt}
use native.Mathlib.Omega.{arith}
use lib.Dec.{eqb}
use lib.ListN.{length, get_or-replicate}
use Rattle.words.specs.Bytes.{zeros}
use Rattle.words.specs.Rules.{Says, holds, fails}
use Rattle.words.proofs.Parts.{length-zeros}
use Rattle.words.proofs.Multiples.{parts, div_mono, step-apart}
use Rattle.words.proofs.Rules.{says-eqb}
use Rattle.volume.specs.declared.ChunkRow.{ChunkRow}
use Rattle.volume.specs.Volume.{Store}
use Rattle.volume.specs.Framed.{StoreFits}
use Rattle.volume.specs.Sound.{round_up}
use Rattle.volume.proofs.Rounding.{up_lt, up-ge, lt_up}
use Rattle.tables.specs.OneRow.{chunk}
use Rattle.store.specs.Content.{byte_at}
use Rattle.store.specs.Cut.{cut_from, tail_zeroed, shrunk}
use Rattle.store.specs.Workable.{Workable}
use Rattle.store.proofs.Cut.{cut-stored, cut_fits, cut-size, cut-other, cut_low, cut_high, byte-other, byte_low, byte_high}
use Rattle.store.proofs.KeptFields.{Kept, kept_put}
use Rattle.store.proofs.Put.{Touched, Writes, put-cases, put-rows, put-fits, put-writes}

-- ---- the last chunk zeroed, if it has a row

tail-kept : (n z : ℕ) (v : Store) → Kept v (tail_zeroed n z v)
unfolding tail_zeroed
tail-kept n z v = kept_put n z _ _ v

tail-rows : (n z : ℕ) (v : Store) → (tail_zeroed n z v).chunks ≡ v.chunks
unfolding tail_zeroed
tail-rows n z v = put-rows n z _ _ v

module _ (n z : ℕ) (v : Store) (st : Workable v) where
  abbrev S : ℕ
  S = v.allocator.chunk_size

  abbrev tail : List ℕ
  tail = zeros (S - z % S)

  pub tail-touched : Touched S z (length tail) (z / S)
  tail-touched = record { before = (parts st.size z).high; behind = omega (arith, parts st.size z, mod-lt z st.size, length-zeros (S - z % S)) }

  tail-cases : (P : Store → Type 0) → (chunk n (z / S) v.chunks ≡ none → P v) → ((d : ChunkRow) → chunk n (z / S) v.chunks ≡ some d → P (tail_zeroed n z v)) → P (tail_zeroed n z v)
  unfolding tail_zeroed
  tail-cases = put-cases n z tail (z / S) v

  module _ (d : ChunkRow) (found : chunk n (z / S) v.chunks ≡ some d) where
    tail-writes : Writes S n z tail (z / S) 1 v (tail_zeroed n z v)
    unfolding tail_zeroed
    tail-writes = put-writes v st n z tail (z / S) tail-touched d found

    row_fits : StoreFits v → StoreFits (tail_zeroed n z v)
    unfolding tail_zeroed
    row_fits = put-fits v st n z tail (z / S) tail-touched d found

  tail-stored : Workable (tail_zeroed n z v)
  tail-stored = tail-cases Workable (λ e. st) (λ d e. (tail-writes d e).stored)

  tail-fits : StoreFits v → StoreFits (tail_zeroed n z v)
  tail-fits f = tail-cases StoreFits (λ e. f) (λ d e. row_fits d e f)

  -- in its chunk the file shows zeros from byte z on, in a hole as in a row
  tail-zero : (j : ℕ) → j / S ≡ z / S → z ≤ j → byte_at (tail_zeroed n z v) n j ≡ 0
  unfolding zeros
  tail-zero j same h = tail-cases (λ w. byte_at w n j ≡ 0) (λ e. unfold byte_at in rw (same, e)) row
    where
      row : (d : ChunkRow) → chunk n (z / S) v.chunks ≡ some d → byte_at (tail_zeroed n z v) n j ≡ 0
      row d e =
          let q : z / S * S ≡ j / S * S = ap (λ (x : ℕ). x * S) (sym same) in
          let t = length-zeros (S - z % S) in
          let i : j - z < S - z % S = omega (arith, parts st.size z, parts st.size j) in
          (tail-writes d e).inside j (omega arith) (omega arith) h (omega arith) ∙ get_or-replicate (S - z % S) (j - z) 0 0 i

  -- all other bytes are as they were
  tail-outside : (m j : ℕ) → (n ≡ m → j / S ≡ z / S → z ≤ j → ⊥) → byte_at (tail_zeroed n z v) m j ≡ byte_at v m j
  tail-outside m j h = tail-cases (λ w. byte_at w m j ≡ byte_at v m j) (λ e. refl) (λ d e. (tail-writes d e).outside m j (λ q x y l u. h q (omega arith) l))

-- ---- the cut and the zeros

module _ (n z : ℕ) (v : Store) where
  abbrev s : ℕ
  s = v.allocator.chunk_size

  abbrev c : ℕ
  c = round_up s z

  abbrev w : Store
  w = cut_from n c v

  pub shrunk-size : (shrunk n z v).allocator.chunk_size ≡ s
  unfolding shrunk
  shrunk-size = (tail-kept n z w).rest.size ∙ cut-size n c v

  pub shrunk-room : (shrunk n z v).chunk_room ≡ v.chunk_room
  unfolding shrunk cut_from
  shrunk-room = (tail-kept n z w).chunk_room

  -- ---- its rows

  cut-row : (m k : ℕ) → chunk m k (shrunk n z v).chunks ≡ chunk m k w.chunks
  unfolding shrunk
  cut-row m k = ap (chunk m k) (tail-rows n z w)

  pub shrunk-rows : (m k : ℕ) → (m ≡ n → ⊥) → chunk m k (shrunk n z v).chunks ≡ chunk m k v.chunks
  shrunk-rows m k h = cut-row m k ∙ cut-other n c v m k h

  -- a hole stays a hole
  pub shrunk-hole : (m k : ℕ) → chunk m k v.chunks ≡ none → chunk m k (shrunk n z v).chunks ≡ none
  shrunk-hole m k e = cut-row m k ∙ go (eqb m n) (says-eqb m n) (dec_lt k c)
    where
      go : (b : Bool) → Says (m ≡ n) b → Dec (k < c) → chunk m k w.chunks ≡ none
      go false (fails q) h = cut-other n c v m k q ∙ e
      go true (holds q) (yes h) = rw q (cut_low n c v k h ∙ rw q at e)
      go true (holds q) (no h) = rw q (cut_high n c v k (omega arith))

  -- the chunks that stay start below z
  pub shrunk-below : 0 < s → (k : ℕ) (d : ChunkRow) → chunk n k (shrunk n z v).chunks ≡ some d → k * s < z
  shrunk-below pos k d e = go (dec_lt k c)
    where
      go : Dec (k < c) → k * s < z
      go (yes h) = lt_up s z k pos h
      go (no h) = absurd (none-ne-some d (sym (cut_high n c v k (omega arith)) ∙ sym (cut-row n k) ∙ e))

  module _ (st : Workable v) where
    cut-workable : Workable w
    cut-workable = cut-stored n c v st

    pub shrunk-stored : Workable (shrunk n z v)
    unfolding shrunk
    shrunk-stored = tail-stored n z w cut-workable

    pub shrunk-fits : StoreFits v → StoreFits (shrunk n z v)
    unfolding shrunk
    shrunk-fits f = tail-fits n z w cut-workable (cut_fits n c v st f)

    -- ---- what it shows

    pub shrunk-other : (m j : ℕ) → (m ≡ n → ⊥) → byte_at (shrunk n z v) m j ≡ byte_at v m j
    unfolding shrunk
    shrunk-other m j h = tail-outside n z w cut-workable m j (λ e x y. h (sym e)) ∙ byte-other n c v m j h

    pub shrunk-low : (j : ℕ) → j < z → byte_at (shrunk n z v) n j ≡ byte_at v n j
    unfolding shrunk
    shrunk-low j h = tail-outside n z w cut-workable n j (λ e x y. omega arith) ∙ byte_low n c v j (up_lt s z (j / s) st.size (omega (arith, parts st.size j)))

    pub shrunk-high : (j : ℕ) → z ≤ j → byte_at (shrunk n z v) n j ≡ 0
    unfolding shrunk
    shrunk-high j h = go (dec_lt (z / s) (j / s))
      where
        go : Dec (z / s < j / s) → byte_at (shrunk n z v) n j ≡ 0
        go (no l) = tail-zero n z w cut-workable j (rw (cut-size n c v) (let q : j / s ≡ z / s = omega (arith, div_mono st.size h) in q)) h
        go (yes l) =
            tail-outside n z w cut-workable n j (λ e x y. let q : j / s ≡ z / s = rw (cut-size n c v) at x in omega arith)
            ∙ byte_high n c v j (up-ge s z (j / s) st.size (omega (arith, parts st.size z, step-apart s (z / s) (j / s) l)))
