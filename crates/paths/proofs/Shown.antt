-- What the bounds show of a path: the laws of `shown_parts`, and where the pieces of a path lie.
-- Assumes nothing.
use mathlib.Core.Path.{◌≡◌, refl, sym, ap, ◌∙◌}
use mathlib.Core.Bool.{Bool, true, false}
use mathlib.Core.List.{List, [], ◌∷◌, ◌++◌}
use Prim.Native.Nat.{ℕ, zero, suc, ◌+◌, ◌-◌, ◌≤◌, ◌<◌}
use native.Mathlib.Nat.{add-zero, zero-add, not-suc-le-zero, le_of_suc-le-suc}
use native.Mathlib.Numerals.{add-one}
use native.Mathlib.Omega.{arith}
use lib.Dec.{eqb}
use lib.ListN.{length, take, drop, get_or, set, length-drop}
use lib.Seq.{get_or-set_same, get_or-set_other, get_or-drop, drop-drop}
use Rattle.words.specs.Bytes.{part}
use Rattle.words.specs.Rules.{pick}
use Rattle.words.proofs.Parts.{part-zero, part-cons}
use Rattle.paths.specs.Path.{slash, cons, split}
use Rattle.paths.specs.Shown.{shown_from, shown_parts}
use Rattle.paths.proofs.Splitting.{split-some}

module _ (path ss ls : List ℕ) where
  length-shown-from : (i n : ℕ) → length (shown_from path ss ls i n) ≡ n
  unfolding shown_from
  length-shown-from i zero = refl
  length-shown-from i (suc n) = ap suc (length-shown-from (i + 1) n)

  pub length-shown : (n : ℕ) → length (shown_parts path ss ls n) ≡ n
  unfolding shown_parts
  length-shown n = length-shown-from 0 n

  shown-from-at : (i n j : ℕ) → j < n → get_or (shown_from path ss ls i n) j [] ≡ part path (get_or ss (i + j) 0) (get_or ls (i + j) 0)
  unfolding shown_from
  shown-from-at i zero j h = absurd (not-suc-le-zero h)
  shown-from-at i (suc n) zero h = rw add-zero
  shown-from-at i (suc n) (suc j) h =
      let e : i + 1 + j ≡ i + suc j = omega arith in
      rw e at (shown-from-at (i + 1) n j (le_of_suc-le-suc h))

  shown-from-take : (i m n : ℕ) → m ≤ n → take m (shown_from path ss ls i n) ≡ shown_from path ss ls i m
  unfolding shown_from
  shown-from-take i zero n h = refl
  shown-from-take i (suc m) zero h = absurd (not-suc-le-zero h)
  shown-from-take i (suc m) (suc n) h = rw (shown-from-take (i + 1) m n (le_of_suc-le-suc h))

  -- the parts without the last
  pub shown-less : (n : ℕ) → take (length (shown_parts path ss ls n) - 1) (shown_parts path ss ls n) ≡ shown_parts path ss ls (n - 1)
  unfolding shown_parts
  shown-less n = rw (length-shown-from 0 n) (shown-from-take 0 (n - 1) n (omega arith))

  shown-from-more : (i n : ℕ) → shown_from path ss ls i (suc n) ≡ shown_from path ss ls i n ++ (part path (get_or ss (i + n) 0) (get_or ls (i + n) 0) ∷ [])
  unfolding shown_from
  shown-from-more i zero = rw add-zero
  shown-from-more i (suc n) =
      let e : i + 1 + n ≡ i + suc n = omega arith in
      ap (λ r. part path (get_or ss i 0) (get_or ls i 0) ∷ r) (rw e at (shown-from-more (i + 1) n))

  shown-from-set : (i n k a b : ℕ) → i + n ≤ k → shown_from path (set ss k a) (set ls k b) i n ≡ shown_from path ss ls i n
  unfolding shown_from
  shown-from-set i zero k a b h = refl
  shown-from-set i (suc n) k a b h =
      let e : i ≡ k → ⊥ = λ x. omega arith in
      rw (get_or-set_other ss k i a 0 e, get_or-set_other ls k i b 0 e, shown-from-set (i + 1) n k a b (omega arith))

-- one more part
pub shown-kept : (path ss ls : List ℕ) (n a b : ℕ) → n < length ss → n < length ls → shown_parts path (set ss n a) (set ls n b) (n + 1) ≡ shown_parts path ss ls n ++ (part path a b ∷ [])
unfolding shown_parts
shown-kept path ss ls n a b h k =
    rw (add-one n) (shown-from-more path (set ss n a) (set ls n b) 0 n ∙
    rw (zero-add, shown-from-set path ss ls 0 n n a b (omega arith), get_or-set_same ss n a 0 h, get_or-set_same ls n b 0 k))

-- ---- where pieces lie

-- each piece stands in the path, one behind another with a byte between, the first at index at
unfoldable pub Lie : List ℕ → ℕ → List (List ℕ) → Type 0
Lie path at [] = Unit {0}
Lie path at (p ∷ rest) = (part path at (length p) ≡ p) × (at + length p ≤ length path) × Lie path (at + length p + 1) rest

lie-cons : (path : List ℕ) (at b : ℕ) (ps : List (List ℕ)) → at < length path → get_or path at 0 ≡ b → 0 < length ps → Lie path (at + 1) ps → Lie path at (cons b ps)
unfolding Lie cons pick
lie-cons path at b [] h e s l = absurd (omega arith)
lie-cons path at b (p ∷ ps) h e s l = go (eqb b slash)
  where
    go : (t : Bool) → Lie path at (pick t ([] ∷ (p ∷ ps)) ((b ∷ p) ∷ ps))
    go true = (part-zero path at, omega arith, rw add-zero l)
    go false =
        let m : at + suc (length p) + 1 ≡ at + 1 + length p + 1 = omega arith in
        let n : suc (length p) ≡ length p + 1 = omega arith in
        (rw (n, part-cons path at (length p) h, e, l.0), omega arith, rw m l.2)

lie-from : (path : List ℕ) (at : ℕ) (l : List ℕ) → at ≤ length path → drop at path ≡ l → Lie path at (split l)
unfolding Lie split
lie-from path at [] h e = (part-zero path at, omega arith, tt)
lie-from path at (b ∷ l) h e =
    let n : length path - at ≡ suc (length l) = sym (length-drop at path) ∙ ap length e in
    let g : get_or path at 0 ≡ b = sym (rw add-zero at (get_or-drop at path 0 0)) ∙ ap (λ m. get_or m 0 0) e in
    let d : drop (at + 1) path ≡ l = sym (drop-drop 1 at path) ∙ ap (drop 1) e in
    lie-cons path at b (split l) (omega arith) g (split-some l) (lie-from path (at + 1) l (omega arith) d)

pub pieces-lie : (path : List ℕ) → Lie path 0 (split path)
pieces-lie path = lie-from path 0 path (omega arith) refl
