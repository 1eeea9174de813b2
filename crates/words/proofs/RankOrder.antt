-- Laws of `rank`: equal byte strings alone have one rank, and the first difference from the end decides which of two is lower.
-- Assumes nothing.
use mathlib.Core.Path.{◌≡◌, refl, sym, ap, ◌∙◌}
use mathlib.Core.Bool.{Bool}
use mathlib.Core.List.{List, ◌++◌}
use Prim.Native.Nat.{ℕ, suc, ◌+◌, ◌-◌, ◌*◌, ◌^◌, ◌≤◌, ◌<◌}
use native.Mathlib.Nat.{mul-le-mul_left, pow-le-pow_right, pow-succ', mul-add, mul-one, mul-suc}
use native.Mathlib.Numerals.{add-one}
use native.Mathlib.Omega.{arith}
use lib.Dec.{ltb}
use lib.ListN.{length, take, drop, length-take, take-append-drop}
use lib.Seq.{drop-drop}
use Rattle.words.specs.Bytes.{part, little_endian, num, Bytes}
use Rattle.words.specs.Rules.{Says, holds, fails}
use Rattle.words.specs.Tests.{rank}
use Rattle.words.proofs.Parts.{cut, length_part}
use Rattle.words.proofs.Numbers.{little-endian-append, little-endian-below, spell-value, spell-num, num-below}
use Rattle.words.proofs.Rules.{true-says, false-says, says-ltb}

-- two tests of which the first decides the second
decides : {x y p q : ℕ} → (x < y → p < q) → (y ≤ x → q ≤ p) → ltb x y ≡ ltb p q
decides {x} {y} {p} {q} f g = go (says-ltb x y)
  where
    go : {t : Bool} → Says (x < y) t → t ≡ ltb p q
    go (holds h) = sym (true-says (says-ltb p q) (f h))
    go (fails h) = sym (false-says (says-ltb p q) (λ k. omega (arith, g (omega arith))))

-- the higher part decides
higher : (m a b x y : ℕ) → a < m → x < y → a + m * x < b + m * y
higher m a b x y h k =
    let z : m * (x + 1) ≤ m * y = mul-le-mul_left {m = x + 1} {n = y} m (omega arith) in
    let d : m * (x + 1) ≡ m * x + m = rw (mul-add, mul-one) in
    omega (arith, z, d)

module _ (a b : List ℕ) (ba : Bytes a) (bb : Bytes b) where
  -- ---- by the lengths

  shorter-below : (c d : List ℕ) → Bytes c → length c < length d → rank c < rank d
  unfolding rank
  shorter-below c d bc h =
      let p : 256 ^ (length c + 1) ≤ 256 ^ length d = pow-le-pow_right (omega arith) {i = length c + 1} {j = length d} (omega arith) in
      let s : 256 ^ (length c + 1) ≡ 256 * 256 ^ length c = rw add-one (pow-succ' 256 (length c)) in
      omega (arith, little-endian-below c bc, p, s)

  pub by_length : (length a ≡ length b → ⊥) → ltb (length a) (length b) ≡ ltb (rank a) (rank b)
  by_length h = decides (shorter-below a b ba) (λ k. let l = shorter-below b a bb (omega arith) in omega arith)

  -- ---- by what stands in w bytes at k, where all behind them is the same

  module _ (w k : ℕ) (h : k + w ≤ length a) (n : length a ≡ length b) (e : drop (k + w) a ≡ drop (k + w) b) where
    value-cut : (c : List ℕ) → k + w ≤ length c → little_endian c ≡ num k c 0 + 256 ^ k * (num w c k + 256 ^ w * little_endian (drop (k + w) c))
    unfolding num
    value-cut c l =
        let f : part c 0 k ≡ take k c = unfold part in refl in
        let m : length (take k c) ≡ k = simp length-take (omega arith) in
        let o : little_endian (take k c ++ (part c k w ++ drop (k + w) c)) ≡ little_endian (take k c) + 256 ^ length (take k c) * (little_endian (part c k w) + 256 ^ length (part c k w) * little_endian (drop (k + w) c)) = rw (little-endian-append, little-endian-append) in
        ap little_endian (cut c k w) ∙ o ∙ rw (m, length_part c k w l, f)

    first-lower : (c d : List ℕ) → Bytes c → k + w ≤ length c → k + w ≤ length d → length c ≡ length d → drop (k + w) c ≡ drop (k + w) d → num w c k < num w d k → rank c < rank d
    unfolding rank
    first-lower c d bc lc ld o g less =
        let z = higher (256 ^ k) (num k c 0) (num k d 0) (num w c k + 256 ^ w * little_endian (drop (k + w) c)) (num w d k + 256 ^ w * little_endian (drop (k + w) d)) (num-below k c 0 bc (omega arith)) (rw g (omega arith)) in
        rw (o, value-cut c lc, value-cut d ld) (omega (arith, z))

    module _ {x y : ℕ} (p : x ≡ num w a k) (q : y ≡ num w b k) where
      by-those : (x ≡ y → ⊥) → ltb x y ≡ ltb (rank a) (rank b)
      by-those d =
          let l : k + w ≤ length b = omega arith in
          decides (λ i. first-lower a b ba h l n e (rw (← p, ← q) i)) (λ i. let z = first-lower b a bb l h (sym n) (sym e) (rw (← p, ← q) (omega arith)) in omega arith)

      -- the same there, too
      those-same : x ≡ y → drop k a ≡ drop k b
      unfolding part
      those-same g =
          let l : k + w ≤ length b = omega arith in
          let u : num w a k ≡ num w b k = sym p ∙ g ∙ q in
          let m : part a k w ≡ part b k w = sym (spell-num w a k ba h) ∙ rw u (spell-num w b k bb l) in
          let r : take w (drop k a) ++ drop (k + w) a ≡ drop k a = rw (← drop-drop, take-append-drop) in
          let s : take w (drop k b) ++ drop (k + w) b ≡ drop k b = rw (← drop-drop, take-append-drop) in
          sym r ∙ rw (m, e) s

  -- the same, for the last of i blocks of w bytes from index from on
  module _ (w from i count : ℕ) (l : 0 < i) (m : i ≤ count) (h : from + w * count ≤ length a) (n : length a ≡ length b) (e : drop (from + w * i) a ≡ drop (from + w * i) b) {x y : ℕ} (p : x ≡ num w a (from + w * (i - 1))) (q : y ≡ num w b (from + w * (i - 1))) where
    block-end : from + w * (i - 1) + w ≡ from + w * i
    block-end =
        let k : suc (i - 1) ≡ i = omega arith in
        let t : w * i ≡ w * (i - 1) + w = rw k at (mul-suc w (i - 1)) in
        omega arith

    within : from + w * (i - 1) + w ≤ length a
    within = omega (arith, block-end, mul-le-mul_left {m = i} {n = count} w m)

    behind : drop (from + w * (i - 1) + w) a ≡ drop (from + w * (i - 1) + w) b
    behind = rw block-end e

    pub by_block : (x ≡ y → ⊥) → ltb x y ≡ ltb (rank a) (rank b)
    by_block = by-those w (from + w * (i - 1)) within n behind p q

    pub back-same : x ≡ y → drop (from + w * (i - 1)) a ≡ drop (from + w * (i - 1)) b
    back-same = those-same w (from + w * (i - 1)) within n behind p q

  -- the same, for the w bytes before i
  module _ (w i : ℕ) (l : w ≤ i) (h : i ≤ length a) (n : length a ≡ length b) (e : drop i a ≡ drop i b) {x y : ℕ} (p : x ≡ num w a (i - w)) (q : y ≡ num w b (i - w)) where
    pub by_bytes : (x ≡ y → ⊥) → ltb x y ≡ ltb (rank a) (rank b)
    by_bytes = let m : i - w + w ≡ i = omega arith in by-those w (i - w) (omega arith) n (rw m e) p q

  -- ---- equal ones

  values_same : length a ≡ length b → rank a ≡ rank b → little_endian a ≡ little_endian b
  unfolding rank
  values_same l e = let z : 256 ^ length a ≡ 256 ^ length b = ap (λ (m : ℕ). 256 ^ m) l in omega (arith, z)

  pub rank_same : rank a ≡ rank b → a ≡ b
  rank_same e = go (says-ltb (length a) (length b)) (says-ltb (length b) (length a))
    where
      go : {s t : Bool} → Says (length a < length b) s → Says (length b < length a) t → a ≡ b
      go (holds h) t = absurd (omega (arith, shorter-below a b ba h))
      go (fails h) (holds k) = absurd (omega (arith, shorter-below b a bb k))
      go (fails h) (fails k) =
          let l : length a ≡ length b = omega arith in
          sym (spell-value a ba) ∙ rw (l, values_same l e) (spell-value b bb)
