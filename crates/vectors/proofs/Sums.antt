-- Laws of the checksum's loop.
-- Assumes nothing.
use mathlib.Core.Path.{◌≡◌, refl, sym, ap, ◌∙◌}
use mathlib.Core.List.{List}
use Prim.Native.Nat.{ℕ, ◌+◌, ◌*◌, ◌%◌, ◌≤◌, ◌<◌}
use native.Mathlib.Numerals.{add-one}
use lib.ListN.{length, drop, get_or, drop_of_length-le}
use lib.Seq.{drop-cons}
use Rattle.vectors.specs.Sum.{summed, checksum}

pub sum-start : (l : List ℕ) → summed 1 0 (drop 0 l) ≡ checksum l
unfolding checksum
sum-start l = refl

module _ (l : List ℕ) (low high i : ℕ) {t : ℕ} (p : summed low high (drop i l) ≡ t) where
  pub sum-turn : i < length l → summed ((low + get_or l i 0) % 65521) ((high + (low + get_or l i 0) % 65521) % 65521) (drop (i + 1) l) ≡ t
  unfolding summed
  sum-turn h = rw (add-one i) (ap (summed low high) (sym (drop-cons l i 0 h)) ∙ p)

  pub sum-end : length l ≤ i → high * 65536 + low ≡ t
  unfolding summed
  sum-end h = ap (summed low high) (sym (drop_of_length-le l h)) ∙ p
