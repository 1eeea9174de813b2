-- Behind a text's end no digits are passed.
-- Assumes nothing.
use mathlib.Core.Path.{◌≡◌, sym, ap, ◌∙◌}
use mathlib.Core.List.{List}
use Prim.Native.Nat.{ℕ, ◌≤◌}
use lib.ListN.{length, drop, drop_of_length-le}
use Rattle.vectors.specs.Scan.{past_digits}

pub past_end : (l : List ℕ) (i : ℕ) → length l ≤ i → {t : List ℕ} → past_digits (drop i l) ≡ t → drop i l ≡ t
unfolding past_digits
past_end l i h p = drop_of_length-le l h ∙ sym (ap past_digits (drop_of_length-le l h)) ∙ p
