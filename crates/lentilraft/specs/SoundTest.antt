-- Believed: whether a memory is sound: the test that the check computes, taken from the law that says it is true exactly where `Sound` holds.
-- Assumes nothing.
use Rattle.std.specs.Prelude.{Bool, List, ℕ}
use Rattle.words.specs.Rules.{whether}
use Rattle.volume.specs.Sound.{Sound}
use Rattle.soundness.proofs.Checked.{says-sound}

abbrev pub is_sound : List ℕ → Bool
is_sound l = whether {P = Sound l} (says-sound l)
