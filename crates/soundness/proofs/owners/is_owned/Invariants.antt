use mathlib.Core.Path.{◌≡◌}
use mathlib.Core.Bool.{true}
use Prim.Native.Nat.{◌≤◌}
use Rattle.words.specs.Rules.{upto}
use Rattle.soundness.specs.OwnerRules.{row_owned}
use Rattle.soundness.proofs.owners.is_owned.Given as goal

abbrev pub invariant-loop-i : goal.invariant-loop-i
invariant-loop-i l =
    (upto l.i (row_owned l.tables.names l.tables.store) ≡ true) × (l.near ≤ 4096)
