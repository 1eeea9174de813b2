use mathlib.Core.Path.{◌≡◌}
use mathlib.Core.Bool.{true}
use Rattle.words.specs.Rules.{upto}
use Rattle.soundness.specs.EntryRules.{name_new}
use Rattle.soundness.specs.NameOrder.{InOrder}
use Rattle.soundness.proofs.names.names_once.Given as goal

abbrev pub invariant-loop-i : goal.invariant-loop-i
invariant-loop-i l =
    (upto l.i (λ j. name_new l.tables.names.entries j) ≡ true) × InOrder l.tables.names.entries l.order l.i
