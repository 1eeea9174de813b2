use Rattle.words.proofs.Rules.{stop, go_on, pick_true, pick-false}
use Rattle.volume.specs.RowTests.{limit_formed}
use borrow.Author.Tests.{eq-eqb, ne_eqb}
use mathlib.Core.Path.{refl}
use Rattle.volume.proofs.nodes.limit_formed.Goals as goal

pub returns-then-flag-eq-NO_LIMIT : goal.returns-then-flag-eq-NO_LIMIT
unfolding limit_formed
returns-then-flag-eq-NO_LIMIT c =
    pick_true _ _ _ _ (eq-eqb _ _ c.if-flag-eq-NO_LIMIT.true) refl

pub returns-then-flag-ne-LIMITED : goal.returns-then-flag-ne-LIMITED
unfolding limit_formed
returns-then-flag-ne-LIMITED c =
    pick-false _ _ _ _ (ne_eqb _ _ c.if-flag-eq-NO_LIMIT.false) (stop _ _ (ne_eqb _ _ c.if-flag-ne-LIMITED.true))

pub returns : goal.returns
unfolding limit_formed
returns c =
    pick-false _ _ _ _ (ne_eqb _ _ c.if-flag-eq-NO_LIMIT.false) (go_on _ _ (eq-eqb _ _ c.if-flag-ne-LIMITED.false) refl)
