use mathlib.Core.Path.{refl}
use borrow.Author.Tests.{eq-eqb, ne_eqb}
use Rattle.words.proofs.Rules.{pick_true, pick-false}
use Rattle.directories.specs.Verdicts.{open_verdict}
use Rattle.directories.proofs.unlinking.judge_open.Goals as goal
use Rattle.directories.proofs.unlinking.judge_open.Goals.{else-opens-ne0-via-then-opens-ne0+else-row-eq-ONE_NAME, else-opens-ne0-via-else-opens-ne0}

pub returns-then-row-eq-ONE_NAME : goal.returns-then-row-eq-ONE_NAME
unfolding open_verdict
returns-then-row-eq-ONE_NAME c =
    pick-false _ _ _ _ (ne_eqb _ _ c.if-opens-ne0.true) (pick_true _ _ _ _ (eq-eqb _ _ c.if-row-eq-ONE_NAME.true) refl)

pub returns : goal.returns
unfolding open_verdict
returns c =
    elim c.else-opens-ne0.branch [
      | else-opens-ne0-via-then-opens-ne0+else-row-eq-ONE_NAME w ↦ pick-false _ _ _ _ (ne_eqb _ _ w.if-opens-ne0.true) (pick-false _ _ _ _ (ne_eqb _ _ w.if-row-eq-ONE_NAME.false) refl)
      | else-opens-ne0-via-else-opens-ne0 w ↦ pick_true _ _ _ _ (eq-eqb _ _ w.if-opens-ne0.false) refl
    ]
