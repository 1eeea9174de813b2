use mathlib.Core.Path.{refl}
use borrow.Author.Tests.{eq-eqb, ne_eqb}
use Rattle.words.proofs.Rules.{pick_true, pick-false}
use Rattle.volume.specs.Search.{pair_before}
use Rattle.volume.proofs.pairs.pair_before.Goals as goal

pub returns-then-a-c : goal.returns-then-a-c
unfolding pair_before
returns-then-a-c c =
    pick_true _ _ _ _ (eq-eqb _ _ c.if-a-c.true) refl

pub returns : goal.returns
unfolding pair_before
returns c =
    pick-false _ _ _ _ (ne_eqb _ _ c.if-a-c.false) refl
