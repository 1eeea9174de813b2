use mathlib.Core.Path.{refl, sym, ◌∙◌}
use borrow.Author.Tests.{lt-ltb, le-ltb}
use Rattle.words.proofs.Rules.{pick_true, pick-false}
use Rattle.directories.specs.Verdicts.{directory_verdict}
use Rattle.directories.proofs.unlinking.judge_directory.Goals as goal

pub returns-then-wants_file : goal.returns-then-wants_file
unfolding directory_verdict
returns-then-wants_file c =
    pick_true _ _ _ _ (sym c.wants_file.ensures ∙ c.if-wants_file.true) refl

pub returns-then-row-gt0 : goal.returns-then-row-gt0
unfolding directory_verdict
returns-then-row-gt0 c =
    pick-false _ _ _ _ (sym c.wants_file.ensures ∙ c.if-wants_file.false) (pick_true _ _ _ _ (lt-ltb _ _ c.if-row-gt0.true) refl)

pub returns : goal.returns
unfolding directory_verdict
returns c =
    pick-false _ _ _ _ (sym c.wants_file.ensures ∙ c.if-wants_file.false) (pick-false _ _ _ _ (le-ltb _ _ c.if-row-gt0.false) c.judge_open.ensures)
