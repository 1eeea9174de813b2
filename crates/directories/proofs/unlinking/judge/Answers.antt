use mathlib.Core.Path.{refl, sym, ◌∙◌}
use Rattle.words.proofs.Rules.{pick_true, pick-false}
use Rattle.directories.specs.Verdicts.{file_verdict, verdict}
use Rattle.directories.proofs.unlinking.judge.Goals as goal

pub returns-then-is_directory : goal.returns-then-is_directory
unfolding verdict
returns-then-is_directory c =
    pick_true _ _ _ _ (sym c.is_directory.ensures ∙ c.if-is_directory.true) c.judge_directory.ensures

pub returns-then-wants_directory : goal.returns-then-wants_directory
unfolding verdict file_verdict
returns-then-wants_directory c =
    pick-false _ _ _ _ (sym c.is_directory.ensures ∙ c.if-is_directory.false) (pick_true _ _ _ _ (sym c.wants_directory.ensures ∙ c.if-wants_directory.true) refl)

pub returns : goal.returns
unfolding verdict file_verdict
returns c =
    pick-false _ _ _ _ (sym c.is_directory.ensures ∙ c.if-is_directory.false) (pick-false _ _ _ _ (sym c.wants_directory.ensures ∙ c.if-wants_directory.false) c.judge_open.ensures)
