use mathlib.Core.Path.{ap, ◌∙◌}
use Rattle.types.specs.Answers.{number}
use Rattle.rim.proofs.lentilraft_check.Goals as goal

pub returns : goal.returns
returns c =
    c.number.ensures.0 ∙ ap number c.check.ensures
