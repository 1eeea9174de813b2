-- That a promise leaves one outcome.
-- Assumes nothing.
use mathlib.Core.Path.{sym, ◌∙◌}
use Rattle.types.specs.Outcomes.{OneOutcome}

pub one-outcome : {A : Type 0} (said : A) → OneOutcome said
one-outcome said one two p q = p ∙ sym q
