-- Believed: what a refusal leaves: the bytes that were lent, and nothing told but its number.
-- Assumes nothing.
use Rattle.std.specs.Prelude.{◌≡◌, List, ℕ, Err}
use Rattle.types.specs.Answers.{value}
use Rattle.types.specs.Outcomes.{Outcome}
use Rattle.types.specs.declared.Error.{Error}

-- of a call's outcome, and the bytes lent to it
abbrev pub RefusalLeaves : Outcome → List ℕ → Type 0
RefusalLeaves o lent = (e : Error) → o.answer ≡ Err e → (value o.answer ≡ 0) × (o.bytes ≡ lent)
