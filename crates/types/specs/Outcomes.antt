-- Believed: what a call on one lent memory leaves: its answer and the memory's bytes. A refusal leaves the bytes as they were; a promise leaves one outcome.
-- Assumes nothing.
use Rattle.std.specs.Prelude.{◌≡◌, ℕ, List, Ok, Err}
use Rattle.types.specs.declared.Error.{Error}
use Rattle.types.specs.Answers.{Answer}

pub record Outcome : Type 0 where
  pub answer : Answer
  pub bytes : List ℕ

abbrev pub outcome : Answer → List ℕ → Outcome
outcome a l = record { answer = a; bytes = l }

abbrev pub refused : Error → List ℕ → Outcome
refused e l = outcome (Err e) l

abbrev pub done : ℕ → List ℕ → Outcome
done v l = outcome (Ok v) l

-- a promise is one equation with what a definition says: any two outcomes that it permits are equal
abbrev pub OneOutcome : {A : Type 0} → A → Type 0
OneOutcome {A} said = (one two : A) → one ≡ said → two ≡ said → one ≡ two
