use Rattle.std.proofs.Common.{List, ℕ, length, ◌∙◌, sym, ap, arith}
use Rattle.vectors.specs.Scan.{number_at, past_digits, spelled, held}
use Rattle.vectors.proofs.Scanning.{next-left, less, number-past}
use Rattle.vectors.proofs.numbers.Numbers.number.Goals as goal

pub returns-clause-found : goal.returns-clause-found
unfolding number_at
returns-clause-found c =
    rw (← c.self.view_is) (c.spelled-value.ensures.value ∙ ap (λ (m : List ℕ). held (spelled 0 m)) c.from_digit.ensures, c.spelled-value.ensures.rest ∙ ap past_digits c.from_digit.ensures ∙ sym (next-left c.self.inside.rest.now 0))

pub returns-clause-behind : goal.returns-clause-behind
returns-clause-behind c =
    let e = c.spelled-value.ensures.rest ∙ ap past_digits c.from_digit.ensures in
    rw (← c.self.view_is) (omega (arith, ap length e, less c.self.inside.rest.now))

pub returns-clause-past : goal.returns-clause-past
returns-clause-past c h = (returns-clause-found c).0 ∙ number-past c.args.self.now h
