use Rattle.std.proofs.Common.{◌∙◌, sym}
use Rattle.vectors.proofs.Scanning.{first-here, first-behind, first_end}
use Rattle.vectors.proofs.numbers.from_digit.Goals as goal

pub returns-then-is_digit : goal.returns-then-is_digit
returns-then-is_digit c =
    first-here c.in-Some.byte.now c.in-Some.behind.now c.in-Some.ensures.cases.0 c.loop-byte.invariant (sym c.is_digit.ensures ∙ c.if-is_digit.true)

pub loop-byte-preserved : goal.loop-byte-preserved
loop-byte-preserved c =
    first-behind c.in-Some.byte.now c.in-Some.behind.now c.in-Some.ensures.cases.0 c.loop-byte.invariant (sym c.is_digit.ensures ∙ c.if-is_digit.false)

pub returns : goal.returns
returns c = first_end c.loop-byte.rest.now c.in_default.ensures.cases c.loop-byte.invariant
