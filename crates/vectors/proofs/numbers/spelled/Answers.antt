use Rattle.std.proofs.Common.{◌≤◌, ◌∙◌, refl, sym, ap, arith}
use Rattle.std.proofs.Math.Nat.{mod-eq_of_lt}
use Rattle.vectors.specs.Scan.{digit, held}
use Rattle.vectors.proofs.Scanning.{left-turn, left-stop, left_end, so-far-turn, so-far-stop, so-far-end}
use Rattle.vectors.proofs.numbers.spelled.Goals as goal

pub returns-in_default-digit-clause-value : goal.returns-in_default-digit-clause-value
returns-in_default-digit-clause-value c =
    let k : 16 ≤ digit c.in-Some.byte.now = omega (arith, c.in_default-digit.ensures) in
    sym (mod-eq_of_lt (omega arith)) ∙ ap held (sym (so-far-stop c.in-Some.byte.now c.in-Some.behind.now c.in-Some.ensures.cases.0 c.loop-byte.value k)) ∙ c.loop-byte.invariant.0

pub returns-in_default-digit-clause-rest : goal.returns-in_default-digit-clause-rest
returns-in_default-digit-clause-rest c =
    let k : 16 ≤ digit c.in-Some.byte.now = omega (arith, c.in_default-digit.ensures) in
    left-stop c.in-Some.byte.now c.in-Some.behind.now c.in-Some.ensures.cases.0 k ∙ c.loop-byte.invariant.1

pub loop-byte-preserved : goal.loop-byte-preserved
loop-byte-preserved c =
    let d = c.in-Some-digit.ensures in
    let e = c.in-Some.ensures.cases.0 in
    (so-far-turn c.in-Some.byte.now c.in-Some.behind.now e c.loop-byte.value d.0 d.1 refl refl ∙ c.loop-byte.invariant.0, left-turn c.in-Some.byte.now c.in-Some.behind.now e d.0 ∙ c.loop-byte.invariant.1)

pub returns-clause-value : goal.returns-clause-value
returns-clause-value c =
    sym (mod-eq_of_lt (omega arith)) ∙ ap held (sym (so-far-end c.loop-byte.value c.loop-byte.rest.now c.in_default.ensures.cases)) ∙ c.loop-byte.invariant.0

pub returns-clause-rest : goal.returns-clause-rest
returns-clause-rest c = left_end c.loop-byte.rest.now c.in_default.ensures.cases ∙ c.loop-byte.invariant.1
