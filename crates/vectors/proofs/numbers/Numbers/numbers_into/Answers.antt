use Rattle.std.proofs.Common.{◌≡◌, ◌≤◌, length, refl, ◌∙◌, sym, arith}
use Rattle.std.proofs.Math.Seq.{take_all}
use Rattle.vectors.specs.Scan.{numbers_at, after_at}
use Rattle.vectors.proofs.Scanning.{numbers-turn, after-turn}
use Rattle.vectors.proofs.numbers.Numbers.numbers_into.Goals as goal

pub loop-x-init : goal.loop-x-init
unfolding numbers_at after_at
loop-x-init c = (refl, refl, omega arith)

pub loop-x-preserved : goal.loop-x-preserved
loop-x-preserved c =
    (numbers-turn c.args.self.now c.loop-x.x-index c.loop-x.invariant.1 c.loop-x.out c.number.ensures.found.0 (omega arith) c.loop-x.invariant.0, after-turn c.args.self.now c.loop-x.x-index c.loop-x.invariant.1 c.number.ensures.found.1, omega arith)

pub returns-clause-found : goal.returns-clause-found
returns-clause-found c =
    let e : c.loop-x.x-index ≡ length c.args.out.now = omega arith in
    let h : length c.loop-x.out ≤ c.loop-x.x-index = omega arith in
    rw (← e) (sym (take_all c.loop-x.x-index c.loop-x.out h) ∙ c.loop-x.invariant.0, c.loop-x.invariant.1)
