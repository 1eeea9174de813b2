use Rattle.std.proofs.Common.{◌≡◌, ◌≤◌, length, refl, ◌∙◌, sym, arith}
use Rattle.std.proofs.Math.Seq.{take_all}
use Rattle.vectors.specs.Scan.{numbers_at, after_at}
use Rattle.vectors.proofs.Scanning.{bytes-turn, after-turn}
use Rattle.vectors.proofs.numbers.Numbers.bytes.Goals as goal

pub loop-byte-init : goal.loop-byte-init
unfolding numbers_at after_at
loop-byte-init c = (refl, refl, omega arith)

pub loop-byte-preserved : goal.loop-byte-preserved
loop-byte-preserved c =
    (bytes-turn c.args.self.now c.loop-byte.byte-index c.loop-byte.invariant.1 c.loop-byte.out c.number.ensures.found.0 refl (omega arith) c.loop-byte.invariant.0, after-turn c.args.self.now c.loop-byte.byte-index c.loop-byte.invariant.1 c.number.ensures.found.1, omega arith)

pub returns-clause-found : goal.returns-clause-found
returns-clause-found c =
    let e : c.loop-byte.byte-index ≡ length c.args.out.now = omega arith in
    let h : length c.loop-byte.out ≤ c.loop-byte.byte-index = omega arith in
    rw (← e) (sym (take_all c.loop-byte.byte-index c.loop-byte.out h) ∙ c.loop-byte.invariant.0, c.loop-byte.invariant.1)
