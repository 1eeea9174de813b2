use native.Mathlib.Omega.{arith}
use Rattle.lentilraft.proofs.Lines.{seen_first, seen_next, seen_last}
use Rattle.lentilraft.specs.Report.{width}
use Rattle.lentilraft.proofs.text.places.Goals as goal

pub loop-rest-init : goal.loop-rest-init
loop-rest-init c =
    seen_first c.args.n (omega arith)

pub overflow_add-k : goal.overflow_add-k
overflow_add-k c =
    omega (arith, c.loop-rest.invariant.most)

pub loop-rest-preserved : goal.loop-rest-preserved
loop-rest-preserved c =
    let w = c.loop-rest in
    seen_next (width 20 c.args.n) w.k w.rest w.invariant c.loop-rest-test.true

pub returns : goal.returns
returns c =
    let w = c.loop-rest in
    seen_last (width 20 c.args.n) w.k w.rest w.invariant (omega arith)
