use native.Mathlib.Omega.{arith}
use Rattle.words.specs.Bytes.{Bytes}
use Rattle.soundness.proofs.Checked.{opened-sound, opened-ready}
use Rattle.lentilraft.specs.Report.{reported, report}
use Rattle.lentilraft.proofs.Door.{exit-shut, into-shut, report-short, report-full}
use Rattle.lentilraft.proofs.report.Goals as goal

pub returns-in_err-open : goal.returns-in_err-open
unfolding report
returns-in_err-open c =
    let n = exit-shut c.args.volume.now c.from_residual.result c.in_err-open.ensures c.from_residual.ensures.1 in
    rw n.0 (into-shut c.args.volume.now c.args.out.now reported n.1)

pub returns-then-out-lt-LEAST_OUTPUT : goal.returns-then-out-lt-LEAST_OUTPUT
returns-then-out-lt-LEAST_OUTPUT c =
    report-short c.args.volume.now c.args.out.now (opened-sound c.args.volume.now c.in_ok-open.ensures) c.if-out-lt-LEAST_OUTPUT.true

pub invariant_of-tables : goal.invariant_of-tables
unfolding Bytes
invariant_of-tables c =
    opened-ready c.args.volume.now c.in_ok-open.ensures (λ i. omega (arith, c.type_inv.volume i))

pub returns : goal.returns
returns c =
    report-full c.args.volume.now c.args.out.now (opened-sound c.args.volume.now c.in_ok-open.ensures) c.if-out-lt-LEAST_OUTPUT.false c.put_text-count.ensures.0 c.put_text-count.ensures.2
