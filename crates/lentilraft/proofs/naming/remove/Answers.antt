use native.Mathlib.Omega.{arith}
use Rattle.words.specs.Bytes.{Bytes}
use Rattle.soundness.proofs.Checked.{opened-sound, opened-good, opened-ready}
use Rattle.names.specs.Removing as Removing
use Rattle.lentilraft.specs.Door.{remove}
use Rattle.lentilraft.proofs.Door.{exit-shut, door-open, door-shut}
use Rattle.lentilraft.proofs.naming.remove.Goals as goal

pub returns-in_err-layout : goal.returns-in_err-layout
unfolding remove
returns-in_err-layout c =
    let n = exit-shut c.args.volume.now c.from_residual.result c.in_err-layout.ensures c.from_residual.ensures.1 in
    rw n.0 (door-shut c.args.volume.now (Removing.remove c.args.node) n.1)

pub remove-requires : goal.remove-requires
unfolding Bytes
remove-requires c =
    (opened-ready c.args.volume.now c.in_ok-layout.ensures (λ i. omega (arith, c.slice_known-1.given i)), opened-good c.args.volume.now c.in_ok-layout.ensures)

pub returns : goal.returns
unfolding remove
returns c =
    door-open c.args.volume.now (Removing.remove c.args.node) (opened-sound c.args.volume.now c.in_ok-layout.ensures) c.remove.ensures
