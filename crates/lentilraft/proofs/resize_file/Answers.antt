use native.Mathlib.Omega.{arith}
use Rattle.words.specs.Bytes.{Bytes}
use Rattle.soundness.proofs.Checked.{opened-sound, opened-good, opened-ready}
use Rattle.files.specs.Resize as Resize
use Rattle.lentilraft.specs.Door.{resize}
use Rattle.lentilraft.proofs.Door.{exit-shut, door-open, door-shut}
use Rattle.lentilraft.proofs.resize_file.Goals as goal

pub returns-in_err-layout : goal.returns-in_err-layout
unfolding resize
returns-in_err-layout c =
    let n = exit-shut c.args.volume.now c.from_residual.result c.in_err-layout.ensures c.from_residual.ensures.1 in
    rw n.0 (door-shut c.args.volume.now (Resize.resize c.args.node c.args.size) n.1)

pub resize_file-requires : goal.resize_file-requires
unfolding Bytes
resize_file-requires c =
    (opened-ready c.args.volume.now c.in_ok-layout.ensures (λ i. omega (arith, c.slice_known-1.given i)), opened-good c.args.volume.now c.in_ok-layout.ensures)

pub returns : goal.returns
unfolding resize
returns c =
    door-open c.args.volume.now (Resize.resize c.args.node c.args.size) (opened-sound c.args.volume.now c.in_ok-layout.ensures) c.resize_file.ensures
