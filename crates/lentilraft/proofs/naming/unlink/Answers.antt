use native.Mathlib.Omega.{arith}
use Rattle.words.specs.Bytes.{Bytes}
use Rattle.soundness.proofs.Checked.{opened-sound, opened-good, opened-ready}
use Rattle.volume.specs.Steps.{name_step}
use Rattle.names.specs.Unlinking as Unlinking
use Rattle.lentilraft.specs.Door.{unlink}
use Rattle.lentilraft.proofs.Door.{exit-shut, door-open, door-shut}
use Rattle.lentilraft.proofs.naming.unlink.Goals as goal

pub returns-in_err-layout : goal.returns-in_err-layout
unfolding unlink
returns-in_err-layout c =
    let n = exit-shut c.args.volume.now c.from_residual.result c.in_err-layout.ensures c.from_residual.ensures.1 in
    rw n.0 (door-shut c.args.volume.now (name_step (Unlinking.unlink c.args.start c.args.path.now c.args.expected c.args.opens)) n.1)

pub unlink-requires : goal.unlink-requires
unfolding Bytes
unlink-requires c =
    (opened-ready c.args.volume.now c.in_ok-layout.ensures (λ i. omega (arith, c.slice_known-1.given i)), opened-good c.args.volume.now c.in_ok-layout.ensures)

pub returns : goal.returns
unfolding unlink
returns c =
    door-open c.args.volume.now (name_step (Unlinking.unlink c.args.start c.args.path.now c.args.expected c.args.opens)) (opened-sound c.args.volume.now c.in_ok-layout.ensures) c.unlink.ensures
