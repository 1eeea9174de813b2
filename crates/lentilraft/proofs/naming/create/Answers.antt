use native.Mathlib.Omega.{arith}
use Rattle.words.specs.Bytes.{Bytes}
use Rattle.soundness.proofs.Checked.{opened-sound, opened-good, opened-ready}
use Rattle.volume.specs.Steps.{name_step}
use Rattle.names.specs.Entering as Entering
use Rattle.lentilraft.specs.Door.{create}
use Rattle.lentilraft.proofs.Door.{exit-shut, door-open, door-shut}
use Rattle.lentilraft.proofs.naming.create.Goals as goal

pub returns-in_err-layout : goal.returns-in_err-layout
unfolding create
returns-in_err-layout c =
    let n = exit-shut c.args.volume.now c.from_residual.result c.in_err-layout.ensures c.from_residual.ensures.1 in
    rw n.0 (door-shut c.args.volume.now (name_step (Entering.create c.args.parent c.args.name.now c.args.kind)) n.1)

pub create-requires : goal.create-requires
unfolding Bytes
create-requires c =
    (opened-ready c.args.volume.now c.in_ok-layout.ensures (λ i. omega (arith, c.slice_known-1.given i)), opened-good c.args.volume.now c.in_ok-layout.ensures)

pub returns : goal.returns
unfolding create
returns c =
    door-open c.args.volume.now (name_step (Entering.create c.args.parent c.args.name.now c.args.kind)) (opened-sound c.args.volume.now c.in_ok-layout.ensures) c.create.ensures
