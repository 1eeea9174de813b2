use native.Mathlib.Omega.{arith}
use Rattle.words.specs.Bytes.{Bytes}
use Rattle.soundness.proofs.Checked.{opened-sound, opened-good, opened-ready}
use Rattle.files.specs.Limits as Limits
use Rattle.lentilraft.specs.Door.{set_limit}
use Rattle.lentilraft.proofs.Door.{exit-shut, door-open, door-shut}
use Rattle.lentilraft.proofs.set_limit.Goals as goal

pub returns-in_err-layout : goal.returns-in_err-layout
unfolding set_limit
returns-in_err-layout c =
    let n = exit-shut c.args.volume.now c.from_residual.result c.in_err-layout.ensures c.from_residual.ensures.1 in
    rw n.0 (door-shut c.args.volume.now (Limits.set_limit c.args.node c.args.limit) n.1)

pub set_limit-requires : goal.set_limit-requires
unfolding Bytes
set_limit-requires c =
    (opened-ready c.args.volume.now c.in_ok-layout.ensures (λ i. omega (arith, c.slice_known-1.given i)), opened-good c.args.volume.now c.in_ok-layout.ensures)

pub returns : goal.returns
unfolding set_limit
returns c =
    door-open c.args.volume.now (Limits.set_limit c.args.node c.args.limit) (opened-sound c.args.volume.now c.in_ok-layout.ensures) c.set_limit.ensures
