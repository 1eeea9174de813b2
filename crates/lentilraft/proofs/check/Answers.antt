use Rattle.std.specs.Prelude.{Ok, Err}
use mathlib.Core.Path.{refl}
use Rattle.soundness.proofs.Checked.{opened-sound}
use Rattle.lentilraft.specs.Door.{check}
use Rattle.lentilraft.proofs.Door.{exit-shut, let-in, shut}
use Rattle.lentilraft.proofs.check.Goals as goal

pub returns-in_err-open : goal.returns-in_err-open
unfolding check
returns-in_err-open c =
    let n = exit-shut c.args.volume.now c.from_residual.result c.in_err-open.ensures c.from_residual.ensures.1 in
    rw n.0 (shut c.args.volume.now Err (λ v. Ok 0) n.1)

pub returns : goal.returns
unfolding check
returns c =
    let-in c.args.volume.now Err (λ v. Ok 0) (opened-sound c.args.volume.now c.in_ok-open.ensures) refl
