use native.Mathlib.Omega.{arith}
use Rattle.words.specs.Bytes.{Bytes}
use Rattle.soundness.proofs.Checked.{opened-sound, opened-ready}
use Rattle.lentilraft.specs.Door.{chunk_size_set, set_chunk_size}
use Rattle.lentilraft.proofs.Door.{exit-shut, door-open, door-shut}
use Rattle.lentilraft.proofs.set_chunk_size.Goals as goal

pub returns-in_err-layout : goal.returns-in_err-layout
unfolding set_chunk_size
returns-in_err-layout c =
    let n = exit-shut c.args.volume.now c.from_residual.result c.in_err-layout.ensures c.from_residual.ensures.1 in
    rw n.0 (door-shut c.args.volume.now (chunk_size_set c.args.span) n.1)

pub set_chunk_size-requires : goal.set_chunk_size-requires
unfolding Bytes
set_chunk_size-requires c =
    opened-ready c.args.volume.now c.in_ok-layout.ensures (λ i. omega (arith, c.slice_known-1.given i))

pub returns : goal.returns
unfolding set_chunk_size chunk_size_set
returns c =
    door-open c.args.volume.now (chunk_size_set c.args.span) (opened-sound c.args.volume.now c.in_ok-layout.ensures) c.set_chunk_size.ensures
