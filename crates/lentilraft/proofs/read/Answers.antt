use native.Mathlib.Omega.{arith}
use Rattle.words.specs.Bytes.{Bytes}
use Rattle.soundness.proofs.Checked.{opened-sound, opened-good, opened-ready}
use Rattle.files.specs.Read as Read
use Rattle.lentilraft.specs.Door.{read}
use Rattle.lentilraft.proofs.Door.{exit-shut, into-shut, into-open}
use Rattle.lentilraft.proofs.read.Goals as goal

pub returns-in_err-open : goal.returns-in_err-open
unfolding read
returns-in_err-open c =
    let n = exit-shut c.args.volume.now c.from_residual.result c.in_err-open.ensures c.from_residual.ensures.1 in
    rw n.0 (into-shut c.args.volume.now c.args.buffer.now (Read.read c.args.node c.args.offset) n.1)

pub invariant_of-tables : goal.invariant_of-tables
unfolding Bytes
invariant_of-tables c =
    opened-ready c.args.volume.now c.in_ok-open.ensures (λ i. omega (arith, c.type_inv.volume i))

pub read-requires : goal.read-requires
read-requires c =
    opened-good c.args.volume.now c.in_ok-open.ensures

pub returns : goal.returns
unfolding read
returns c =
    into-open c.args.volume.now c.args.buffer.now (Read.read c.args.node c.args.offset) (opened-sound c.args.volume.now c.in_ok-open.ensures) c.read.ensures
