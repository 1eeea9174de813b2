use native.Mathlib.Omega.{arith}
use Rattle.words.specs.Bytes.{Bytes}
use Rattle.soundness.proofs.Checked.{true-sound, framed-ready}
use Rattle.files.specs.Read as Read
use Rattle.lentilraft.specs.Door.{read}
use Rattle.lentilraft.proofs.Door.{into-open}
use Rattle.rim.proofs.OneGiven.{gives-count}
use Rattle.unchecked.proofs.unchecked_read.Goals as goal

pub invariant_of-tables : goal.invariant_of-tables
unfolding Bytes
invariant_of-tables c =
    framed-ready c.args.volume.now (λ i. omega (arith, c.type_inv.volume i)) c.requires.framed c.read_layout.ensures

pub read-answer-requires : goal.read-answer-requires
read-answer-requires c =
    c.requires.good

pub returns : goal.returns
unfolding read
returns c =
    gives-count (into-open c.args.volume.now c.args.buffer.now (Read.read c.args.node c.args.offset) (true-sound c.args.volume.now c.requires) c.read-answer.ensures) c.number.ensures.0 c.value.ensures
