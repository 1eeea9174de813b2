use native.Mathlib.Omega.{arith}
use Rattle.words.specs.Bytes.{Bytes}
use Rattle.soundness.proofs.Checked.{true-sound, framed-ready}
use Rattle.files.specs.Write as Write
use Rattle.lentilraft.specs.Door.{write}
use Rattle.lentilraft.proofs.Door.{door-open}
use Rattle.rim.proofs.OneGiven.{gives-count}
use Rattle.unchecked.proofs.unchecked_write.Goals as goal

pub write-answer-requires : goal.write-answer-requires
unfolding Bytes
write-answer-requires c =
    (framed-ready c.args.volume.now (λ i. omega (arith, c.slice_known-1.given i)) c.requires.framed c.read_layout-layout.ensures, c.requires.good)

pub returns : goal.returns
unfolding write
returns c =
    gives-count (door-open c.args.volume.now (Write.write c.args.node c.args.offset c.args.bytes.now) (true-sound c.args.volume.now c.requires) c.write-answer.ensures) c.number.ensures.0 c.value.ensures
