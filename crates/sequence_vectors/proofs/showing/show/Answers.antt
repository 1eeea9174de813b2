use Rattle.std.proofs.Common.{arith}
use Rattle.words.specs.Bytes.{Bytes}
use Rattle.soundness.proofs.Checked.{opened-ready}
use Rattle.sequence_vectors.proofs.showing.show.Goals as goal

pub invariant_of-tables : goal.invariant_of-tables
unfolding Bytes
invariant_of-tables g c =
    opened-ready c.args.volume.now c.in-Ok.ensures (λ i. omega (arith, c.type_inv.volume i))
