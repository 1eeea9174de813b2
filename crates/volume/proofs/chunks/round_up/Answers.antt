use Rattle.words.proofs.Powers.{one-positive}
use Rattle.volume.specs.Sound.{round_up}
use Rattle.volume.proofs.Rounding.{up_le}
use Rattle.volume.proofs.chunks.round_up.Goals as goal

pub overflow_sub-span : goal.overflow_sub-span
overflow_sub-span c =
    one-positive _ c.requires.0

pub returns : goal.returns
unfolding round_up
returns c =
    (c.quotient.ensures, rw c.quotient.ensures (up_le c.args.span c.args.size (one-positive _ c.requires.0)))
