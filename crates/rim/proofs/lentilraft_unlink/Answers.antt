use Rattle.rim.proofs.OneGiven.{gives-count}
use Rattle.rim.proofs.lentilraft_unlink.Goals as goal

pub returns : goal.returns
returns c =
    gives-count c.unlink_byte-answer.ensures c.number.ensures.0 c.value.ensures
