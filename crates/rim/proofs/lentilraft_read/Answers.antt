use Rattle.rim.proofs.OneGiven.{gives-count}
use Rattle.rim.proofs.lentilraft_read.Goals as goal

pub returns : goal.returns
returns c =
    gives-count c.read-answer.ensures c.number.ensures.0 c.value.ensures
