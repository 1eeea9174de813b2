use Rattle.rim.proofs.OneGiven.{gives-value}
use Rattle.rim.proofs.lentilraft_find_node.Goals as goal

pub returns : goal.returns
returns c =
    gives-value c.find_node-answer.ensures c.number.ensures.0 c.value.ensures
