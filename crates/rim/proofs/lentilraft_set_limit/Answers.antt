use Rattle.rim.proofs.OneGiven.{gives}
use Rattle.rim.proofs.lentilraft_set_limit.Goals as goal

pub returns : goal.returns
returns c =
    gives c.set_limit.ensures c.number.ensures.0
