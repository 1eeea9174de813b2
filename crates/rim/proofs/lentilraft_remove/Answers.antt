use Rattle.rim.proofs.OneGiven.{gives}
use Rattle.rim.proofs.lentilraft_remove.Goals as goal

pub returns : goal.returns
returns c =
    gives c.remove.ensures c.number.ensures.0
