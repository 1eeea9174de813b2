use Rattle.rim.proofs.OneGiven.{gives}
use Rattle.rim.proofs.lentilraft_link.Goals as goal

pub returns : goal.returns
returns c =
    gives c.link.ensures c.number.ensures.0
