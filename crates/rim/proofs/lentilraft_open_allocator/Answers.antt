use Rattle.rim.proofs.OneGiven.{gives}
use Rattle.rim.proofs.lentilraft_open_allocator.Goals as goal

pub returns : goal.returns
returns c =
    gives c.open.ensures c.number.ensures.0
