use Rattle.rim.proofs.OneGiven.{gives}
use Rattle.rim.proofs.lentilraft_resize_file.Goals as goal

pub returns : goal.returns
returns c =
    gives c.resize_file.ensures c.number.ensures.0
