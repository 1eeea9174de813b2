use Rattle.rim.proofs.OneGiven.{gives}
use Rattle.rim.proofs.lentilraft_new_volume.Goals as goal

pub returns : goal.returns
returns c =
    gives c.new_volume.ensures c.number.ensures.0
