use Rattle.rim.proofs.OneGiven.{gives}
use Rattle.rim.proofs.lentilraft_set_chunk_size.Goals as goal

pub returns : goal.returns
returns c =
    gives c.set_chunk_size.ensures c.number.ensures.0
