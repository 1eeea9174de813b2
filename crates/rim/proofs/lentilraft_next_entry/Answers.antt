use Rattle.rim.proofs.OneGiven.{gives-name, gives-no-name}
use Rattle.rim.proofs.lentilraft_next_entry.Goals as goal

pub returns-in-Ok : goal.returns-in-Ok
returns-in-Ok c = gives-name c.in-Ok.ensures

pub returns-in-Err : goal.returns-in-Err
returns-in-Err c = gives-no-name c.in-Err.ensures c.from.ensures.0
