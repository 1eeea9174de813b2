use Rattle.rim.proofs.OneGiven.{gives_found, gives-absent, gives-stopped, gives-no-search}
use Rattle.rim.proofs.lentilraft_search.Goals as goal

pub returns-in-Ok-Found : goal.returns-in-Ok-Found
returns-in-Ok-Found c = gives_found (rw c.in-Ok-Found.field-0-is at c.in-Ok-Found.ensures)

pub returns-in-Ok-Absent : goal.returns-in-Ok-Absent
returns-in-Ok-Absent c = gives-absent (rw c.in-Ok-Absent.field-0-is at c.in-Ok-Absent.ensures)

pub returns-in-Ok-Stopped : goal.returns-in-Ok-Stopped
returns-in-Ok-Stopped c = gives-stopped (rw c.in-Ok-Stopped.field-0-is at c.in-Ok-Stopped.ensures)

pub returns-in-Err : goal.returns-in-Err
returns-in-Err c = gives-no-search c.in-Err.ensures c.from.ensures.0
