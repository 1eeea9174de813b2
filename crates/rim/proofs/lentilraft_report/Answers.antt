use Rattle.rim.proofs.OneGiven.{gives-count}
use Rattle.rim.proofs.lentilraft_report.Goals as goal

pub returns : goal.returns
returns c =
    gives-count c.report-answer.ensures c.number.ensures.0 c.value.ensures
