use Rattle.lentilraft.proofs.Lines.{Seen}
use Rattle.lentilraft.specs.Report.{width}
use Rattle.lentilraft.proofs.text.places.Given as goal

abbrev pub invariant-loop-rest : goal.invariant-loop-rest
invariant-loop-rest l =
    Seen (width 20 l.n) l.k l.rest

abbrev pub decreases-loop-rest : goal.decreases-loop-rest
decreases-loop-rest l =
    l.rest
