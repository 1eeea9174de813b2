use Rattle.files.specs.Gap.{closed}
use Rattle.files.proofs.WriteLoop.{WroteTo}
use Rattle.files.proofs.writing.write_chunks_v2.Given as goal

abbrev pub invariant-loop-i : goal.invariant-loop-i
invariant-loop-i l =
    WroteTo (closed l.place l.initial.gap l.initial.volume) l.layout l.span l.node l.offset l.bytes l.first l.count l.place l.volume l.i l.gap
