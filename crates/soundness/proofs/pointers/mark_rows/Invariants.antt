use mathlib.Core.Bool.{true}
use Rattle.soundness.specs.PointerRules.{Passed, row_pointer}
use Rattle.soundness.proofs.pointers.mark_rows.Given as goal

abbrev pub invariant-loop-i : goal.invariant-loop-i
invariant-loop-i l =
    Passed l.span l.next (row_pointer l.tables.store.chunks) l.i l.initial.marks true l.marks
