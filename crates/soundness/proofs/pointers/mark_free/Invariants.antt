use mathlib.Core.Bool.{true}
use Rattle.allocator.specs.Opening.{free_word}
use Rattle.soundness.specs.PointerRules.{Passed}
use Rattle.soundness.proofs.pointers.mark_free.Given as goal

abbrev pub invariant-loop-i : goal.invariant-loop-i
invariant-loop-i l =
    Passed l.span l.next (free_word l.words) l.i l.initial.marks true l.marks
