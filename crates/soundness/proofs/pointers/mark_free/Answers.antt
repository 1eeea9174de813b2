use mathlib.Core.Bool.{not}
use mathlib.Core.Path.{ap}
use native.Mathlib.Omega.{arith}
use Rattle.allocator.specs.Opening.{free_word}
use Rattle.soundness.proofs.Marks.{pass-start, pass-turn, pass-fail, pass-end}
use Rattle.soundness.proofs.pointers.mark_free.Goals as goal

pub loop-i-init : goal.loop-i-init
loop-i-init c =
    pass-start c.args.span c.args.next (free_word c.args.words.now) c.args.marks.now

pub returns-then-not-mark : goal.returns-then-not-mark
unfolding free_word
returns-then-not-mark c =
    pass-fail c.args.span c.args.next (free_word c.args.words.now) c.args.marks.now c.loop-i.i c.loop-i.invariant c.get_ptr.ensures c.mark.ensures c.args.count (omega arith) (ap not c.if-not-mark.true)

pub loop-i-preserved : goal.loop-i-preserved
unfolding free_word
loop-i-preserved c =
    pass-turn c.args.span c.args.next (free_word c.args.words.now) c.args.marks.now c.loop-i.i c.loop-i.invariant c.get_ptr.ensures c.mark.ensures (ap not c.if-not-mark.false)

pub returns : goal.returns
returns c =
    pass-end c.args.span c.args.next (free_word c.args.words.now) c.args.marks.now c.loop-i.invariant (omega arith)
