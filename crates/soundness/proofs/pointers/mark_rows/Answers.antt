use mathlib.Core.Bool.{not}
use mathlib.Core.Path.{ap}
use native.Mathlib.Omega.{arith}
use lib.ListN.{length}
use Rattle.soundness.specs.PointerRules.{row_pointer}
use Rattle.soundness.proofs.Marks.{pass-start, pass-turn, pass-fail, pass-end}
use Rattle.soundness.proofs.pointers.mark_rows.Goals as goal

pub loop-i-init : goal.loop-i-init
loop-i-init c =
    pass-start c.args.span c.args.next (row_pointer c.args.tables.now.store.chunks) c.args.marks.now

pub returns-then-not-mark : goal.returns-then-not-mark
returns-then-not-mark c =
    pass-fail c.args.span c.args.next (row_pointer c.args.tables.now.store.chunks) c.args.marks.now c.loop-i.i c.loop-i.invariant (ap (λ c. c.pointer) c.chunk_row-row.ensures) c.mark.ensures (length c.args.tables.now.store.chunks) (omega (arith, c.chunks_used-used.ensures.0)) (ap not c.if-not-mark.true)

pub loop-i-preserved : goal.loop-i-preserved
loop-i-preserved c =
    pass-turn c.args.span c.args.next (row_pointer c.args.tables.now.store.chunks) c.args.marks.now c.loop-i.i c.loop-i.invariant (ap (λ c. c.pointer) c.chunk_row-row.ensures) c.mark.ensures (ap not c.if-not-mark.false)

pub returns : goal.returns
returns c =
    pass-end c.args.span c.args.next (row_pointer c.args.tables.now.store.chunks) c.args.marks.now c.loop-i.invariant (omega (arith, c.chunks_used-used.ensures.0))
