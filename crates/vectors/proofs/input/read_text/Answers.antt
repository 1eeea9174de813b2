use Rattle.std.proofs.Common.{rules}
use Rattle.vectors.proofs.Reading.{read-turn}
use Rattle.vectors.proofs.input.read_text.Goals as goal

pub loop-done-preserved : goal.loop-done-preserved
loop-done-preserved g c =
    (search rules, search rules, read-turn _ _ _ c.loop-done.room c.read.new.buf c.loop-done.done c.in-Ok.n c.loop-done.invariant.1 c.in-Ok.ensures.bound.0 c.loop-done.invariant.2 c.in-Ok.ensures.bytes.0)
