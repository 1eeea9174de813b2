use Rattle.std.proofs.Common.{◌≤◌, length}
use Rattle.vectors.proofs.lay.lay_run.Given as goal

abbrev pub invariant-loop : goal.invariant-loop
invariant-loop l = length l.reader ≤ length l.initial.reader
