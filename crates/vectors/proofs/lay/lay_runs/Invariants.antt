use Rattle.std.proofs.Common.{◌≤◌, length}
use Rattle.vectors.proofs.lay.lay_runs.Given as goal

abbrev pub invariant-loop : goal.invariant-loop
invariant-loop l = length l.numbers ≤ length l.initial.numbers
