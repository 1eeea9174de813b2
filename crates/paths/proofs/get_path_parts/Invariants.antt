use Rattle.std.proofs.Common.{◌≤◌, length}
use Rattle.paths.specs.Bounds.{cut_bounds}
use Rattle.paths.proofs.LeftWalk.{bounds}
use Rattle.paths.proofs.Walk.{Walking}
use Rattle.paths.proofs.get_path_parts.Given as goal

abbrev pub invariant-loop-end : goal.invariant-loop-end
invariant-loop-end l = record {
  within : l.end ≤ length l.path;
  walking : Walking l.path l.at l.end (bounds l.starts l.lengths l.parts.count l.parts.opened) (cut_bounds l.path l.initial.starts l.initial.lengths);
}
