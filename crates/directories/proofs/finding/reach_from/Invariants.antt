use Rattle.std.specs.Prelude.{Ok}
use mathlib.Core.Path.{◌≡◌}
use Prim.Native.Nat.{◌-◌}
use Rattle.directories.specs.Reaches.{reach_all, reach_from}
use Rattle.paths.specs.Shown.{shown_from, shown_parts}
use Rattle.directories.proofs.finding.reach_from.Given as goal

abbrev pub invariant-loop-i : goal.invariant-loop-i
invariant-loop-i l =
    reach_all l.tables.names.entries (Ok l.reached) (shown_from l.path l.starts l.lengths l.i (l.count - l.i)) ≡ reach_from l.start l.tables.names (shown_parts l.path l.starts l.lengths l.count)
