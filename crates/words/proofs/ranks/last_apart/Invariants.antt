use mathlib.Core.Path.{◌≡◌}
use Prim.Native.Nat.{◌+◌, ◌*◌}
use lib.ListN.{drop}
use Rattle.words.proofs.ranks.last_apart.Given as goal

abbrev pub invariant-loop-i : goal.invariant-loop-i
invariant-loop-i g l =
    drop (l.from + g.row.N * l.i) l.a ≡ drop (l.from + g.row.N * l.i) l.b
