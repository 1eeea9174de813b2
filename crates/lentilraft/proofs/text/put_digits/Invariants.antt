use mathlib.Core.Path.{◌≡◌}
use Prim.Native.Nat.{◌≤◌}
use lib.ListN.{length}
use Rattle.words.specs.Bytes.{over}
use Rattle.lentilraft.specs.Report.{digits}
use Rattle.lentilraft.proofs.text.put_digits.Given as goal

abbrev pub invariant-loop-i : goal.invariant-loop-i
invariant-loop-i l =
    (l.i ≤ l.k) × (over l.out l.at (digits l.i l.rest) ≡ over l.initial.out l.at (digits l.k l.n)) × (length l.out ≡ length l.initial.out)

abbrev pub decreases-loop-i : goal.decreases-loop-i
decreases-loop-i l =
    l.i
