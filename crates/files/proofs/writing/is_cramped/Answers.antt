use borrow.Author.Tests.{le-ltb}
use mathlib.Core.Path.{sym, ap}
use Prim.Native.Nat.{ℕ}
use native.Mathlib.Omega.{arith}
use lib.Dec.{ltb}
use Rattle.store.specs.Room.{room}
use Rattle.files.proofs.writing.is_cramped.Goals as goal

pub returns-then-count-eq0 : goal.returns-then-count-eq0
returns-then-count-eq0 c =
    sym (le-ltb (room c.args.tables.now.store) c.args.count (omega (arith, c.if-count-eq0.true)))

pub returns : goal.returns
returns c =
    ap (λ (x : ℕ). ltb x c.args.count) c.count_room.ensures
