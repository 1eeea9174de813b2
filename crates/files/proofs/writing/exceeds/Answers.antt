use borrow.Author.Tests.{lt-ltb}
use Rattle.store.proofs.RoomSteps.{past-limit}
use mathlib.Core.Path.{sym}
use native.Mathlib.Omega.{arith}
use Prim.Native.Nat.{◌+◌}
use Rattle.files.proofs.writing.exceeds.Goals as goal

pub returns-then-limit-offset : goal.returns-then-limit-offset
returns-then-limit-offset c =
    sym (lt-ltb c.args.limit (c.args.offset + c.args.count) (omega arith))

pub returns : goal.returns
returns c =
    past-limit c.args.limit c.args.offset c.args.count (omega arith)
