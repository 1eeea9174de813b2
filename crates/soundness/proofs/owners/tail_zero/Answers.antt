use mathlib.Core.Path.{ap}
use Prim.Native.Nat.{◌+◌, ◌-◌, ◌/◌}
use native.Mathlib.Omega.{arith}
use borrow.Author.Tests.{le-ltb}
use Rattle.words.specs.Bytes.{part}
use Rattle.words.specs.Tests.{all_zero}
use lib.ListN.{length}
use Rattle.words.proofs.Blocks.{zero-part}
use Rattle.words.proofs.Rules.{or_else, by1}
use Rattle.soundness.specs.OwnerRules.{tail_zero}
use Rattle.soundness.proofs.owners.tail_zero.Goals as goal

pub overflow_add-from : goal.overflow_add-from
overflow_add-from c =
    omega (arith, ap length c.area-area.ensures, c.requires.2, c.remainder-used.ensures.1)

pub overflow_add-from-2 : goal.overflow_add-from-2
overflow_add-from-2 c =
    omega (arith, ap length c.area-area.ensures, c.requires.2, c.remainder-used.ensures.1)

pub returns : goal.returns
unfolding tail_zero
returns c =
    or_else _ _ (le-ltb c.args.row.index (c.args.size / c.args.span) (omega (arith, c.quotient.ensures, c.if-row-quotient.false)))
    (by1 (λ u. all_zero (part c.args.tables.now.store.bytes (c.args.row.pointer + u) (c.args.span - u))) (zero-part c.args.tables.now.store.bytes (c.args.row.pointer + c.remainder-used.result) (c.args.span - c.remainder-used.result) (rw c.area-area.ensures at c.is_zero.ensures)) c.remainder-used.ensures.0)
