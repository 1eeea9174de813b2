use native.Mathlib.Omega.{arith}
use Rattle.tables.proofs.ReadyVolume.{fits-of}
use Rattle.soundness.proofs.NameOrder.{new-answer, new-last}
use Rattle.soundness.proofs.names.name_new.Goals as goal

pub returns-then-i-place : goal.returns-then-i-place
returns-then-i-place c =
    new-last c.args.tables.now.names.entries c.args.order.now c.args.i c.requires.1 c.args.place c.requires.2 (omega arith)

pub offset_bounds-order-place : goal.offset_bounds-order-place
offset_bounds-order-place c =
    omega (arith, c.requires.0, (fits-of c.tables.invariant c.tables.view_is).names)

pub bounds-order-place : goal.bounds-order-place
bounds-order-place c =
    omega (arith, c.requires.0, (fits-of c.tables.invariant c.tables.view_is).names)

pub returns : goal.returns
returns c =
    new-answer c.args.tables.now.names.entries c.args.order.now c.args.i c.requires.1 c.args.place c.requires.2 (omega arith) _ c.names_differ.ensures
