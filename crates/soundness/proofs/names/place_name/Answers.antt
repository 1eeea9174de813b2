use mathlib.Core.Path.{sym, ◌∙◌}
use mathlib.Core.Bool.{false≢true}
use native.Mathlib.Omega.{arith}
use Rattle.tables.proofs.ReadyVolume.{fits-of}
use Rattle.soundness.proofs.NameOrder.{order-put}
use Rattle.soundness.proofs.names.place_name.Goals as goal

pub returns-then-not-name_new : goal.returns-then-not-name_new
returns-then-not-name_new c =
    (sym c.if-not-name_new.true ∙ c.name_new.ensures.0, λ t. absurd (false≢true t))

pub put_in-requires : goal.put_in-requires
put_in-requires c =
    (c.seek_name-place.ensures.bound, omega (arith, c.requires.0, (fits-of c.tables.invariant c.tables.view_is).names), c.requires.1.long)

pub returns : goal.returns
returns c =
    (sym c.if-not-name_new.false ∙ c.name_new.ensures.0, λ t. order-put c.args.tables.now.names.entries c.args.order.now c.args.i c.requires.1 c.seek_name-place.result c.seek_name-place.ensures _ (c.name_new.ensures.1 c.if-not-name_new.false) c.put_in.ensures)
