use mathlib.Core.Path.{sym, ap}
use Prim.Native.Nat.{◌+◌}
use native.Mathlib.Omega.{arith}
use borrow.Author.Tests.{le-leb, lt-leb}
use Rattle.words.proofs.Rules.{told, stop, go_on}
use Rattle.types.specs.Sizes.{least_area}
use Rattle.volume.specs.Volume.{at_bytes}
use Rattle.volume.specs.Geometry.{placed}
use Rattle.volume.proofs.GeometryRules.{roomy-fits, nowhere, somewhere}
use Rattle.volume.proofs.geometry.place_tables.Goals as goal

pub returns-then-not-is_roomy : goal.returns-then-not-is_roomy
unfolding placed
returns-then-not-is_roomy c =
    nowhere _ _ (sym (stop _ _ (told c.is_roomy.ensures c.if-not-is_roomy.true)))

pub returns-then-not-is_roomy-2 : goal.returns-then-not-is_roomy-2
unfolding placed
returns-then-not-is_roomy-2 c =
    nowhere _ _ (sym (go_on _ _ (told c.is_roomy.ensures c.if-not-is_roomy.false) (stop _ _ (told c.is_roomy-2.ensures c.if-not-is_roomy-2.true))))

pub returns-then-not-is_roomy-3 : goal.returns-then-not-is_roomy-3
unfolding placed
returns-then-not-is_roomy-3 c =
    nowhere _ _ (sym (go_on _ _ (told c.is_roomy.ensures c.if-not-is_roomy.false) (go_on _ _ (told c.is_roomy-2.ensures c.if-not-is_roomy-2.false) (stop _ _ (told c.is_roomy-3.ensures c.if-not-is_roomy-3.true)))))

pub starts-layout-requires : goal.starts-layout-requires
starts-layout-requires c =
    ((roomy-fits (told c.is_roomy.ensures c.if-not-is_roomy.false)).1, (roomy-fits (told c.is_roomy-2.ensures c.if-not-is_roomy-2.false)).1, (roomy-fits (told c.is_roomy-3.ensures c.if-not-is_roomy-3.false)).1)

pub overflow_add-area : goal.overflow_add-area
overflow_add-area c =
    omega (arith, (ap (λ y. y.area) c.starts-layout.ensures), (roomy-fits (told c.is_roomy.ensures c.if-not-is_roomy.false)).1, (roomy-fits (told c.is_roomy-2.ensures c.if-not-is_roomy-2.false)).1, (roomy-fits (told c.is_roomy-3.ensures c.if-not-is_roomy-3.false)).1)

pub returns-then-extent-area : goal.returns-then-extent-area
unfolding placed
returns-then-extent-area c =
    nowhere _ _ (sym (go_on _ _ (told c.is_roomy.ensures c.if-not-is_roomy.false) (go_on _ _ (told c.is_roomy-2.ensures c.if-not-is_roomy-2.false) (go_on _ _ (told c.is_roomy-3.ensures c.if-not-is_roomy-3.false) (sym (lt-leb (at_bytes c.args.nodes c.args.entries c.args.chunks + least_area) c.args.extent (omega (arith, (ap (λ y. y.area) c.starts-layout.ensures)))))))))

pub returns : goal.returns
unfolding placed
returns c =
    somewhere _ _ (sym (go_on _ _ (told c.is_roomy.ensures c.if-not-is_roomy.false) (go_on _ _ (told c.is_roomy-2.ensures c.if-not-is_roomy-2.false) (go_on _ _ (told c.is_roomy-3.ensures c.if-not-is_roomy-3.false) (sym (le-leb (at_bytes c.args.nodes c.args.entries c.args.chunks + least_area) c.args.extent (omega (arith, (ap (λ y. y.area) c.starts-layout.ensures))))))))) c.starts-layout.ensures
