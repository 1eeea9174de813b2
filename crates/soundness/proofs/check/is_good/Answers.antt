use mathlib.Core.Path.{sym, ◌∙◌}
use mathlib.Core.Bool.{false≢true}
use native.Mathlib.Omega.{arith}
use Rattle.words.proofs.Rules.{told, says-true}
use Rattle.allocator.proofs.Sizes.{accepted-bounds}
use Rattle.tables.proofs.ReadyVolume.{fits-of}
use Rattle.soundness.proofs.Checked.{says-named, says-stored}
use Rattle.soundness.proofs.check.is_good.Goals.{then-is_named, else-is_named}
use Rattle.soundness.proofs.check.is_good.Goals as goal

pub is_owned-requires : goal.is_owned-requires
is_owned-requires c =
    let v = c.args.tables.now in
    let f = (fits-of c.tables.invariant c.tables.view_is).store in
    elim c.if-is_named.branch [
      | then-is_named w ↦ (
        says-true (says-named v.names) (told c.is_named.ensures w.if-is_named.true),
        says-true (says-stored v.store (omega (arith, accepted-bounds v.store.allocator.chunk_size f.size)) f.chunk_room.1) (told w.is_stored.ensures (sym w.value-is ∙ c.if-is_stored.true)),
        c.chunk_size-span.ensures.0,
        c.chunk_size-span.ensures.1,
        c.chunk_size-span.ensures.2,
        c.chunk_size-span.ensures.3,
      )
      | else-is_named w ↦ absurd (false≢true (sym w.if-is_named.false ∙ sym w.value-is ∙ c.if-is_stored.true))
    ]
