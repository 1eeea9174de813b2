use mathlib.Core.Path.{ap}
use lib.ListN.{length}
use Rattle.words.proofs.Rules.{told, says-true}
use Rattle.types.proofs.Results.{or-refused, exit-is}
use Rattle.volume.proofs.GeometryRules.{place-fails, place-passes, place-layout, says-placed}
use Rattle.volume.proofs.FreshLaid.{new-misplaced, new-missized, new-done}
use Rattle.volume.proofs.fresh.new_volume.Goals as goal

pub returns-in_err-layout : goal.returns-in_err-layout
returns-in_err-layout c =
    let n = or-refused _ _ c.in_err-layout.ensures.value in
    rw (exit-is _ c.from_residual.ensures.1, n.1) (new-misplaced c.args.nodes c.args.entries c.args.chunks c.args.span c.args.volume.now (place-fails _ _ c.place_tables.ensures n.0))

pub returns-then-not-accepted : goal.returns-then-not-accepted
returns-then-not-accepted c =
    new-missized c.args.nodes c.args.entries c.args.chunks c.args.span c.args.volume.now (place-passes _ _ c.place_tables.ensures c.in_ok-layout.ensures.ok_part) (told c.accepted.ensures c.if-not-accepted.true)

pub lay-requires : goal.lay-requires
lay-requires c =
    (says-true (says-placed c.args.nodes c.args.entries c.args.chunks (length c.args.volume.now)) (place-passes _ _ c.place_tables.ensures c.in_ok-layout.ensures.ok_part), ap (λ y. y.nodes) (place-layout _ _ c.place_tables.ensures c.in_ok-layout.ensures.ok_part))

pub returns : goal.returns
returns c =
    new-done c.args.nodes c.args.entries c.args.chunks c.args.span c.args.volume.now (place-passes _ _ c.place_tables.ensures c.in_ok-layout.ensures.ok_part) (told c.accepted.ensures c.if-not-accepted.false) c.lay.ensures
