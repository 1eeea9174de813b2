use mathlib.Core.Path.{sym, ◌∙◌}
use Rattle.tables.proofs.ReadyVolume.{fits-of}
use Rattle.directories.proofs.NewSpots.{spot-taken, spot-new, spot-full, spot-last, spot-at}
use Rattle.directories.proofs.entering.find_spot.Goals as goal

pub returns-then-is_some : goal.returns-then-is_some
returns-then-is_some c =
    spot-taken c.args.directory c.args.name.now c.args.full c.args.tables.now.names.entries c.requires _ (sym c.is_some.ensures ∙ c.if-is_some.true) c.find_entry.ensures

pub returns-then-full : goal.returns-then-full
returns-then-full c =
    spot-full c.args.directory c.args.name.now c.args.full c.args.tables.now.names.entries c.requires (spot-new c.args.directory c.args.name.now c.args.full c.args.tables.now.names.entries c.requires _ (sym c.is_some.ensures ∙ c.if-is_some.false) c.find_entry.ensures) c.if-full.true

pub returns-then-index-eq-MOST_INDEX : goal.returns-then-index-eq-MOST_INDEX
returns-then-index-eq-MOST_INDEX c =
    spot-last c.args.directory c.args.name.now c.args.full c.args.tables.now.names.entries c.requires (spot-new c.args.directory c.args.name.now c.args.full c.args.tables.now.names.entries c.requires _ (sym c.is_some.ensures ∙ c.if-is_some.false) c.find_entry.ensures) c.if-full.false c.greatest_index-index.ensures c.if-index-eq-MOST_INDEX.true

pub returns : goal.returns
returns c =
    spot-at c.args.directory c.args.name.now c.args.full c.args.tables.now.names.entries c.requires (spot-new c.args.directory c.args.name.now c.args.full c.args.tables.now.names.entries c.requires _ (sym c.is_some.ensures ∙ c.if-is_some.false) c.find_entry.ensures) c.if-full.false c.greatest_index-index.ensures c.if-index-eq-MOST_INDEX.false (fits-of c.tables.invariant c.tables.view_is).names.entry_rows c.first_entry-place.ensures.0
