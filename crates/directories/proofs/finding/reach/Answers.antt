use mathlib.Core.Path.{sym, ◌∙◌}
use Rattle.types.proofs.Results.{or-refused, exit-is}
use Rattle.directories.proofs.NamedEntry.{entry_found_lem}
use Rattle.directories.proofs.Reaching.{reach-long, reach-none, reach-at}
use Rattle.directories.proofs.finding.reach.Goals as goal

pub returns-then-part-gt-MOST_NAME : goal.returns-then-part-gt-MOST_NAME
returns-then-part-gt-MOST_NAME c =
    reach-long c.args.tables.now.names.entries c.args.node c.args.part.now c.if-part-gt-MOST_NAME.true

pub returns-in_err-place : goal.returns-in_err-place
returns-in_err-place c =
    let n = or-refused _ _ c.in_err-place.ensures.value in
    rw (exit-is _ c.from_residual.ensures.1, n.1) (reach-none c.args.tables.now.names.entries c.args.node c.args.part.now c.if-part-gt-MOST_NAME.false n.0 c.find_entry.ensures)

pub entry_node-node-requires : goal.entry_node-node-requires
entry_node-node-requires c =
    (entry_found_lem c.args.node c.args.part.now c.args.tables.now.names.entries c.requires (sym c.in_ok-place.ensures.ok_part ∙ c.find_entry.ensures)).0

pub returns : goal.returns
returns c =
    reach-at c.args.tables.now.names.entries c.args.node c.args.part.now c.if-part-gt-MOST_NAME.false (sym c.in_ok-place.ensures.ok_part ∙ c.find_entry.ensures) c.entry_node-node.ensures
