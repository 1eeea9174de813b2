use Rattle.tables.specs.Tables.{entry_at}
use Rattle.soundness.proofs.NameOrder.{before-apart-parents, before-beside}
use Rattle.soundness.proofs.names.name_before.Goals as goal

pub returns-then-parent-other : goal.returns-then-parent-other
returns-then-parent-other c =
    before-apart-parents (entry_at c.args.tables.now.names.entries c.args.i) (entry_at c.args.tables.now.names.entries c.args.j) c.entry_parent-parent.ensures c.entry_parent-other.ensures c.if-parent-other.true

pub returns : goal.returns
returns c =
    before-beside (entry_at c.args.tables.now.names.entries c.args.i) (entry_at c.args.tables.now.names.entries c.args.j) c.entry_parent-parent.ensures c.entry_parent-other.ensures c.if-parent-other.false c.entry_name.ensures c.entry_name-2.ensures c.ranks_below.ensures
