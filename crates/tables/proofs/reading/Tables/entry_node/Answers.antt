use mathlib.Core.Path.{refl, ap, ◌∙◌}
use native.Mathlib.Omega.{arith}
use Rattle.tables.proofs.ReadyTables.{table-end, entries-of, row-there}
use Rattle.tables.proofs.reading.Tables.entry_node.Goals as goal

pub overflow_add-base : goal.overflow_add-base
overflow_add-base c =
    omega (arith, table-end (entries-of c.self.invariant c.self.view_is))

pub entry_node-requires : goal.entry_node-requires
entry_node-requires c =
    omega (arith, table-end (entries-of c.self.invariant c.self.view_is))

pub returns : goal.returns
returns c =
    c.entry_node.ensures ∙ ap (λ e. e.node) (row-there (entries-of c.self.invariant c.self.view_is) c.args.place c.requires refl)
