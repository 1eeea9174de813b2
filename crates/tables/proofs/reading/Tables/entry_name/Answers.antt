use mathlib.Core.Path.{refl, ap, ◌∙◌}
use native.Mathlib.Omega.{arith}
use Rattle.tables.proofs.ReadyVolume.{name-there}
use Rattle.tables.proofs.ReadyTables.{table-end, entries-of, row-there}
use Rattle.tables.proofs.reading.Tables.entry_name.Goals as goal

pub overflow_add-base : goal.overflow_add-base
overflow_add-base c =
    omega (arith, table-end (entries-of c.self.invariant c.self.view_is))

pub entry_name-requires : goal.entry_name-requires
entry_name-requires c =
    (omega (arith, table-end (entries-of c.self.invariant c.self.view_is)), name-there c.self.inside.bytes.now c.self.inside.layout c.self.invariant c.args.place (rw c.self.view_is c.requires))

pub returns : goal.returns
returns c =
    c.entry_name.ensures ∙ ap (λ e. e.name) (row-there (entries-of c.self.invariant c.self.view_is) c.args.place c.requires refl)
