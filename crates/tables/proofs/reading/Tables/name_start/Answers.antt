use mathlib.Core.Path.{ap, ◌∙◌}
use Prim.Native.Nat.{◌+◌, ◌*◌}
use native.Mathlib.Omega.{arith}
use Rattle.tables.specs.Tables.{layout_at}
use Rattle.volume.specs.Rows.{entry_row}
use Rattle.tables.proofs.ReadyTables.{table-end, entries-of}
use Rattle.tables.proofs.reading.Tables.name_start.Goals as goal

pub overflow_add-result : goal.overflow_add-result
overflow_add-result c =
    omega (arith, table-end (entries-of c.self.invariant c.self.view_is))

pub overflow_add-result-2 : goal.overflow_add-result-2
overflow_add-result-2 c =
    omega (arith, table-end (entries-of c.self.invariant c.self.view_is))

pub returns : goal.returns
returns c =
    ap (λ y. y.entries + entry_row * c.args.place + 24) (c.self.invariant.layout ∙ ap layout_at c.self.view_is)
