use native.Mathlib.Omega.{arith}
use Rattle.tables.proofs.ReadyTables.{table-end, chunks-of, row-there}
use Rattle.tables.proofs.reading.Tables.chunk_row.Goals as goal

pub overflow_add-base : goal.overflow_add-base
overflow_add-base c =
    omega (arith, table-end (chunks-of c.self.invariant c.self.view_is))

pub read_chunk-requires : goal.read_chunk-requires
read_chunk-requires c =
    omega (arith, table-end (chunks-of c.self.invariant c.self.view_is))

pub returns : goal.returns
returns c =
    row-there (chunks-of c.self.invariant c.self.view_is) c.args.place c.requires c.read_chunk.ensures
