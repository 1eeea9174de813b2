use native.Mathlib.Omega.{arith}
use Rattle.tables.proofs.ReadyTables.{table-end, chunks-of, rows-fall, row-lead}
use Rattle.tables.proofs.TableSearch.{chunk-falls}
use Rattle.tables.proofs.reading.Tables.first_chunk.Goals as goal

pub seek_chunk-requires : goal.seek_chunk-requires
seek_chunk-requires c =
    let t = chunks-of c.self.invariant c.self.view_is in
    (omega (arith, table-end t, c.chunks_used-used.ensures.0), rows-fall t c.chunks_used-used.ensures.0 (chunk-falls c.args.node c.args.index) c.requires)

pub returns : goal.returns
returns c =
    (row-lead (chunks-of c.self.invariant c.self.view_is) _ c.chunks_used-used.ensures.0 c.seek_chunk.ensures.0, omega (arith, c.chunks_used-used.ensures.0, c.seek_chunk.ensures.1))
