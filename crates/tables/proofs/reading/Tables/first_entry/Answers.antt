use native.Mathlib.Omega.{arith}
use Rattle.tables.proofs.ReadyTables.{table-end, entries-of, rows-fall, row-lead}
use Rattle.tables.proofs.TableSearch.{entry-falls}
use Rattle.tables.proofs.reading.Tables.first_entry.Goals as goal

pub seek_entry-requires : goal.seek_entry-requires
seek_entry-requires c =
    let t = entries-of c.self.invariant c.self.view_is in
    (omega (arith, table-end t, c.entries_used-used.ensures.0), rows-fall t c.entries_used-used.ensures.0 (entry-falls c.args.parent c.args.index) c.requires)

pub returns : goal.returns
returns c =
    (row-lead (entries-of c.self.invariant c.self.view_is) _ c.entries_used-used.ensures.0 c.seek_entry.ensures.0, omega (arith, c.entries_used-used.ensures.0, c.seek_entry.ensures.1))
