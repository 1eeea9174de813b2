use mathlib.Core.Path.{sym, ◌∙◌}
use native.Mathlib.Omega.{arith}
use Rattle.tables.proofs.ReadyVolume.{rooms, count_entries}
use Rattle.tables.proofs.reading.Tables.entries_used.Goals as goal

pub returns : goal.returns
returns c =
    rw (← c.self.view_is) ((c.get.ensures.value ∙ sym (count_entries c.self.inside.bytes.now), omega (arith, rooms c.self.inside.bytes.now c.self.inside.layout c.self.invariant, c.get.ensures.value)))
