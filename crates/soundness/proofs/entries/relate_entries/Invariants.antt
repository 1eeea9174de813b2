use mathlib.Core.Path.{◌≡◌}
use mathlib.Core.Bool.{true}
use Prim.Native.Nat.{◌≤◌}
use Rattle.words.specs.Rules.{upto}
use Rattle.volume.specs.Rows.{Entry}
use Rattle.tables.specs.Tables.{entry_at}
use Rattle.soundness.specs.EntryRules.{entry_related}
use Rattle.soundness.proofs.Counters.{Counted}
use Rattle.soundness.proofs.entries.relate_entries.Given as goal

abbrev pub invariant-loop-i : goal.invariant-loop-i
invariant-loop-i l =
    (upto l.i (λ j. entry_related l.tables.names.nodes (entry_at l.tables.names.entries j)) ≡ true) × Counted (λ (e : Entry). e.node) l.tables.names l.i l.named × Counted (λ (e : Entry). e.parent) l.tables.names l.i l.held × (l.directory ≤ 4096) × (l.target ≤ 4096)
