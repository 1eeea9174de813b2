-- Believed: remove. 2, and 12 if links are above 0. The node's chunks are freed in ascending order, and its row goes.
-- Assumes nothing.
use Rattle.std.specs.Prelude.{ℕ, not, eqb, ltb}
use Rattle.std.proofs.Math.Option.{Option, none, some}
use Rattle.words.specs.Rules.{pick}
use Rattle.words.specs.Tables.{only}
use Rattle.types.specs.declared.Error.TheVariants.{NoSuchEntry, Busy}
use Rattle.types.specs.declared.NodeRecord.{NodeRecord}
use Rattle.volume.specs.Volume.{Names, Volume, with_nodes}
use Rattle.volume.specs.Sound.{node}
use Rattle.volume.specs.Steps.{Step, stays, becomes}
use Rattle.store.specs.Cut.{cut_from}

unfoldable pub without_node : ℕ → Names → Names
without_node n a = with_nodes (only (λ r. not (eqb r.node n)) a.nodes) a

abbrev pub removed : ℕ → Volume → Volume
removed n v = record { names = without_node n v.names; store = cut_from n 0 v.store }

unfoldable pub remove_row : ℕ → Volume → Option NodeRecord → Step
remove_row n v none = stays NoSuchEntry v
remove_row n v (some r) = pick (ltb 0 r.links) (stays Busy v) (becomes 0 (removed n v))

unfoldable pub remove : ℕ → Volume → Step
remove n v = remove_row n v (node n v.names)
