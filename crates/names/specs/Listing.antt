-- Believed: next entry, at or above an index. 2 for a node that has no row, 4 for one that is no directory, 2 where there is no such entry.
-- Assumes nothing.
use Rattle.std.specs.Prelude.{ℕ, List, []}
use Rattle.std.proofs.Math.Option.{Option, none, some}
use Rattle.words.specs.Rules.{pick}
use Rattle.types.specs.Answers.{error_number}
use Rattle.types.specs.Nodes.{is_directory}
use Rattle.types.specs.declared.Error.{Error}
use Rattle.types.specs.declared.Error.TheVariants.{NoSuchEntry, NotDirectory}
use Rattle.types.specs.declared.NodeRecord.{NodeRecord}
use Rattle.volume.specs.Rows.{Entry}
use Rattle.volume.specs.Volume.{Names}
use Rattle.volume.specs.Sound.{node}
use Rattle.names.specs.Entries.{entry_from, on_entry}

pub data Listed : Type 0 where
  listed : Entry → Listed
  unlisted : Error → Listed

-- 2, 4
unfoldable pub on_directory : {A : Type 0} → (Error → A) → (NodeRecord → A) → Option NodeRecord → A
on_directory refuse call none = refuse NoSuchEntry
on_directory refuse call (some r) = pick (is_directory r.kind) (call r) (refuse NotDirectory)

unfoldable pub next_entry : ℕ → ℕ → Names → Listed
next_entry d from a = on_directory unlisted (λ r. on_entry (unlisted NoSuchEntry) listed (entry_from d from a.entries)) (node d a)

-- ---- the number, and what is told besides: 0 and an empty part for a refusal

abbrev pub listed_number : Listed → ℕ
listed_number (listed e) = 0
listed_number (unlisted r) = error_number r

abbrev pub listed_index : Listed → ℕ
listed_index (listed e) = e.index
listed_index (unlisted r) = 0

abbrev pub listed_node : Listed → ℕ
listed_node (listed e) = e.node
listed_node (unlisted r) = 0

abbrev pub listed_name : Listed → List ℕ
listed_name (listed e) = e.name
listed_name (unlisted r) = []
