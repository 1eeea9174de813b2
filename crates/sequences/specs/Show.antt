-- Believed: what tables and chunks show of each node.
-- Assumes nothing.
use Rattle.std.specs.Prelude.{ℕ, List, map, eqb}
use Rattle.std.proofs.Math.Option.{Option, none, some}
use Rattle.words.specs.Tables.{only}
use Rattle.types.specs.declared.NodeRecord.{NodeRecord}
use Rattle.volume.specs.Rows.{Entry}
use Rattle.volume.specs.Volume.{Volume}
use Rattle.volume.specs.Sound.{node}
use Rattle.store.specs.Content.{byte_at}
use Rattle.sequences.specs.Fs.{NameSeen, NodeSeen, Fs}

abbrev pub name_seen : Entry → NameSeen
name_seen e = record { index = e.index; node = e.node; name = e.name }

-- the names in directory n, in index order
unfoldable pub names_in : ℕ → List Entry → List NameSeen
names_in n es = map name_seen (only (λ e. eqb e.parent n) es)

abbrev pub node_seen : Volume → ℕ → NodeRecord → NodeSeen
node_seen v n r = record { kind = r.kind; limit = r.limit; links = r.links; size = r.size; bytes = byte_at v.store n; names = names_in n v.names.entries }

abbrev pub seen_if : Volume → ℕ → Option NodeRecord → Option NodeSeen
seen_if v n none = none
seen_if v n (some r) = some (node_seen v n r)

unfoldable pub show : Volume → Fs
show v = record { next = v.names.next_node; at = λ n. seen_if v n (node n v.names) }
