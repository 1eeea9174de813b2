-- Believed: create and link. Both: 2 for a parent that has no row or no link, 4 for one that is no directory, 9 for a bad name. Then create:
-- 13 (type), 10, 7, 14; and link: 2 for the target, 3, 10, 7 (entry rows), 14.
-- Assumes nothing.
use Rattle.std.specs.Prelude.{ℕ, ◌+◌, Bool, List, [], ◌∷◌, ◌++◌, eqb, leb, length, Some, None}
use Rattle.std.proofs.Math.Option.{Option, none, some}
use Rattle.words.specs.Rules.{pick, either}
use Rattle.words.specs.Tables.{lead, insert_at}
use Rattle.types.specs.Nodes.{is_directory}
use Rattle.types.specs.declared.FileType.{FileType}
use Rattle.types.specs.declared.Error.{Error}
use Rattle.types.specs.declared.Error.TheVariants.{NoSuchEntry, NotDirectory, NoRowRoom, BadName, NameExists, InvalidArgument, NoIndexLeft}
use Rattle.types.specs.declared.NodeRecord.{NodeRecord}
use Rattle.paths.specs.Path.{name_allowed}
use Rattle.types.specs.Kinds.{Kind, kind_of}
use Rattle.volume.specs.Rows.{Entry}
use Rattle.volume.specs.Search.{entry_under}
use Rattle.volume.specs.Volume.{Names, with_next_node, with_nodes, with_entries}
use Rattle.volume.specs.Sound.{node}
use Rattle.volume.specs.Steps.{NamesStep, remain, turn, with_node}
use Rattle.volume.specs.Files.{on_file}
use Rattle.names.specs.Entries.{entry_named, greatest, on_entry}
use Rattle.tables.specs.OneRow.{sized, linked}

-- u32::MAX and u64::MAX
abbrev pub most_index : ℕ
most_index = 4294967295

abbrev pub most_node : ℕ
most_node = 18446744073709551615

-- ---- the parent: 2, 4; then the name: 9

unfoldable pub on_parent_row : {A : Type 0} → List ℕ → (Error → A) → A → Option NodeRecord → A
on_parent_row name refuse call none = refuse NoSuchEntry
on_parent_row name refuse call (some r) =
    pick (eqb r.links 0) (refuse NoSuchEntry) (pick (is_directory r.kind) (pick (name_allowed name) call (refuse BadName)) (refuse NotDirectory))

unfoldable pub on_parent : {A : Type 0} → ℕ → List ℕ → Names → (Error → A) → A → A
on_parent p name a refuse call = on_parent_row name refuse call (node p a)

-- ---- an entry more

-- its index is the directory's greatest plus 1, or 1
abbrev pub new_entry : ℕ → List ℕ → ℕ → List Entry → Entry
new_entry p name n es = record { parent = p; node = n; index = greatest p es + 1; name = name }

-- at its place in the rows' order
unfoldable pub entered : Entry → List Entry → List Entry
entered e es = insert_at (lead (entry_under e.parent e.index) es) e es

-- the directory's size rises by one
unfoldable pub with_entry : ℕ → List ℕ → ℕ → Names → Names
with_entry p name n a = with_entries (entered (new_entry p name n a.entries) a.entries) (with_node p (λ r. sized (r.size + 1) r) a)

-- 10, 7, 14: where the name is new, there is room, and an index is left
unfoldable pub where_new : ℕ → List ℕ → Bool → Names → NamesStep → NamesStep
where_new p name full a call =
    on_entry
    (pick full (remain NoRowRoom a) (pick (eqb (greatest p a.entries) most_index) (remain NoIndexLeft a) call))
    (λ e. remain NameExists a)
    (entry_named p name a.entries)

-- ---- create

-- a node without a limit and without bytes, named once
abbrev pub new_node : ℕ → FileType → NodeRecord
new_node n kind = record { node = n; kind = kind; limit = None; links = 1; size = 0 }

unfoldable pub created : ℕ → List ℕ → FileType → Names → Names
created p name kind a =
    with_next_node (a.next_node + 1)
    (with_nodes ((with_entry p name a.next_node a).nodes ++ (new_node a.next_node kind ∷ [])) (with_entry p name a.next_node a))

-- rows of either table used up, or the next node u64::MAX
unfoldable pub no_row_room : Names → Bool
no_row_room a = either (leb a.node_room (length a.nodes)) (either (leb a.entry_room (length a.entries)) (eqb a.next_node most_node))

unfoldable pub on_kind : {A : Type 0} → A → (FileType → A) → Kind → A
on_kind unknown call (Some kind) = call kind
on_kind unknown call None = unknown

unfoldable pub create : ℕ → List ℕ → ℕ → Names → NamesStep
create p name byte a =
    on_parent p name a (λ e. remain e a)
    (on_kind (remain InvalidArgument a) (λ kind. where_new p name (no_row_room a) a (turn a.next_node (created p name kind a))) (kind_of byte))

-- ---- link

unfoldable pub linked_to : ℕ → List ℕ → ℕ → Names → Names
linked_to p name t a = with_node t (λ r. linked (r.links + 1) r) (with_entry p name t a)

unfoldable pub link : ℕ → List ℕ → ℕ → Names → NamesStep
link p name t a =
    on_parent p name a (λ e. remain e a)
    (on_file t a (λ e. remain e a) (λ r. where_new p name (leb a.entry_room (length a.entries)) a (turn 0 (linked_to p name t a))))
