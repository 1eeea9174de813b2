-- Every row of the table of paths that mean a directory holds, of any memory in which the new volume is accepted.
-- Assumes nothing.
use Rattle.std.specs.Prelude.{Ok, Err}
use mathlib.Core.Path.{◌≡◌, refl, ap, ◌∙◌}
use mathlib.Core.Bool.{true}
use mathlib.Core.List.{List, [], ◌∷◌}
use Prim.Native.Nat.{ℕ}
use Rattle.words.specs.Rules.{pick, both, either, same}
use Rattle.words.specs.Tables.{Each, lead_of, lead, insert_at, find}
use Rattle.types.specs.Answers.{number}
use Rattle.types.specs.Answers.{Answer}
use Rattle.types.specs.declared.Error.TheVariants.{NoSuchEntry, NotDirectory}
use Rattle.types.specs.declared.Expected.TheVariants.{Any}
use Rattle.types.specs.declared.FileType.TheVariants.{Directory, RegularFile, SymbolicLink}
use Rattle.paths.specs.Boundary.{byte_a, byte_b}
use Rattle.paths.specs.Path.{slash, dot, cons, split, dropped, upward, walk, cut_path, ends_open, no_slash, name_allowed}
use Rattle.volume.specs.Rows.{Entry}
use Rattle.volume.specs.Search.{pair_before}
use Rattle.types.specs.Kinds.{kind_of}
use Rattle.volume.specs.Volume.{Names, Volume, on_names}
use Rattle.volume.specs.Fresh.{root, fresh}
use Rattle.volume.specs.Sound.{node}
use Rattle.volume.specs.Steps.{name_step, turn, changed}
use Rattle.tables.specs.OneRow.{sized}
use Rattle.names.specs.Entries.{entry_named, greatest, on_entry}
use Rattle.names.specs.Entering as Entering
use Rattle.names.specs.Entering.{on_parent_row, on_parent, entered, with_entry, where_new, new_node, created, no_row_room, on_kind}
use Rattle.names.specs.Walks as Walks
use Rattle.names.specs.Walks.{on_cutting, walk_parts, on_start, walk_from, means_directory, on_passing, as_directory, walk_path, node_reached}
use Rattle.names.specs.Unlinking as Unlinking
use Rattle.names.specs.Unlinking.{unlink_node, unlink_reached}
use Rattle.names.proofs.Unlinked.{unlink-kept, unlink-owned}
use Rattle.lentilraft.specs.Door as Door
use Rattle.lentilraft.proofs.Kept.{name-kept}
use Rattle.lentilraft.proofs.Refusal.{unlink-refusal}
use Rattle.sequences.specs.Calls.{Lent, new_volume}
use Rattle.sequences.specs.Run.{told, accepted, run_all}
use Rattle.sequences.specs.Boundary.{byte_c, kinds_made, Holds, folder_table}
use Rattle.sequences.proofs.BytesKept.{unlink-raw}
use Rattle.sequences.proofs.BoundaryTable.{◌also◌, Memory, door-does, create-does, find-does, area, new-memory}

-- ---- the names after each create

abbrev entry : ℕ → ℕ → Entry
entry n name = record { parent = 0; node = n; index = n; name = name ∷ [] }

abbrev names1 : Names
names1 = record { node_room = 4; entry_room = 3; next_node = 2; nodes = sized 1 root ∷ new_node 1 RegularFile ∷ []; entries = entry 1 byte_a ∷ [] }

abbrev names2 : Names
names2 = record { node_room = 4; entry_room = 3; next_node = 3; nodes = sized 2 root ∷ new_node 1 RegularFile ∷ new_node 2 Directory ∷ []; entries = entry 1 byte_a ∷ entry 2 byte_b ∷ [] }

abbrev names3 : Names
names3 = record {
  node_room = 4;
  entry_room = 3;
  next_node = 4;
  nodes = sized 3 root ∷ new_node 1 RegularFile ∷ new_node 2 Directory ∷ new_node 3 SymbolicLink ∷ [];
  entries = entry 1 byte_a ∷ entry 2 byte_b ∷ entry 3 byte_c ∷ [];
}

first : (area : ℕ) → Entering.create 0 (byte_a ∷ []) 1 (fresh 4 3 1 16384 area).names ≡ turn 1 names1
unfolding Entering.create on_parent on_parent_row on_kind where_new no_row_room created with_entry entered changed on_entry entry_named greatest kind_of node find lead insert_at name_allowed no_slash pick both either same fresh
first area = refl

second : Entering.create 0 (byte_b ∷ []) 0 names1 ≡ turn 2 names2
unfolding Entering.create on_parent on_parent_row on_kind where_new no_row_room created with_entry entered changed on_entry entry_named greatest kind_of node find lead lead_of pair_before insert_at name_allowed no_slash pick both either same
second = refl

third : Entering.create 0 (byte_c ∷ []) 2 names2 ≡ turn 3 names3
unfolding Entering.create on_parent on_parent_row on_kind where_new no_row_room created with_entry entered changed on_entry entry_named greatest kind_of node find lead lead_of pair_before insert_at name_allowed no_slash pick both either same
third = refl

-- ---- the memory behind them

-- a create, by what it makes of the names
create-memory : {l : List ℕ} {v : Volume} (name : Lent) (text : List ℕ) (byte n : ℕ) (after : Names) → name.list ≡ text → Entering.create 0 text byte v.names ≡ turn n after → Memory l v
    → Memory (Door.create 0 name.list byte l).bytes (on_names (λ _. after) v)
create-memory {l} {v} name text byte n after e h m =
    let d = (create-does 0 name byte m).after in
    record {
      bytes = d.bytes;
      sound = d.sound;
      volume = d.volume ∙ ap (λ t. on_names (λ a. (Entering.create 0 t byte a).after) v) e ∙ ap (λ s. on_names (λ _. s.after) v) h;
    }

module _ (l : List ℕ) (q : accepted (new_volume 4 3 1 16384) l ≡ true) (a b c : Lent) (is_a : a.list ≡ byte_a ∷ []) (is_b : b.list ≡ byte_b ∷ []) (is_c : c.list ≡ byte_c ∷ []) where
  abbrev after : List ℕ
  after = run_all (kinds_made a b c) l

  memory : Memory after (on_names (λ _. names3) (fresh 4 3 1 16384 (area 4 3 1 l q)))
  memory =
      create-memory c (byte_c ∷ []) 2 3 names3 is_c third
      (create-memory b (byte_b ∷ []) 0 2 names2 is_b second (create-memory a (byte_a ∷ []) 1 1 names1 is_a (first (area 4 3 1 l q)) (new-memory 4 3 1 l q)))

  -- what find gives there
  finds : (start : ℕ) (path : List ℕ) (r : Answer) → Walks.find_node start path names3 ≡ r → Door.find_node start path after ≡ r
  finds start path r h = find-does start path after memory.sound ∙ ap (λ v. Walks.find_node start path v.names) memory.volume ∙ h

  -- and unlink
  unlinks : (path : List ℕ) (opens : ℕ) (r : Answer) → (Unlinking.unlink 0 path Any opens names3).answer ≡ r → (Door.unlink 0 path Any opens after).answer ≡ r
  unfolding Door.unlink
  unlinks path opens r h =
      (door-does (name_step (Unlinking.unlink 0 path Any opens)) (name-kept (Unlinking.unlink 0 path Any opens) (unlink-kept 0 path Any opens) (unlink-owned 0 path Any opens)) (unlink-raw 0 path Any opens) memory).answer ∙ h

  -- ---- the table

  pub folders : Each (Holds l) (folder_table (kinds_made a b c))
  unfolding Each Walks.find_node Unlinking.unlink unlink_reached unlink_node on_cutting cut_path walk split cons dropped upward ends_open means_directory walk_path walk_from walk_parts on_start as_directory on_passing node_reached on_entry entry_named node find pick both either same
  folders =
      let refused4 = unlinks (byte_a ∷ slash ∷ []) 1 (Err NotDirectory) refl in
      (ap told (finds 0 (byte_a ∷ []) (Ok 1) refl), tt)
      also ((ap number (finds 0 (byte_a ∷ slash ∷ []) (Err NotDirectory) refl), refl), tt)
      also ((ap number (finds 0 (byte_a ∷ slash ∷ dot ∷ []) (Err NotDirectory) refl), refl), tt)
      also ((ap number (finds 0 (byte_a ∷ slash ∷ byte_b ∷ slash ∷ dot ∷ dot ∷ []) (Err NotDirectory) refl), refl), tt)
      also ((ap number (finds 0 (byte_a ∷ slash ∷ byte_b ∷ slash ∷ []) (Err NoSuchEntry) refl), refl), tt)
      also (ap told (finds 0 (byte_b ∷ slash ∷ []) (Ok 2) refl), tt)
      also (ap told (finds 0 (byte_c ∷ slash ∷ []) (Ok 3) refl), tt)
      also (ap told (finds 1 (dot ∷ slash ∷ []) (Ok 1) refl), tt)
      also ((ap number refused4, (unlink-refusal 0 (byte_a ∷ slash ∷ []) Any 1 after memory.bytes NotDirectory refused4).1), tt)
      also (ap told (unlinks (byte_c ∷ slash ∷ []) 0 (Ok 3) refl), tt)
      also tt
