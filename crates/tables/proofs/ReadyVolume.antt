-- Numbers of a volume that is laid out: where its tables stand, how many rows they have, and that all of it fits.
-- Assumes nothing.
use mathlib.Core.Path.{◌≡◌, sym, ap, ◌∙◌}
use mathlib.Core.List.{List}
use Prim.Native.Nat.{ℕ, ◌+◌, ◌-◌, ◌*◌, ◌≤◌, ◌<◌}
use native.Mathlib.Omega.{arith}
use lib.ListN.{length, take, drop, length-drop}
use Rattle.std.proofs.lemmas.List.{take_rest}
use Rattle.words.specs.Bytes.{word, num}
use Rattle.words.proofs.Tables.{length-table}
use Rattle.types.specs.Sizes.{name_room}
use Rattle.volume.specs.Header.{at_chunk_room, at_chunks_used, at_entries_used, at_entry_room, at_node_room, at_nodes_used}
use Rattle.volume.specs.declared.Layout.{Layout}
use Rattle.volume.specs.Rows.{read_node, read_entry, read_chunk, chunk_row, entry_row, node_row}
use Rattle.volume.specs.Volume.{Names, Store, Volume, at_bytes, at_chunks, at_entries, at_nodes, laid, shown, on_names, with_store}
use Rattle.volume.specs.Framed.{Fits, NamesFits, StoreFits, Framed}
use Rattle.volume.proofs.Laid.{shown-laid}
use Rattle.volume.proofs.Framed.{formed-laid, framed-laid}
use Rattle.tables.specs.Tables.{Ready, layout_at}

-- what omega needs
pub record Rooms (l : List ℕ) (y : Layout) : Type 0 where
  pub nodes : y.nodes ≡ 192 + 8 * word l at_chunk_room
  pub entries : y.entries ≡ 192 + 8 * word l at_chunk_room + node_row * word l at_node_room
  pub chunks : y.chunks ≡ 192 + 8 * word l at_chunk_room + node_row * word l at_node_room + entry_row * word l at_entry_room
  pub area : y.area ≡ 192 + 8 * word l at_chunk_room + node_row * word l at_node_room + entry_row * word l at_entry_room + chunk_row * word l at_chunk_room
  pub long : 192 + 8 * word l at_chunk_room + node_row * word l at_node_room + entry_row * word l at_entry_room + chunk_row * word l at_chunk_room + 65536 ≤ length l
  pub node_room : word l at_node_room ≤ 4096
  pub entry_room : word l at_entry_room ≤ 4096
  pub chunk_room : word l at_chunk_room ≤ 4096
  pub nodes_used : word l at_nodes_used ≤ word l at_node_room
  pub entries_used : word l at_entries_used ≤ word l at_entry_room
  pub chunks_used : word l at_chunks_used ≤ word l at_chunk_room

module _ (l : List ℕ) where
  pub count-nodes : length (shown l).names.nodes ≡ word l at_nodes_used
  unfolding shown
  count-nodes = length-table read_node node_row l (at_nodes (word l at_chunk_room)) (word l at_nodes_used)

  pub count_entries : length (shown l).names.entries ≡ word l at_entries_used
  unfolding shown
  count_entries = length-table read_entry entry_row l (at_entries (word l at_node_room) (word l at_chunk_room)) (word l at_entries_used)

  pub count-chunks : length (shown l).store.chunks ≡ word l at_chunks_used
  unfolding shown
  count-chunks = length-table read_chunk chunk_row l (at_chunks (word l at_node_room) (word l at_entry_room) (word l at_chunk_room)) (word l at_chunks_used)

  pub count-bytes : length (shown l).store.bytes ≡ length l - at_bytes (word l at_node_room) (word l at_entry_room) (word l at_chunk_room)
  unfolding shown
  count-bytes = length-drop (at_bytes (word l at_node_room) (word l at_entry_room) (word l at_chunk_room)) l

  module _ (y : Layout) (r : Ready l y) where
    pub rooms : Rooms l y
    unfolding shown
    rooms =
        let f = r.formed.fits in
        let d = count-bytes in
        record {
          nodes = ap (λ z. z.nodes) r.layout;
          entries = ap (λ z. z.entries) r.layout;
          chunks = ap (λ z. z.chunks) r.layout;
          area = ap (λ z. z.area) r.layout;
          long = omega (arith, f.store.long);
          node_room = f.names.node_room.1;
          entry_room = f.names.entry_room.1;
          chunk_room = f.store.chunk_room.1;
          nodes_used = omega (arith, f.names.nodes, count-nodes);
          entries_used = omega (arith, f.names.entries, count_entries);
          chunks_used = omega (arith, f.store.chunks, count-chunks);
        }

-- what code touches lies inside: the header's words, the allocator's, which end where the node rows begin, and the chunk area

pub header_there : {l : List ℕ} {y : Layout} → Ready l y → 64 ≤ length l
header_there {l} {y} r = omega (arith, rooms l y r)

pub words_start : {l : List ℕ} {y : Layout} → Ready l y → 64 ≤ y.nodes
words_start {l} {y} r = omega (arith, rooms l y r)

pub words_end : {l : List ℕ} {y : Layout} → Ready l y → y.nodes ≤ length l
words_end {l} {y} r = omega (arith, rooms l y r)

pub area_start : {l : List ℕ} {y : Layout} → Ready l y → y.area ≤ length l
area_start {l} {y} r = omega (arith, rooms l y r)

pub ruleset inside = (header_there, words_start, words_end, area_start)

-- what the bytes are known to show fits
pub fits-of : {l : List ℕ} {y : Layout} → Ready l y → {v : Volume} → shown l ≡ v → Fits v
fits-of r e = rw e at r.formed.fits

-- the name of the entry in row i has its place in the row
pub name-there : (l : List ℕ) (y : Layout) (r : Ready l y) (i : ℕ) → i < length (shown l).names.entries → num 4 l (y.entries + entry_row * i + 20) ≤ name_room
name-there l y r i h =
    let g : Framed l = rw r.formed.same at (framed-laid (shown l) r.formed.fits) in
    rw (rooms l y r).entries (omega (arith, (g.entries.rows i (omega (arith, count_entries l))).most))

-- ---- the chunk area

pub area-long : (l : List ℕ) (y : Layout) (r : Ready l y) → length l - y.area ≡ length (shown l).store.bytes
unfolding shown
area-long l y r = rw (rooms l y r).area (sym (length-drop (at_bytes (word l at_node_room) (word l at_entry_room) (word l at_chunk_room)) l))

-- as code takes it
pub area-rest : (l : List ℕ) (y : Layout) (r : Ready l y) → take (length l - y.area) (drop y.area l) ≡ (shown l).store.bytes
unfolding shown
area-rest l y r = rw (rooms l y r).area (take_rest l (at_bytes (word l at_node_room) (word l at_entry_room) (word l at_chunk_room)))

-- ---- a volume that fits, laid out

pub ready-laid : (w : Volume) → Fits w → Ready (laid w) (layout_at w)
ready-laid w f = record { formed = formed-laid w f; layout = ap layout_at (sym (shown-laid w f)) }

-- bytes that are a volume laid out: they show it, and are ready with its geometry
pub shown-as : (w : Volume) → Fits w → {l : List ℕ} → l ≡ laid w → shown l ≡ w
shown-as w f e = ap shown e ∙ shown-laid w f

pub ready-as : (w : Volume) → Fits w → {l : List ℕ} {y : Layout} → l ≡ laid w → y ≡ layout_at w → Ready l y
ready-as w f e h = rw (e, h) (ready-laid w f)

-- a step of the store, laid out again: what the bytes then show, and that they are ready
pub store_step : {l m : List ℕ} {y : Layout} → Ready l y → (t : Store) → StoreFits t → t.chunk_room ≡ (shown l).store.chunk_room → m ≡ laid (with_store t (shown l)) → (shown m ≡ with_store t (shown l)) × Ready m y
store_step {l} r t f room e =
    let fits : Fits (with_store t (shown l)) = record { names = r.formed.fits.names; store = f } in
    let same : layout_at (with_store t (shown l)) ≡ layout_at (shown l) = rw room in
    (shown-as (with_store t (shown l)) fits e, ready-as (with_store t (shown l)) fits e (r.layout ∙ sym same))

-- the same of the names
pub names-step : {l m : List ℕ} {y : Layout} → Ready l y → (b : Names) → NamesFits b → b.node_room ≡ (shown l).names.node_room → b.entry_room ≡ (shown l).names.entry_room
    → m ≡ laid (on_names (λ _. b) (shown l)) → (shown m ≡ on_names (λ _. b) (shown l)) × Ready m y
names-step {l} r b f n e q =
    let fits : Fits (on_names (λ _. b) (shown l)) = record { names = f; store = r.formed.fits.store } in
    let same : layout_at (on_names (λ _. b) (shown l)) ≡ layout_at (shown l) = rw (n, e) in
    (shown-as (on_names (λ _. b) (shown l)) fits q, ready-as (on_names (λ _. b) (shown l)) fits q (r.layout ∙ sym same))
