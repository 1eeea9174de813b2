-- A memory of bytes, as a volume: what is read off bytes has names and a chunk area of bytes, and what is laid out of such a volume are bytes
-- again, so that a call that keeps them leaves a memory of bytes.
-- Assumes nothing.
use mathlib.Core.List.{List, [], ◌∷◌, ◌++◌}
use Prim.Native.Nat.{ℕ, zero, suc, ◌+◌, ◌-◌, ◌*◌, ◌/◌, ◌<◌}
use native.Mathlib.Omega.{arith}
use lib.ListN.{length, take, drop}
use Rattle.words.specs.Bytes.{part, over, zeros, padded, spell, word, Bytes}
use Rattle.words.specs.Tables.{lay_all, lay_words, area, joined, Each}
use Rattle.words.proofs.Numbers.{bytes-tail}
use Rattle.words.proofs.Order.{each_append, each_take, each-drop, each_map}
use Rattle.words.proofs.Pieces.{each_rows}
use Rattle.types.specs.Sizes.{name_room}
use Rattle.types.specs.Outcomes.{Outcome}
use Rattle.types.specs.declared.NodeRecord.{NodeRecord}
use Rattle.allocator.specs.Allocator.{lay_allocator, words_of}
use Rattle.volume.specs.declared.ChunkRow.{ChunkRow}
use Rattle.volume.specs.Header.{at_chunk_room, at_entry_room, at_node_room}
use Rattle.volume.specs.Rows.{Entry, lay_node, lay_entry, read_entry, lay_chunk, node_row, entry_row, chunk_row}
use Rattle.volume.specs.Volume.{Volume, laid, shown, heads, areas, at_bytes}
use Rattle.volume.specs.Fresh.{fresh, fresh_laid}
use Rattle.volume.specs.Sound.{Good}
use Rattle.volume.specs.Steps.{Step}
use Rattle.lentilraft.specs.Door.{door}
use Rattle.lentilraft.proofs.Door.{either_way}

-- ---- lists of bytes

-- the same element by element, so that the laws of `Each` serve
each-byte : (l : List ℕ) → Bytes l → Each (λ b. b < 256) l
unfolding Each
each-byte [] h = tt
each-byte (b ∷ l) h = (unfold Bytes in h 0, each-byte l (bytes-tail b l h))

all-bytes : (l : List ℕ) → Each (λ b. b < 256) l → Bytes l
unfolding Each Bytes
all-bytes [] h i = omega arith
all-bytes (b ∷ l) h zero = h.0
all-bytes (b ∷ l) h (suc i) = all-bytes l h.1 i

bytes-append : (a b : List ℕ) → Bytes a → Bytes b → Bytes (a ++ b)
bytes-append a b h k = all-bytes (a ++ b) (each_append _ a b (each-byte a h) (each-byte b k))

bytes_take : (n : ℕ) (l : List ℕ) → Bytes l → Bytes (take n l)
bytes_take n l h = all-bytes (take n l) (each_take _ n l (each-byte l h))

bytes_drop : (n : ℕ) (l : List ℕ) → Bytes l → Bytes (drop n l)
bytes_drop n l h = all-bytes (drop n l) (each-drop _ n l (each-byte l h))

-- wherever the part lies
pub bytes-piece : (l : List ℕ) (at n : ℕ) → Bytes l → Bytes (part l at n)
unfolding part
bytes-piece l at n h = bytes_take n (drop at l) (bytes_drop at l h)

pub bytes-over : (l : List ℕ) (at : ℕ) (bs : List ℕ) → Bytes l → Bytes bs → Bytes (over l at bs)
unfolding over
bytes-over l at bs h k = bytes-append (take at l) (bs ++ drop (at + length bs) l) (bytes_take at l h) (bytes-append bs (drop (at + length bs) l) k (bytes_drop (at + length bs) l h))

pub bytes-zeros : (n : ℕ) → Bytes (zeros n)
unfolding Bytes zeros
bytes-zeros zero i = omega arith
bytes-zeros (suc n) zero = omega arith
bytes-zeros (suc n) (suc i) = bytes-zeros n i

bytes-padded : (n : ℕ) (l : List ℕ) → Bytes l → Bytes (padded n l)
unfolding padded
bytes-padded n l h = bytes_take n (l ++ zeros n) (bytes-append l (zeros n) h (bytes-zeros n))

-- whatever the number
bytes-spell : (n x : ℕ) → Bytes (spell n x)
unfolding Bytes spell
bytes-spell zero x i = omega arith
bytes-spell (suc n) x zero = omega arith
bytes-spell (suc n) x (suc i) = bytes-spell n (x / 256) i

-- ---- areas and rows

bytes-joined : (ls : List (List ℕ)) → Each Bytes ls → Bytes (joined ls)
unfolding joined Each
bytes-joined [] h = all-bytes [] tt
bytes-joined (a ∷ ls) h = bytes-append a (joined ls) h.0 (bytes-joined ls h.1)

module _ {R : Type 0} (lay : R → List ℕ) where
  bytes-rows : (rs : List R) → Each (λ r. Bytes (lay r)) rs → Bytes (lay_all lay rs)
  unfolding lay_all Each
  bytes-rows [] h = all-bytes [] tt
  bytes-rows (r ∷ rs) h = bytes-append (lay r) (lay_all lay rs) h.0 (bytes-rows rs h.1)

  bytes-area : (s room : ℕ) (rs : List R) → Each (λ r. Bytes (lay r)) rs → Bytes (area lay s room rs)
  unfolding area
  bytes-area s room rs h = bytes-append (lay_all lay rs) (zeros (s * (room - length rs))) (bytes-rows rs h) (bytes-zeros (s * (room - length rs)))

-- what holds of every row there can be
each-every : {R : Type 0} (P : R → Type 0) → ((r : R) → P r) → (rs : List R) → Each P rs
unfolding Each
each-every P h [] = tt
each-every P h (r ∷ rs) = (h r, each-every P h rs)

bytes-words : (ws : List ℕ) → Bytes (lay_words ws)
bytes-words ws = bytes-rows (spell 8) ws (each-every _ (bytes-spell 8) ws)

bytes-node : (r : NodeRecord) → Bytes (lay_node r)
unfolding lay_node Each
bytes-node r = bytes-joined _ (bytes-spell 8 _, (bytes-spell 1 _, (bytes-spell 1 _, (bytes-zeros 6, (bytes-spell 8 _, (bytes-spell 8 _, (bytes-spell 8 _, tt)))))))

-- a name is the one part of a row that is no number
bytes-entry : (e : Entry) → Bytes e.name → Bytes (lay_entry e)
unfolding lay_entry Each
bytes-entry e h = bytes-joined _ (bytes-spell 8 _, (bytes-spell 8 _, (bytes-spell 4 _, (bytes-spell 4 _, (bytes-padded name_room e.name h, tt)))))

bytes-chunk : (c : ChunkRow) → Bytes (lay_chunk c)
unfolding lay_chunk Each
bytes-chunk c = bytes-joined _ (bytes-spell 8 _, (bytes-spell 8 _, (bytes-spell 8 _, tt)))

-- ---- a volume of bytes

-- what of a volume stands in its memory as it is, not spelled out of numbers: names, and the chunk area
pub record RawBytes (v : Volume) : Type 0 where
  pub names : Each (λ e. Bytes e.name) v.names.entries
  pub area : Bytes v.store.bytes

pub bytes-shown : (l : List ℕ) → Bytes l → RawBytes (shown l)
unfolding shown read_entry
bytes-shown l h = record { names = each_rows (λ e. Bytes e.name) read_entry entry_row l _ _ (λ i b. bytes-piece _ _ _ (bytes-piece l _ entry_row h)); area = bytes_drop (at_bytes (word l at_node_room) (word l at_entry_room) (word l at_chunk_room)) l h }

pub bytes-laid : (v : Volume) → RawBytes v → Bytes (laid v)
unfolding laid lay_allocator Each
bytes-laid v h =
    let nodes = bytes-area lay_node node_row v.names.node_room v.names.nodes (each-every _ bytes-node v.names.nodes) in
    let entries = bytes-area lay_entry entry_row v.names.entry_room v.names.entries (each_map _ _ bytes-entry v.names.entries h.names) in
    let chunks = bytes-area lay_chunk chunk_row v.store.chunk_room v.store.chunks (each-every _ bytes-chunk v.store.chunks) in
    bytes-joined (areas v) (bytes-words (heads v), (bytes-words (words_of v.store.allocator), (nodes, (entries, (chunks, (h.area, tt))))))

-- ---- a memory of bytes stays one

-- behind a call that keeps bytes
pub door-bytes : (call : Volume → Step) → ((v : Volume) → Good v → RawBytes v → RawBytes (call v).after) → (l : List ℕ) → Bytes l → Bytes (door l call).bytes
unfolding door
door-bytes call keeps l b = either_way l _ _ (λ (o : Outcome). Bytes o.bytes) (λ h. bytes-laid (call (shown l)).after (keeps (shown l) h.good (bytes-shown l b))) b

-- and a new volume is one
pub fresh-bytes : (n e c s size : ℕ) → Bytes (fresh_laid n e c s size)
unfolding fresh_laid
fresh-bytes n e c s size = bytes-laid (fresh n e c s _) (unfold fresh Each in record { names = tt; area = bytes-zeros _ })
