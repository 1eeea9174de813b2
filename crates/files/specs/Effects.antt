-- Believed: what an accepted read gives of a file, and what an accepted write or resize leaves of a volume's files.
-- Assumes nothing.
use Rattle.std.specs.Prelude.{◌≡◌, List, ℕ, ◌+◌, ◌-◌, ◌≤◌, ◌<◌, max, length, get_or}
use Rattle.std.proofs.Math.Option.{some}
use Rattle.types.specs.Nodes.{file_limit}
use Rattle.types.specs.declared.FileType.TheVariants.{Directory}
use Rattle.types.specs.declared.NodeRecord.{NodeRecord}
use Rattle.volume.specs.Volume.{Volume}
use Rattle.volume.specs.Sound.{node}
use Rattle.tables.specs.OneRow.{sized}
use Rattle.store.specs.Content.{byte_at}
use Rattle.files.specs.Read.{read_count}

-- a read of `count` bytes of a node's file from byte `off` leaves `bytes` in the buffer
pub record Shows (n off : ℕ) (v : Volume) (buffer : List ℕ) (count : ℕ) (bytes : List ℕ) : Type 0 where
  pub row : NodeRecord
  pub there : node n v.names ≡ some row
  pub file : row.kind ≡ Directory → ⊥
  pub counted : count ≡ read_count row.size off (length buffer)
  -- the file's bytes, and behind them the buffer as it was
  pub gives : (i : ℕ) → i < count → get_or bytes i 0 ≡ byte_at v.store n (off + i)
  pub keeps : (i : ℕ) → count ≤ i → get_or bytes i 0 ≡ get_or buffer i 0

-- the file's size after a write: the greater of its size and the end of the bytes
abbrev pub written_size : ℕ → List ℕ → NodeRecord → ℕ
written_size offset bs r = max r.size (offset + length bs)

-- w is v with bytes written into the file of node n
pub record Wrote (n offset : ℕ) (bs : List ℕ) (v w : Volume) : Type 0 where
  -- the file's row before, and after
  pub row : NodeRecord
  pub there : node n v.names ≡ some row
  pub file : row.kind ≡ Directory → ⊥
  pub within : offset + length bs ≤ file_limit row.limit
  pub changed : node n w.names ≡ some (sized (written_size offset bs row) row)
  -- all other nodes, and the entries, are as they were
  pub others : (m : ℕ) → (m ≡ n → ⊥) → node m w.names ≡ node m v.names
  pub entries : w.names.entries ≡ v.names.entries
  pub next_node : w.names.next_node ≡ v.names.next_node
  -- the bytes written, and all others as they were
  pub inside : (j : ℕ) → offset ≤ j → j < offset + length bs → byte_at w.store n j ≡ get_or bs (j - offset) 0
  pub outside : (m j : ℕ) → (m ≡ n → offset ≤ j → j < offset + length bs → ⊥) → byte_at w.store m j ≡ byte_at v.store m j

-- w is v with the file of node n of z bytes
pub record Resized (n z : ℕ) (v w : Volume) : Type 0 where
  -- the file's row before, and after
  pub row : NodeRecord
  pub there : node n v.names ≡ some row
  pub file : row.kind ≡ Directory → ⊥
  pub within : z ≤ file_limit row.limit
  pub changed : node n w.names ≡ some (sized z row)
  -- all other nodes, and the entries, are as they were
  pub others : (m : ℕ) → (m ≡ n → ⊥) → node m w.names ≡ node m v.names
  pub entries : w.names.entries ≡ v.names.entries
  pub next_node : w.names.next_node ≡ v.names.next_node
  -- its bytes below z as they were, zeros from there on, and other files' bytes as they were
  pub below : (j : ℕ) → j < z → byte_at w.store n j ≡ byte_at v.store n j
  pub above : (j : ℕ) → z ≤ j → byte_at w.store n j ≡ 0
  pub outside : (m j : ℕ) → (m ≡ n → ⊥) → byte_at w.store m j ≡ byte_at v.store m j
