-- A row field by field: read, written piece by piece, and tested against a key, as the functions of rows do it.
-- Assumes nothing.
use Rattle.std.specs.Prelude.{Result, Some, None, ok_or, is_err, not}
use Rattle.std.specs.Result.{result_unwrap_or}
use mathlib.Core.Path.{◌≡◌, refl, sym, ap, ◌∙◌}
use mathlib.Core.Bool.{Bool}
use mathlib.Core.List.{List, [], ◌∷◌, append-nil}
use Prim.Native.Nat.{ℕ, ◌+◌, ◌-◌, ◌≤◌}
use native.Mathlib.Nat.{add-zero}
use native.Mathlib.Omega.{arith}
use lib.ListN.{length, take, drop, length-append}
use lib.Dec.{ltb}
use Rattle.words.specs.Bytes.{part, over, spell, num, word, zeros, padded}
use Rattle.words.specs.Tables.{lay_all, lay_words, joined}
use Rattle.words.proofs.Parts.{length-zeros, length_over, two}
use Rattle.words.proofs.Numbers.{length-spell, num-part}
use Rattle.words.proofs.Tables.{length-padded, padded-short}
use Rattle.types.specs.Nodes.{limit_word}
use Rattle.types.specs.Kinds.{Kind, kind_of, is_known, kind_byte, MeansKind}
use Rattle.volume.specs.Kinds.{limit_of, limit_flag}
use Rattle.types.specs.declared.FileType.{FileType}
use Rattle.types.specs.declared.FileType.TheVariants.{Directory}
use Rattle.types.specs.declared.Error.{Error}
use Rattle.types.specs.declared.Error.TheVariants.{InvalidArgument}
use Rattle.types.specs.Nodes.{Limit}
use Rattle.types.specs.declared.NodeRecord.{NodeRecord}
use Rattle.volume.specs.declared.ChunkRow.{ChunkRow}
use Rattle.volume.specs.Rows.{kind_or, lay_node, read_node, lay_entry, read_entry, lay_chunk, read_chunk, chunk_row, entry_row, node_row}
use Rattle.volume.specs.Search.{pair_before, node_under, chunk_under}
use Rattle.volume.proofs.RowBytes.{node_row_lem, entry_row_lem, node_at_lem, entry-at, chunk-at}

-- ---- a row read field by field: the fields, as they stand in the bytes l around the row

-- a byte that means no kind is taken for a directory
known-or : (k : Kind) → result_unwrap_or (ok_or k InvalidArgument) Directory ≡ kind_or k
known-or (Some kind) = refl
known-or None = refl

-- the test of a kind byte that was read, by whether its conversion failed
kind-told : (k : Kind) {r : Result FileType Error} {b : Bool} → r ≡ ok_or k InvalidArgument → b ≡ is_err r → is_known k ≡ not b
kind-told (Some kind) m e = sym (ap not (e ∙ ap is_err m))
kind-told None m e = sym (ap not (e ∙ ap is_err m))

pub kind-read : {byte n : ℕ} {r : Result FileType Error} {b t : Bool} → byte ≡ n → MeansKind byte r → b ≡ is_err r → b ≡ t → is_known (kind_of n) ≡ not t
kind-read {byte = byte} read m e is = rw (← read, ← is) (kind-told (kind_of byte) m e)

module _ (l : List ℕ) (at : ℕ) where
  -- the numbers of an entry
  pub entry-numbers : ((read_entry (part l at entry_row)).parent ≡ word l at) × ((read_entry (part l at entry_row)).node ≡ word l (at + 8)) × ((read_entry (part l at entry_row)).index ≡ num 4 l (at + 16))
  unfolding read_entry
  entry-numbers = (rw (num-part 8 l at 280 0 (omega arith), add-zero), num-part 8 l at 280 8 (omega arith), num-part 4 l at 280 16 (omega arith))

  pub node-read : {node byte flag most links size : ℕ} {k : Result FileType Error} {kind : FileType} {limit : Limit}
      → byte ≡ num 1 l (at + 8) → flag ≡ num 1 l (at + 9) → MeansKind byte k → kind ≡ result_unwrap_or k Directory → most ≡ word l (at + 32) → limit ≡ limit_of flag most
      → node ≡ word l at → links ≡ word l (at + 16) → size ≡ word l (at + 24)
      → ◌≡◌ {A = NodeRecord} (record { node = node; kind = kind; limit = limit; links = links; size = size }) (read_node (part l at node_row))
  node-read {byte = byte} b f k j w m n a s = rw (node_at_lem l at, m, j ∙ ap (λ r. result_unwrap_or r Directory) k ∙ known-or (kind_of byte), b, f, w, n, a, s)

  pub chunk_read : {node index pointer : ℕ} → node ≡ word l at → index ≡ word l (at + 8) → pointer ≡ word l (at + 16)
      → ◌≡◌ {A = ChunkRow} (record { node = node; index = index; pointer = pointer }) (read_chunk (part l at chunk_row))
  chunk_read n i p = rw (chunk-at l at, n, i, p)

  -- a loan of the name's bytes
  pub name-lent : {size : ℕ} → size ≡ num 4 l (at + 20) → num 4 l (at + 20) ≤ 256 → take (at + 24 + size - (at + 24)) (drop (at + 24) l) ≡ (read_entry (part l at entry_row)).name
  unfolding part
  name-lent {size} e h =
      let k : at + 24 + size - (at + 24) ≡ num 4 l (at + 20) = omega arith in
      rw (k, entry-at l at h)

-- ---- a row written piece by piece

-- one piece, and the others behind it, are one write
and_then : (l : List ℕ) (at : ℕ) (p : List ℕ) (ps : List (List ℕ)) (size next : ℕ) {m r : List ℕ} → length p ≡ size → next ≡ at + size → at + length (joined (p ∷ ps)) ≤ length l
    → m ≡ over l at p → (next + length (joined ps) ≤ length m → r ≡ over m next (joined ps)) → r ≡ over l at (joined (p ∷ ps))
unfolding joined
and_then l at p ps size next s e h w k =
    let a = length-append p (joined ps) in
    let n : length (over l at p) ≡ length l = length_over l at p (omega arith) in
    two l at p (joined ps) next w (k (rw w (omega arith))) (omega arith) (omega arith)

-- three words written at once are three pieces
three-words : (a b c : ℕ) → lay_words (a ∷ b ∷ c ∷ []) ≡ joined (spell 8 a ∷ spell 8 b ∷ spell 8 c ∷ [])
unfolding lay_all joined
three-words a b c = refl

-- a name, and zeros up to the end of its room
padded-written : (l : List ℕ) (at room : ℕ) (name : List ℕ) {m r : List ℕ} → length name ≤ room → at + room ≤ length l → m ≡ over l at name → r ≡ over m (at + length name) (zeros (room - length name)) → r ≡ over l at (padded room name)
padded-written l at room name h k p q =
    let z = length-zeros (room - length name) in
    rw (padded-short room name h) (two l at name (zeros (room - length name)) (at + length name) p q refl (omega arith))

pub node-written : (l : List ℕ) (at : ℕ) (row : NodeRecord) {byte flag most : ℕ} {m n o p r : List ℕ} → byte ≡ kind_byte row.kind → flag ≡ limit_flag row.limit → most ≡ limit_word row.limit
    → m ≡ over l at (spell 8 row.node) → n ≡ over m (at + 8) (spell 1 byte) → o ≡ over n (at + 9) (spell 1 flag) → p ≡ over o (at + 10) (zeros 6)
    → r ≡ over p (at + 16) (lay_words (row.links ∷ row.size ∷ most ∷ [])) → at + node_row ≤ length l → r ≡ over l at (lay_node row)
unfolding lay_node
node-written l at row {m = m} {n = n} {o = o} b f w e₁ e₂ e₃ e₄ e₅ h =
    and_then l at (spell 8 row.node) _ 8 (at + 8) (length-spell 8 row.node) refl (rw (node_row_lem.sized row) h) e₁
    (λ h₁. and_then m (at + 8) (spell 1 (kind_byte row.kind)) _ 1 (at + 9) (length-spell 1 (kind_byte row.kind)) (omega arith) h₁ (rw b at e₂)
    (λ h₂. and_then n (at + 9) (spell 1 (limit_flag row.limit)) _ 1 (at + 10) (length-spell 1 (limit_flag row.limit)) (omega arith) h₂ (rw f at e₃)
    (λ h₃. and_then o (at + 10) (zeros 6) _ 6 (at + 16) (length-zeros 6) (omega arith) h₃ e₄ (λ _. rw (w, three-words row.links row.size (limit_word row.limit)) at e₅))))

pub entry-written : (l : List ℕ) (at parent node index : ℕ) (name : List ℕ) {m n o p q r : List ℕ}
    → m ≡ over l at (spell 8 parent) → n ≡ over m (at + 8) (spell 8 node) → o ≡ over n (at + 16) (spell 4 index) → p ≡ over o (at + 20) (spell 4 (length name))
    → q ≡ over p (at + 24) name → r ≡ over q (at + 24 + length name) (zeros (256 - length name)) → at + entry_row ≤ length l → length name ≤ 256
    → r ≡ over l at (lay_entry (record { parent = parent; node = node; index = index; name = name }))
unfolding lay_entry
entry-written l at parent node index name {m = m} {n = n} {o = o} {p = p} e₁ e₂ e₃ e₄ e₅ e₆ h k =
    and_then l at (spell 8 parent) _ 8 (at + 8) (length-spell 8 parent) refl (rw (entry_row_lem.sized (record { parent = parent; node = node; index = index; name = name })) h) e₁
    (λ h₁. and_then m (at + 8) (spell 8 node) _ 8 (at + 16) (length-spell 8 node) (omega arith) h₁ e₂
    (λ h₂. and_then n (at + 16) (spell 4 index) _ 4 (at + 20) (length-spell 4 index) (omega arith) h₂ e₃
    (λ h₃. and_then o (at + 20) (spell 4 (length name)) _ 4 (at + 24) (length-spell 4 (length name)) (omega arith) h₃ e₄
    (λ h₄. unfold joined in rw append-nil (padded-written p (at + 24) 256 name k (rw (append-nil, length-padded) at h₄) e₅ e₆)))))

pub chunk-written : (l : List ℕ) (at : ℕ) (row : ChunkRow) {r : List ℕ} → r ≡ over l at (lay_words (row.node ∷ row.index ∷ row.pointer ∷ [])) → r ≡ over l at (lay_chunk row)
unfolding lay_chunk
chunk-written l at row e = rw (three-words row.node row.index row.pointer) at e

-- ---- whether a row stands before a key

module _ (l : List ℕ) (at : ℕ) where
  pub node-is-under : (n : ℕ) {r : Bool} → r ≡ ltb (word l at) n → r ≡ node_under n (read_node (part l at node_row))
  node-is-under n h = rw (node_at_lem l at) h

  pub chunk-is-under : (n i : ℕ) {x y : ℕ} {r : Bool} → x ≡ word l at → y ≡ word l (at + 8) → r ≡ pair_before x y n i → r ≡ chunk_under n i (read_chunk (part l at chunk_row))
  chunk-is-under n i p q e = rw (chunk-at l at, e, p, q)
