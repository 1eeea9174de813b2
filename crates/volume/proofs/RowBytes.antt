-- Rows and their bytes: sizes, that what is laid out is read back, and that what is read is laid out again.
-- Assumes nothing.
use Rattle.std.specs.Prelude.{Some, None}
use mathlib.Core.Path.{◌≡◌, refl, sym, ap, ◌∙◌}
use mathlib.Core.Logic.{◌⊎◌, inl, inr}
use mathlib.Core.List.{List, [], ◌∷◌, append-nil}
use Prim.Native.Nat.{ℕ, zero, suc, ◌+◌, ◌-◌, ◌*◌, ◌≤◌, ◌<◌}
use native.Mathlib.Nat.{add-zero}
use native.Mathlib.Omega.{arith}
use lib.ListN.{length, get_or, length-append}
use lib.Seq.{take_all}
use Rattle.words.specs.Bytes.{part, zeros, padded, spell, num, word, Bytes}
use Rattle.words.specs.Tables.{lay_all, lay_words, joined, Each}
use Rattle.words.proofs.Parts.{length-zeros, length_part, part-part, part-mid}
use Rattle.words.proofs.Numbers.{spell-num, length-spell, num-part, num-below}
use Rattle.words.proofs.Tables.{num-words, part-joined, length-padded, padded-short, part-padded}
use Rattle.types.specs.Sizes.{most_size, name_room}
use Rattle.types.specs.Nodes.{limit_word}
use Rattle.types.specs.Kinds.{kind_of, kind_byte}
use Rattle.volume.specs.Kinds.{limit_of, limit_flag}
use Rattle.types.specs.declared.FileType.{FileType}
use Rattle.types.specs.declared.FileType.TheVariants.{Directory, RegularFile, SymbolicLink}
use Rattle.types.specs.Nodes.{Limit}
use Rattle.types.specs.declared.NodeRecord.{NodeRecord}
use Rattle.types.proofs.KindBytes.{is_known_lem, kind-of-byte}
use Rattle.volume.proofs.KindBytes.{limit-of-bytes, bytes-of-limit}
use Rattle.volume.specs.declared.ChunkRow.{ChunkRow}
use Rattle.volume.specs.Rows.{Entry, kind_or, lay_node, read_node, lay_entry, read_entry, lay_chunk, read_chunk, chunk_row, entry_row, node_row}
use Rattle.volume.specs.Framed.{NodeFormed, EntryFormed, NodeFits, EntryFits, ChunkFits}
use Rattle.words.proofs.Pieces.{glue, last-part, Read, words-again, spelled}

-- rows of s bytes: what is laid out is read back, what is read is laid out again as it stands and fits, and what fits is laid out in the form Ok
pub record Row {R : Type 0} (read : List ℕ → R) (lay : R → List ℕ) (s : ℕ) (Fit : R → Type 0) (Ok : List ℕ → ℕ → Type 0) : Type 0 where
  pub sized : (r : R) → length (lay r) ≡ s
  pub back : (r : R) → Fit r → read (lay r) ≡ r
  pub again : (l : List ℕ) → Bytes l → (at : ℕ) → at + s ≤ length l → Ok l at → (lay (read (part l at s)) ≡ part l at s) × Fit (read (part l at s))
  pub formed : (l : List ℕ) (at : ℕ) (r : R) → Fit r → part l at s ≡ lay r → Ok l at

-- ---- what is laid out is read back

kind-small : (k : FileType) → kind_byte k ≤ 2
kind-small Directory = omega arith
kind-small RegularFile = omega arith
kind-small SymbolicLink = omega arith

flag_small : (m : Limit) → limit_flag m ≤ 1
flag_small None = omega arith
flag_small (Some most) = omega arith

-- the pieces of a node's row
module _ (r : NodeRecord) (f : NodeFits r) where
  abbrev pieces : List (List ℕ)
  pieces = spell 8 r.node ∷ spell 1 (kind_byte r.kind) ∷ spell 1 (limit_flag r.limit) ∷ zeros 6 ∷ spell 8 r.links ∷ spell 8 r.size ∷ spell 8 (limit_word r.limit) ∷ []

  -- its type byte, the flag and the word of its limit, and its six zeros
  node-pieces : (num 1 (lay_node r) 8 ≡ kind_byte r.kind) × (num 1 (lay_node r) 9 ≡ limit_flag r.limit) × (num 8 (lay_node r) 32 ≡ limit_word r.limit) × (part (lay_node r) 10 6 ≡ zeros 6)
  unfolding lay_node
  node-pieces = (
    spelled pieces 1 8 1 (kind_byte r.kind) (omega arith) (unfold joined in simp (length-append, length-spell)) refl (omega (arith, kind-small r.kind)),
    spelled pieces 2 9 1 (limit_flag r.limit) (omega arith) (unfold joined in simp (length-append, length-spell)) refl (omega (arith, flag_small r.limit)),
    spelled pieces 6 32 8 (limit_word r.limit) (omega arith) (unfold joined in simp (length-append, length-spell, length-zeros)) refl (omega (arith, f.limit)),
    part-joined pieces 3 10 0 (omega arith) (unfold joined in simp (length-append, length-spell)) 6 (rw length-zeros (omega arith)) ∙ (unfold part in take_all 6 (zeros 6) (rw length-zeros (omega arith))),
  )

  -- a node's row that is laid out is read back
  read-node : read_node (lay_node r) ≡ r
  unfolding read_node
  read-node =
      let a : num 8 (lay_node r) 0 ≡ r.node = unfold lay_node in spelled pieces 0 0 8 r.node (omega arith) (unfold joined in refl) refl f.node in
      let b : num 8 (lay_node r) 16 ≡ r.links = unfold lay_node in spelled pieces 4 16 8 r.links (omega arith) (unfold joined in simp (length-append, length-spell, length-zeros)) refl f.links in
      let c : num 8 (lay_node r) 24 ≡ r.size = unfold lay_node in spelled pieces 5 24 8 r.size (omega arith) (unfold joined in simp (length-append, length-spell, length-zeros)) refl f.size in
      let p = node-pieces in
      rw (a, p.0, p.1, b, c, p.2, kind-of-byte r.kind, limit-of-bytes r.limit)

-- the pieces of an entry's row
module _ (e : Entry) (f : EntryFits e) where
  abbrev parts : List (List ℕ)
  parts = spell 8 e.parent ∷ spell 8 e.node ∷ spell 4 e.index ∷ spell 4 (length e.name) ∷ padded name_room e.name ∷ []

  entry_length : num 4 (lay_entry e) 20 ≡ length e.name
  unfolding lay_entry
  entry_length = spelled parts 3 20 4 (length e.name) (omega arith) (unfold joined in simp (length-append, length-spell)) refl (omega (arith, f.name))

  -- what lies inside the 256 bytes of the name
  entry-inside : (i n : ℕ) → i + n ≤ name_room → part (lay_entry e) (24 + i) n ≡ part (padded name_room e.name) i n
  unfolding lay_entry
  entry-inside i n h = part-joined parts 4 (24 + i) i (omega arith) (unfold joined in simp (length-append, length-spell)) n (rw length-padded h)

  entry-rest : part (lay_entry e) (24 + length e.name) (name_room - length e.name) ≡ zeros (name_room - length e.name)
  entry-rest =
      let n = length e.name in
      entry-inside n (name_room - n) (omega (arith, f.name))
      ∙ rw (padded-short name_room e.name (omega (arith, f.name))) (rw append-nil at (part-mid e.name (zeros (name_room - n)) [] n (name_room - n) refl (length-zeros (name_room - n))))

  -- an entry's row that is laid out is read back
  read-entry : read_entry (lay_entry e) ≡ e
  unfolding read_entry
  read-entry =
      let a : num 8 (lay_entry e) 0 ≡ e.parent = unfold lay_entry in spelled parts 0 0 8 e.parent (omega arith) (unfold joined in refl) refl f.parent in
      let b : num 8 (lay_entry e) 8 ≡ e.node = unfold lay_entry in spelled parts 1 8 8 e.node (omega arith) (unfold joined in simp (length-append, length-spell)) refl f.node in
      let c : num 4 (lay_entry e) 16 ≡ e.index = unfold lay_entry in spelled parts 2 16 4 e.index (omega arith) (unfold joined in simp (length-append, length-spell)) refl f.index in
      let n : part (lay_entry e) 24 (length e.name) ≡ e.name = entry-inside 0 (length e.name) (omega (arith, f.name)) ∙ part-padded [] name_room e.name 0 refl (omega (arith, f.name)) in
      rw (a, b, c, entry_length, n)

-- a chunk's row that is laid out is read back
read-chunk : (c : ChunkRow) → ChunkFits c → read_chunk (lay_chunk c) ≡ c
unfolding lay_chunk read_chunk joined lay_all Each
read-chunk c f =
    let ws = c.node ∷ c.index ∷ c.pointer ∷ [] in
    let w : (i : ℕ) → i < 3 → word (lay_words ws) (8 * i) ≡ get_or ws i 0 = λ i h. rw (append-nil (lay_words ws)) at (num-words ws [] i (f.node, (f.index, (f.pointer, tt))) h) in
    rw (w 0 (omega arith), w 1 (omega arith), w 2 (omega arith))

-- ---- what is read is laid out again, and fits

-- a type byte, through its kind
kind-back : (b : ℕ) → b ≤ 2 → kind_byte (kind_or (kind_of b)) ≡ b
kind-back zero h = rw (← is_known_lem Directory {b = 0} refl)
kind-back (suc zero) h = rw (← is_known_lem RegularFile {b = 1} refl)
kind-back (suc (suc zero)) h = rw (← is_known_lem SymbolicLink {b = 2} refl)
kind-back (suc (suc (suc b))) h = absurd (omega (arith, h))

module _ (l : List ℕ) (at : ℕ) where
  -- a node's row that is read, by the numbers of the whole
  pub node_at_lem : read_node (part l at node_row) ≡ record { node = word l at; kind = kind_or (kind_of (num 1 l (at + 8))); limit = limit_of (num 1 l (at + 9)) (word l (at + 32)); links = word l (at + 16); size = word l (at + 24) }
  unfolding read_node
  node_at_lem = rw (num-part 8 l at 40 0 (omega arith), num-part 1 l at 40 8 (omega arith), num-part 1 l at 40 9 (omega arith), num-part 8 l at 40 16 (omega arith), num-part 8 l at 40 24 (omega arith), num-part 8 l at 40 32 (omega arith), add-zero)

  -- and an entry's
  pub entry-at : num 4 l (at + 20) ≤ name_room → read_entry (part l at entry_row) ≡ record { parent = word l at; node = word l (at + 8); index = num 4 l (at + 16); name = part l (at + 24) (num 4 l (at + 20)) }
  unfolding read_entry
  entry-at h = rw (num-part 8 l at 280 0 (omega arith), num-part 8 l at 280 8 (omega arith), num-part 4 l at 280 16 (omega arith), num-part 4 l at 280 20 (omega arith), part-part l at 280 24 (num 4 l (at + 20)) (omega arith), add-zero)

  -- and a chunk's
  pub chunk-at : read_chunk (part l at chunk_row) ≡ record { node = word l at; index = word l (at + 8); pointer = word l (at + 16) }
  unfolding read_chunk
  chunk-at = rw (num-part 8 l at 24 0 (omega arith), num-part 8 l at 24 8 (omega arith), num-part 8 l at 24 16 (omega arith), add-zero)

module _ (l : List ℕ) (y : Bytes l) (at : ℕ) where
  -- a node's row that is read is laid out as it stands, and fits
  node-again : at + node_row ≤ length l → NodeFormed l at → (lay_node (read_node (part l at node_row)) ≡ part l at 40) × NodeFits (read_node (part l at node_row))
  unfolding lay_node joined
  node-again h f =
      let b = bytes-of-limit (num 1 l (at + 9)) (word l (at + 32)) f.limit in
      rw (node_at_lem l at) (
        glue l at 8 32 40 (at + 8) refl refl (spell-num 8 l at y (omega arith))
            (glue l (at + 8) 1 31 32 (at + 9) (omega arith) refl (ap (spell 1) (kind-back (num 1 l (at + 8)) f.kind) ∙ spell-num 1 l (at + 8) y (omega arith))
            (glue l (at + 9) 1 30 31 (at + 10) (omega arith) refl (ap (spell 1) b.0 ∙ spell-num 1 l (at + 9) y (omega arith))
            (glue l (at + 10) 6 24 30 (at + 16) (omega arith) refl (sym f.spare)
            (glue l (at + 16) 8 16 24 (at + 24) (omega arith) refl (spell-num 8 l (at + 16) y (omega arith))
            (glue l (at + 24) 8 8 16 (at + 32) (omega arith) refl (spell-num 8 l (at + 24) y (omega arith))
            (last-part l (at + 32) 8 (ap (spell 8) b.1 ∙ spell-num 8 l (at + 32) y (omega arith)))))))),
        record { node = num-below 8 l at y (omega arith); links = num-below 8 l (at + 16) y (omega arith); size = num-below 8 l (at + 24) y (omega arith); limit = rw b.1 b.2 },
      )

  -- and an entry's
  entry-again : at + entry_row ≤ length l → EntryFormed l at → (lay_entry (read_entry (part l at entry_row)) ≡ part l at 280) × EntryFits (read_entry (part l at entry_row))
  unfolding lay_entry joined
  entry-again h f =
      let n = num 4 l (at + 20) in
      let m : length (part l (at + 24) n) ≡ n = length_part l (at + 24) n (omega (arith, f.most)) in
      let p : padded name_room (part l (at + 24) n) ≡ part l (at + 24) name_room =
      padded-short name_room (part l (at + 24) n) (omega (arith, f.most)) ∙ rw m (glue l (at + 24) n (name_room - n) name_room (at + 24 + n) refl (omega (arith, f.most)) refl (sym f.rest)) in
      rw (entry-at l at (omega (arith, f.most)), m) (
        glue l at 8 272 280 (at + 8) refl refl (spell-num 8 l at y (omega arith))
            (glue l (at + 8) 8 264 272 (at + 16) (omega arith) refl (spell-num 8 l (at + 8) y (omega arith))
            (glue l (at + 16) 4 260 264 (at + 20) (omega arith) refl (spell-num 4 l (at + 16) y (omega arith))
            (glue l (at + 20) 4 256 260 (at + 24) (omega arith) refl (spell-num 4 l (at + 20) y (omega arith))
            (last-part l (at + 24) 256 p)))),
        record { parent = num-below 8 l at y (omega arith); node = num-below 8 l (at + 8) y (omega arith); index = num-below 4 l (at + 16) y (omega arith); name = rw m (f.least, f.most) },
      )

  -- and a chunk's
  chunk-again : at + 24 ≤ length l → (lay_chunk (read_chunk (part l at chunk_row)) ≡ part l at 24) × ChunkFits (read_chunk (part l at chunk_row))
  unfolding lay_chunk joined lay_all Read
  chunk-again h =
      let q : at + 16 ≡ at + 8 + 8 = omega arith in
      rw (chunk-at l at) (
        words-again l at (word l at ∷ word l (at + 8) ∷ word l (at + 16) ∷ []) y (refl, (refl, (rw q, tt))) h,
        record { node = num-below 8 l at y (omega arith); index = num-below 8 l (at + 8) y (omega arith); pointer = num-below 8 l (at + 16) y (omega arith) },
      )

-- ---- rows that fit are formed where they are laid out

module _ (l : List ℕ) (at : ℕ) where
  -- a node's row
  node-formed : (r : NodeRecord) → NodeFits r → part l at 40 ≡ lay_node r → NodeFormed l at
  node-formed r f e =
      let k : num 1 l (at + 8) ≡ kind_byte r.kind = sym (num-part 1 l at 40 8 (omega arith)) ∙ rw e (node-pieces r f).0 in
      let g : num 1 l (at + 9) ≡ limit_flag r.limit = sym (num-part 1 l at 40 9 (omega arith)) ∙ rw e (node-pieces r f).1 in
      let w : word l (at + 32) ≡ limit_word r.limit = sym (num-part 8 l at 40 32 (omega arith)) ∙ rw e (node-pieces r f).2 in
      record { kind = rw k (kind-small r.kind); limit = rw (g, w) (either r.limit f.limit); spare = sym (part-part l at 40 10 6 (omega arith)) ∙ rw e (node-pieces r f).3 }
    where
      either : (m : Limit) → limit_word m ≤ most_size → ((limit_flag m ≡ 0) × (limit_word m ≡ 0)) ⊎ ((limit_flag m ≡ 1) × (limit_word m ≤ most_size))
      either None h = inl (refl, refl)
      either (Some most) h = inr (refl, h)

  -- an entry's row
  entry-formed : (e : Entry) → EntryFits e → part l at 280 ≡ lay_entry e → EntryFormed l at
  entry-formed e f q =
      let n = length e.name in
      let m : num 4 l (at + 20) ≡ length e.name = sym (num-part 4 l at 280 20 (omega arith)) ∙ rw q (entry_length e f) in
      let o : at + 24 + length e.name ≡ at + (24 + length e.name) = omega arith in
      let z : part l (at + (24 + n)) (name_room - n) ≡ zeros (name_room - n) = sym (part-part l at 280 (24 + n) (name_room - n) (omega (arith, f.name))) ∙ rw q (entry-rest e f) in
      record { least = rw m f.name.0; most = rw m f.name.1; rest = rw (m, o) z }

-- ---- the three kinds of rows

pub node_row_lem : Row read_node lay_node node_row NodeFits NodeFormed
unfolding lay_node joined
node_row_lem = record { sized = λ r. simp (length-append, length-spell, length-zeros); back = read-node; again = node-again; formed = node-formed }

pub entry_row_lem : Row read_entry lay_entry entry_row EntryFits EntryFormed
unfolding lay_entry joined
entry_row_lem = record { sized = λ e. simp (length-append, length-spell, length-padded); back = read-entry; again = entry-again; formed = entry-formed }

pub chunk_row_lem : Row read_chunk lay_chunk chunk_row ChunkFits (λ l at. Unit {0})
unfolding lay_chunk joined
chunk_row_lem = record { sized = λ c. simp (length-append, length-spell); back = read-chunk; again = λ l y at h f. chunk-again l y at h; formed = λ l at r f e. tt }
