-- Laws of the frame: the test says whether bytes are framed, and what its code finds.
-- Assumes nothing.
use Rattle.std.specs.Prelude.{Option}
use mathlib.Core.Path.{◌≡◌, refl, sym, ap, ◌∙◌}
use mathlib.Core.Bool.{Bool, true, false}
use mathlib.Core.List.{List}
use Prim.Native.Nat.{ℕ, ◌+◌, ◌-◌, ◌*◌, ◌/◌, ◌≤◌, ◌<◌}
use native.Mathlib.Omega.{arith}
use lib.ListN.{length, take, drop}
use lib.Dec.{eqb, leb}
use Rattle.words.specs.Bytes.{word, part}
use Rattle.words.specs.Rules.{both, Says, holds}
use Rattle.words.proofs.Parts.{length_part}
use Rattle.words.proofs.Numbers.{num-part}
use Rattle.words.proofs.Joined.{both_false}
use Rattle.words.proofs.Rules.{says_map, says_both, says-and, says-upto, says-eqb, says-leb, says-itself, says-true, go_on}
use Rattle.words.proofs.Blocks.{says-zeros}
use Rattle.allocator.specs.Sizes.{accepted_size}
use Rattle.allocator.specs.Allocator.{marker}
use Rattle.allocator.specs.Words.{well_marked}
use Rattle.volume.specs.Header.{at_chunk_room, at_chunk_size, at_chunks_used, at_entries_used, at_entry_room, at_form, at_free_count, at_marker, at_node_room, at_nodes_used}
use Rattle.volume.specs.Rows.{node_row, entry_row, chunk_row}
use Rattle.volume.specs.Volume.{form, at_nodes, at_entries, at_chunks}
use Rattle.volume.specs.declared.Layout.{Layout}
use Rattle.volume.specs.Geometry.{placed}
use Rattle.volume.specs.Layouts.{layout_in, place_if, place_of}
use Rattle.volume.specs.Framed.{Headed, Marked, NodeFormed, EntryFormed, RowsFormed, Framed}
use Rattle.volume.specs.RowTests.{node_formed, entry_formed}
use Rattle.volume.proofs.RowTests.{says-node, says-entry}
use Rattle.volume.proofs.GeometryRules.{says-placed}
use Rattle.soundness.specs.FrameRules.{headed, marked, rows_formed, areas_formed, framed}

-- ---- the tests mean what the records say

says-headed : (l : List ℕ) → Says (Headed l) (headed l)
unfolding headed
says-headed l =
    says_map (λ p. record { least = p.0; formed = p.1.0; placed = p.1.1.0; nodes = p.1.1.1.0; entries = p.1.1.1.1.0; chunks = p.1.1.1.1.1 })
    (λ h. (h.least, (h.formed, (h.placed, (h.nodes, (h.entries, h.chunks))))))
    (says_both (says-leb 64 (length l)) (says_both (says-eqb (word l at_form) form) (says_both (says-placed (word l at_node_room) (word l at_entry_room) (word l at_chunk_room) (length l))
    (says_both (says-leb (word l at_nodes_used) (word l at_node_room)) (says_both (says-leb (word l at_entries_used) (word l at_entry_room)) (says-leb (word l at_chunks_used) (word l at_chunk_room)))))))

says-marked : (l : List ℕ) → Says (Marked l) (marked l)
unfolding marked
says-marked l =
    says_map (λ p. record { mark = p.0; size = p.1.0; free = p.1.1 }) (λ h. (h.mark, (h.size, h.free)))
    (says_both (says-eqb (word l at_marker) marker) (says_both (says-itself (accepted_size (word l at_chunk_size))) (says-leb (word l at_free_count) (word l at_chunk_room))))

says-rows : (Row : ℕ → Type 0) (row : ℕ → Bool) (s : ℕ) (l : List ℕ) (at used room : ℕ) → at + s * used + s * (room - used) ≤ length l → ((i : ℕ) → i < used → Says (Row (at + s * i)) (row (at + s * i)))
    → Says (RowsFormed Row s l at used room) (rows_formed row s l at used room)
unfolding rows_formed
says-rows Row row s l at used room h each =
    says_map (λ p. record { rows = p.0; unused = p.1 }) (λ f. (f.rows, f.unused))
    (says_both (says-upto (λ i. Row (at + s * i)) (λ i. row (at + s * i)) used each) (says-zeros l (at + s * used) (s * (room - used)) h))

pub says-framed : (l : List ℕ) → Says (Framed l) (framed l)
unfolding framed areas_formed
says-framed l =
    says_map (λ p. record { headed = p.0; marked = p.1.0; nodes = p.1.1.0; entries = p.1.1.1.0; chunks = p.1.1.1.1 }) (λ f. (f.headed, (f.marked, (f.nodes, (f.entries, f.chunks)))))
    (says-and (says-headed l) (λ h. says_both (says-marked l)
    (says_both (says-rows (NodeFormed l) (node_formed l) node_row l (at_nodes (word l at_chunk_room)) (word l at_nodes_used) (word l at_node_room) (omega arith) (λ i b. says-node l (at_nodes (word l at_chunk_room) + node_row * i) (omega arith)))
    (says_both (says-rows (EntryFormed l) (entry_formed l) entry_row l (at_entries (word l at_node_room) (word l at_chunk_room)) (word l at_entries_used) (word l at_entry_room) (omega arith) (λ i b. says-entry l (at_entries (word l at_node_room) (word l at_chunk_room) + entry_row * i) (omega arith)))
    (says-rows (λ _. Unit {0}) (λ _. true) chunk_row l (at_chunks (word l at_node_room) (word l at_entry_room) (word l at_chunk_room)) (word l at_chunks_used) (word l at_chunk_room) (omega arith) (λ i b. holds tt))))))

pub framed-true : (l : List ℕ) → framed l ≡ true → Framed l
framed-true l e = says-true (says-framed l) e

pub headed-true : (l : List ℕ) → headed l ≡ true → Headed l
headed-true l e = says-true (says-headed l) e

-- ---- what the code finds

-- used counts that do not fit, wherever the tables stand
pub counts-over : (a b : Bool) → b ≡ false → false ≡ both a b
counts-over a b e = rw e (sym (both_false a))

-- the place that a header's rooms give, where the rest of it holds
pub header-place : (l : List ℕ) {n e c : ℕ} {r : Option Layout} → leb 64 (length l) ≡ true → eqb (word l at_form) form ≡ true → n ≡ word l at_node_room → e ≡ word l at_entry_room → c ≡ word l at_chunk_room → r ≡ place_of n e c (length l)
    → true ≡ both (leb (word l at_nodes_used) (word l at_node_room)) (both (leb (word l at_entries_used) (word l at_entry_room)) (leb (word l at_chunks_used) (word l at_chunk_room))) → r ≡ place_if (headed l) (layout_in l)
unfolding headed
header-place l a f p q t h k =
    let x : placed (word l at_node_room) (word l at_entry_room) (word l at_chunk_room) (length l) ≡ headed l = go_on _ _ a (go_on _ _ f (both_yes _ _ (sym k))) in
    h ∙ rw (p, q, t) (ap (λ b. place_if b (layout_in l)) x)
  where
    both_yes : (a b : Bool) → b ≡ true → a ≡ both a b
    both_yes true b e = unfold both in sym e
    both_yes false b e = unfold both in refl

-- rows of a table, with numbers that were read
pub rows_at : (row : ℕ → Bool) (s : ℕ) (l : List ℕ) {at used room a u m : ℕ} {r : Bool} → at ≡ a → used ≡ u → room ≡ m → r ≡ rows_formed row s l at used room → r ≡ rows_formed row s l a u m
rows_at row s l p q t e = e ∙ rw (p, q, t)

-- the allocator's words, lent as a part of the volume
pub marked-lent : (l : List ℕ) → Headed l → {y : Layout} {r : Bool} → y ≡ layout_in l → r ≡ well_marked (take (y.nodes - 64) (drop 64 l)) → r ≡ marked l
unfolding marked well_marked part
marked-lent l h {y} e q =
    let k : y.nodes - 64 ≡ 128 + 8 * word l at_chunk_room = omega (arith, ap (λ z. z.nodes) e) in
    let w : List ℕ = part l 64 (128 + 8 * word l at_chunk_room) in
    let n : length w / 8 - 16 ≡ word l at_chunk_room = rw (length_part l 64 (128 + 8 * word l at_chunk_room) (omega (arith, h.placed.long))) (omega arith) in
    q ∙ rw (k, num-part 8 l 64 (128 + 8 * word l at_chunk_room) 0 (omega arith), num-part 8 l 64 (128 + 8 * word l at_chunk_room) 8 (omega arith), num-part 8 l 64 (128 + 8 * word l at_chunk_room) 16 (omega arith), n)
