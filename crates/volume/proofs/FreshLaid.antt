-- What the writes of a new volume leave.
-- Assumes nothing.
use Rattle.std.specs.Prelude.{Ok}
use mathlib.Core.Path.{◌≡◌, refl, sym, ap, ◌∙◌}
use mathlib.Core.Bool.{true, false}
use mathlib.Core.List.{List, [], ◌∷◌, ◌++◌, append_assoc, append-nil}
use Prim.Native.Nat.{ℕ, ◌+◌, ◌-◌, ◌*◌}
use native.Mathlib.Omega.{arith}
use lib.ListN.{length, length-append}
use Rattle.words.specs.Bytes.{over, spell, zeros}
use Rattle.words.specs.Tables.{lay_all, lay_words, area, joined}
use Rattle.words.proofs.Parts.{over-mid, length-zeros, zeros-add}
use Rattle.words.proofs.Numbers.{length-spell}
use Rattle.words.proofs.Tables.{lay_all-append, length-lay_all, words-zero, area-nil, cleared}
use Rattle.words.proofs.Rules.{pick_true, pick-false}
use Rattle.types.specs.Outcomes.{outcome, refused}
use Rattle.types.specs.declared.Error.TheVariants.{InvalidArgument}
use Rattle.types.specs.declared.NodeRecord.{NodeRecord}
use Rattle.allocator.specs.Sizes.{accepted_size}
use Rattle.allocator.specs.Allocator.{lay_allocator, words_of, marker}
use Rattle.volume.specs.Rows.{lay_node, lay_entry, lay_chunk, chunk_row, entry_row, node_row}
use Rattle.volume.specs.Volume.{form, laid, at_nodes, at_bytes}
use Rattle.volume.specs.Framed.{Placed}
use Rattle.volume.specs.Geometry.{placed}
use Rattle.volume.specs.Fresh.{fresh_allocator, root, fresh, fresh_laid, new_volume}
use Rattle.volume.proofs.RowBytes.{node_row_lem}

module _ (n e c s : ℕ) where
  -- the header's words, the marker and the chunk size
  abbrev pub firsts : List ℕ
  firsts = form ∷ n ∷ e ∷ c ∷ 1 ∷ 0 ∷ 0 ∷ 1 ∷ marker ∷ s ∷ []

  length-firsts : length (lay_words firsts) ≡ 80
  length-firsts = length-lay_all (spell 8) 8 (length-spell 8) firsts

  allocator-laid : lay_allocator (fresh_allocator c s) ≡ lay_words (marker ∷ s ∷ []) ++ zeros (112 + 8 * c)
  unfolding lay_allocator
  allocator-laid =
      let z : zeros 2 ++ (zeros 12 ++ zeros c) ≡ zeros (14 + c) = rw (zeros-add 12 c, zeros-add 2 (12 + c)) (ap zeros (omega arith)) in
      let w : words_of (fresh_allocator c s) ≡ (marker ∷ s ∷ []) ++ (zeros 2 ++ (zeros 12 ++ zeros c)) = unfold words_of zeros in refl in
      let k : 8 * (14 + c) ≡ 112 + 8 * c = omega arith in
      ap lay_words (w ∙ ap (λ (r : List ℕ). (marker ∷ s ∷ []) ++ r) z) ∙ lay_all-append (spell 8) (marker ∷ s ∷ []) (zeros (14 + c))
      ∙ ap (λ (r : List ℕ). lay_words (marker ∷ s ∷ []) ++ r) (words-zero (14 + c) ∙ ap zeros k)

  -- a new volume's bytes, in four
  pub fresh-laid : (a : ℕ) → laid (fresh n e c s a) ≡ lay_words firsts ++ (zeros (112 + 8 * c) ++ (lay_node root ++ zeros (node_row * (n - 1) + (entry_row * e + (chunk_row * c + a)))))
  unfolding laid fresh joined
  fresh-laid a =
      let eight = form ∷ n ∷ e ∷ c ∷ 1 ∷ 0 ∷ 0 ∷ 1 ∷ [] in
      let f : lay_words firsts ≡ lay_words eight ++ lay_words (marker ∷ s ∷ []) = lay_all-append (spell 8) eight (marker ∷ s ∷ []) in
      let r : area lay_node node_row n (root ∷ []) ≡ lay_node root ++ zeros (node_row * (n - 1)) = unfold area lay_all in rw append-nil in
      let z : zeros (node_row * (n - 1)) ++ (zeros (entry_row * e) ++ (zeros (chunk_row * c) ++ (zeros a ++ []))) ≡ zeros (node_row * (n - 1) + (entry_row * e + (chunk_row * c + a))) =
      rw (append-nil, zeros-add (chunk_row * c) a, zeros-add (entry_row * e) (chunk_row * c + a), zeros-add (node_row * (n - 1)) (entry_row * e + (chunk_row * c + a))) in
      rw (f, ← z, allocator-laid, r, area-nil lay_entry entry_row e, area-nil lay_chunk chunk_row c) (simp append_assoc)

  -- the three writes
  pub fresh-written : (l : List ℕ) (at : ℕ) {row : NodeRecord} {m k r : List ℕ} → Placed n e c (length l) → at ≡ at_nodes c → row ≡ root
      → m ≡ over l 0 (zeros (length l)) → k ≡ over m 0 (lay_words firsts) → r ≡ over k at (lay_node row) → r ≡ fresh_laid n e c s (length l)
  unfolding fresh_laid
  fresh-written l at p q t u v w =
      let rest = node_row * (n - 1) + (entry_row * e + (chunk_row * c + (length l - at_bytes n e c))) in
      let cut : zeros (length l) ≡ zeros 80 ++ (zeros (112 + 8 * c) ++ (zeros 40 ++ zeros rest)) =
      rw (zeros-add 40 rest, zeros-add (112 + 8 * c) (40 + rest), zeros-add 80 (112 + 8 * c + (40 + rest))) (ap zeros (omega (arith, p.nodes, p.long))) in
      let a : over (zeros 80 ++ (zeros (112 + 8 * c) ++ (zeros 40 ++ zeros rest))) 0 (lay_words firsts) ≡ lay_words firsts ++ (zeros (112 + 8 * c) ++ (zeros 40 ++ zeros rest)) =
      over-mid [] (zeros 80) (zeros (112 + 8 * c) ++ (zeros 40 ++ zeros rest)) (lay_words firsts) 0 refl (length-zeros 80 ∙ sym length-firsts) in
      let g : length (lay_words firsts ++ zeros (112 + 8 * c)) ≡ at = rw (length-append, length-firsts, length-zeros, q) (omega arith) in
      let b : over ((lay_words firsts ++ zeros (112 + 8 * c)) ++ (zeros 40 ++ zeros rest)) at (lay_node root) ≡ (lay_words firsts ++ zeros (112 + 8 * c)) ++ (lay_node root ++ zeros rest) =
      over-mid (lay_words firsts ++ zeros (112 + 8 * c)) (zeros 40) (zeros rest) (lay_node root) at g (length-zeros 40 ∙ sym (node_row_lem.sized root)) in
      w ∙ rw (t, v, u, cleared l, cut, a) (simp append_assoc at b) ∙ sym (fresh-laid (length l - at_bytes n e c))

-- ---- the outcome

module _ (n e c s : ℕ) (l : List ℕ) where
  pub new-misplaced : placed n e c (length l) ≡ false → refused InvalidArgument l ≡ new_volume n e c s l
  unfolding new_volume
  new-misplaced h = pick-false _ _ _ _ h refl

  pub new-missized : placed n e c (length l) ≡ true → accepted_size s ≡ false → refused InvalidArgument l ≡ new_volume n e c s l
  unfolding new_volume
  new-missized h k = pick_true _ _ _ _ h (pick-false _ _ _ _ k refl)

  pub new-done : {m : List ℕ} → placed n e c (length l) ≡ true → accepted_size s ≡ true → m ≡ fresh_laid n e c s (length l) → outcome (Ok 0) m ≡ new_volume n e c s l
  unfolding new_volume
  new-done h k q = pick_true _ _ _ _ h (pick_true _ _ _ _ k (rw q))
