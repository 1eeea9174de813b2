-- Counters by the rows of the nodes: each holds how many entries have the number of its row.
-- Assumes nothing.
use Rattle.std.specs.Prelude.{Some, None}
use mathlib.Core.Path.{◌≡◌, refl, sym, ap, ◌∙◌}
use mathlib.Core.Bool.{Bool, true, false}
use mathlib.Core.List.{List, []}
use Prim.Native.Nat.{ℕ, ◌+◌, ◌≤◌, ◌<◌}
use native.Mathlib.Decide.{dec_lt}
use native.Mathlib.Omega.{arith}
use lib.Dec.{eqb, ltb}
use lib.ListN.{length, get_or, set, replicate, get_or-replicate, length-replicate, length-set}
use lib.Seq.{get_or-set_same, get_or-set_other}
use borrow.Author.Tests.{eqb-false}
use Rattle.words.specs.Rules.{both, bit, times, Says, holds, fails}
use Rattle.words.specs.Tests.{tally}
use Rattle.words.specs.Tables.{Asc}
use Rattle.words.proofs.Order.{each_at}
use Rattle.words.proofs.Places.{asc-at}
use Rattle.words.proofs.FoundRows.{none_passes}
use Rattle.words.proofs.Rules.{says-true, says_both, says-ltb, says-eqb, tally-turn, tally-le, tally-times}
use Rattle.words.proofs.Counting.{bit-same, bit-apart}
use Rattle.types.specs.declared.NodeRecord.{NodeRecord}
use Rattle.volume.specs.Rows.{Entry, read_node, read_entry}
use Rattle.volume.specs.Volume.{Names}
use Rattle.volume.specs.Framed.{NamesFits}
use Rattle.volume.specs.Sound.{node_before}
use Rattle.tables.proofs.NodeRows.{number_is}
use Rattle.tables.specs.Tables.{node_at, entry_at, found_node, Found}
use Rattle.tables.proofs.TableSearch.{node-found, node-absent}

-- ---- the row that a search finds

module _ (n : ℕ) (rs : List NodeRecord) where
  -- a row that was found is there, and has the number
  pub row-there : (i : ℕ) → Some i ≡ found_node n rs → (i < length rs) × ((node_at rs i).node ≡ n)
  row-there i e =
      let f = node-found n rs i e in
      (f.0, number_is n rs (node_at rs i) f.1)

  module _ (a : Asc node_before rs) (k : ℕ) (b : k < length rs) where
    -- and no other row has it
    row-alone : (i : ℕ) → Some i ≡ found_node n rs → (k ≡ i → ⊥) → n ≡ (node_at rs k).node → ⊥
    row-alone i e u q = go (dec_lt i k)
      where
        go : Dec (i < k) → ⊥
        go (yes h) = let f = row-there i e in let t = asc-at node_before (read_node []) rs a i k h b in omega arith
        go (no h) = let f = row-there i e in let t = asc-at node_before (read_node []) rs a k i (omega arith) f.0 in omega arith

    row-missing : None ≡ found_node n rs → n ≡ (node_at rs k).node → ⊥
    row-missing e q = eqb-false (node_at rs k).node n (each_at (λ r. eqb r.node n ≡ false) rs k (read_node []) (none_passes (λ r. eqb r.node n) rs (node-absent n rs a e)) b) (sym q)

    -- one more where the number is that of the row
    bumped-at : (m : List ℕ) (i : ℕ) → Some i ≡ found_node n rs → length rs ≤ length m → get_or (set m i (get_or m i 0 + 1)) k 0 ≡ get_or m k 0 + bit (eqb n (node_at rs k).node)
    bumped-at m i e h = go (says-eqb k i)
      where
        go : {t : Bool} → Says (k ≡ i) t → get_or (set m i (get_or m i 0 + 1)) k 0 ≡ get_or m k 0 + bit (eqb n (node_at rs k).node)
        go (holds q) =
            let f = row-there i e in
            let o : bit (eqb n (node_at rs i).node) ≡ 1 = rw f.1 (bit-same n) in
            rw q (get_or-set_same m i (get_or m i 0 + 1) 0 (omega arith) ∙ omega arith)
        go (fails q) = omega (arith, get_or-set_other m i k (get_or m i 0 + 1) 0 q, bit-apart n (node_at rs k).node (row-alone i e q))

-- a row that has the number is the one found
module _ (n : ℕ) (rs : List NodeRecord) (a : Asc node_before rs) (k : ℕ) where
  there-found : k < length rs → (node_at rs k).node ≡ n → Some k ≡ found_node n rs
  there-found b e = go (found_node n rs) refl
    where
      at_row : (i : ℕ) → Some i ≡ found_node n rs → {t : Bool} → Says (k ≡ i) t → Some k ≡ found_node n rs
      at_row i f (holds q) = rw q f
      at_row i f (fails q) = absurd (row-alone n rs a k b i f q (sym e))

      go : (f : Found) → f ≡ found_node n rs → Some k ≡ found_node n rs
      go (Some i) f = at_row i f (says-eqb k i)
      go None f = absurd (row-missing n rs a k b f (sym e))

  pub near-found : {r : Bool} → r ≡ both (ltb k (length rs)) (eqb (node_at rs k).node n) → r ≡ true → Some k ≡ found_node n rs
  near-found h t = let w = says-true (says_both (says-ltb k (length rs)) (says-eqb (node_at rs k).node n)) (sym h ∙ t) in there-found w.0 w.1

-- ---- as many counters as rows

module _ (a : Names) (f : NamesFits a) where
  rows-low : length a.nodes ≤ 4096
  rows-low = omega (arith, f.nodes, f.node_room)

  entries-low : length a.entries ≤ 4096
  entries-low = omega (arith, f.entries, f.entry_room)

  pub row-counter : (n i : ℕ) → Some i ≡ found_node n a.nodes → i < 4096
  row-counter n i e = omega (arith, (row-there n a.nodes i e).0, rows-low)

-- ---- a pass over the entries

-- key is what the entries are counted by
module _ (key : Entry → ℕ) (a : Names) where
  abbrev has_number : ℕ → Entry → Bool
  has_number k e = eqb (key e) (node_at a.nodes k).node

  -- the first i entries are counted
  abbrev pub Counted : ℕ → List ℕ → Type 0
  Counted i m =
      (i ≤ length a.entries) × (length m ≡ 4096) × ((k : ℕ) → k < length a.nodes → get_or m k 0 ≡ tally i (λ j. has_number k (entry_at a.entries j)))

  module _ (fits : NamesFits a) where
    pub counted_start : Counted 0 (replicate 4096 0)
    unfolding tally
    counted_start = (omega arith, length-replicate {A = ℕ} 4096 0, λ k b. get_or-replicate {A = ℕ} 4096 k 0 0 (omega (arith, rows-low a fits)))

    module _ (i : ℕ) (m : List ℕ) (c : Counted i m) where
      -- counters stay small
      pub counted-low : (k : ℕ) → k < length a.nodes → get_or m k 0 ≤ 4096
      counted-low k b = omega (arith, c.0, c.2 k b, tally-le (λ j. has_number k (entry_at a.entries j)) i, entries-low a fits)

      pub counted-turn : Asc node_before a.nodes → i < length a.entries → {x j : ℕ} {t : List ℕ} → x ≡ key (entry_at a.entries i) → Some j ≡ found_node x a.nodes → t ≡ set m j (get_or m j 0 + 1) → Counted (i + 1) t
      counted-turn o h {x} {j} e f q = (
        omega arith,
        ap length q ∙ length-set m j (get_or m j 0 + 1) ∙ c.1,
        λ k b. rw q (bumped-at x a.nodes o k b m j f (omega (arith, c.1, rows-low a fits)) ∙ tally-turn (λ j. has_number k (entry_at a.entries j)) i (c.2 k b) (ap (λ (n : ℕ). bit (eqb n (node_at a.nodes k).node)) e)),
      )

      pub counted-end : i ≡ length a.entries → (length m ≡ 4096) × ((k : ℕ) → k < length a.nodes → (get_or m k 0 ≡ times (has_number k) a.entries) × (get_or m k 0 ≤ 4096))
      counted-end h = (c.1, λ k b. (c.2 k b ∙ rw h (tally-times (has_number k) (read_entry []) a.entries), counted-low k b))
