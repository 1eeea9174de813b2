-- A search by halving: that keys in order are what it asks for, its three ends, and that what it finds is the row looked for.
-- Assumes nothing.
use Rattle.std.specs.Prelude.{Some, None}
use mathlib.Core.Path.{◌≡◌, refl, ap}
use mathlib.Core.Bool.{Bool, true, false}
use mathlib.Core.List.{List, [], ◌∷◌}
use mathlib.Core.Option.{none, some}
use Prim.Native.Nat.{ℕ, zero, suc, ◌≤◌, ◌<◌}
use native.Mathlib.Nat.{not-suc-le-zero, le_of_suc-le-suc}
use native.Mathlib.Omega.{arith}
use lib.Dec.{eqb, ltb}
use lib.ListN.{length}
use borrow.Author.Tests.{eq-eqb, ne_eqb, lt-ltb, le-ltb, ltb-true, ltb-false}
use Rattle.words.specs.Rules.{pick, Says, holds, fails}
use Rattle.words.specs.Tables.{lead, lead_of, Asc, find}
use Rattle.words.proofs.Rules.{says-ltb, pick_true, pick-false}
use Rattle.words.proofs.Order.{each_at, asc-map}
use Rattle.words.proofs.Search.{asc-falls, find-found, find-missing}
use Rattle.types.specs.declared.NodeRecord.{NodeRecord}
use Rattle.volume.specs.declared.ChunkRow.{ChunkRow}
use Rattle.volume.specs.Rows.{Entry, read_node}
use Rattle.volume.specs.Search.{node_under, entry_under, chunk_under}
use Rattle.volume.specs.Sound.{node_before, entry_before, chunk_before}
use Rattle.volume.proofs.PairOrder.{pair-falls}
use Rattle.tables.specs.Tables.{node_at, found_node}

-- ---- a row that does not stand before a key, and a row behind it: that one does not either

pub node-falls : (n : ℕ) (a b : NodeRecord) → node_before a b → node_under n a ≡ false → node_under n b ≡ false
node-falls n a b h e = le-ltb b.node n (omega (arith, ltb-false a.node n e))

pub entry-falls : (p i : ℕ) (a b : Entry) → entry_before a b → entry_under p i a ≡ false → entry_under p i b ≡ false
entry-falls p i a b h e = pair-falls a.parent a.index b.parent b.index p i h e

pub chunk-falls : (n i : ℕ) (a b : ChunkRow) → chunk_before a b → chunk_under n i a ≡ false → chunk_under n i b ≡ false
chunk-falls n i a b h e = pair-falls a.node a.index b.node b.index n i h e

-- ---- the three ends of a search

module _ (n : ℕ) (rs : List NodeRecord) {i : ℕ} (e : i ≡ lead (node_under n) rs) where
  pub node-past : length rs ≤ i → None ≡ found_node n rs
  unfolding found_node
  node-past h = pick-false _ _ _ _ (rw (← e) (le-ltb i (length rs) h)) refl

  pub node-other : {x : ℕ} → i < length rs → x ≡ (node_at rs i).node → (x ≡ n → ⊥) → None ≡ found_node n rs
  unfolding found_node
  node-other h q k = pick_true _ _ _ _ (rw (← e) (lt-ltb i (length rs) h)) (pick-false _ _ _ _ (rw (← e, ← q) (ne_eqb _ _ k)) refl)

  pub node-here : {x : ℕ} → i < length rs → x ≡ (node_at rs i).node → x ≡ n → Some i ≡ found_node n rs
  unfolding found_node
  node-here h q k = pick_true _ _ _ _ (rw (← e) (lt-ltb i (length rs) h)) (pick_true _ _ _ _ (rw (← e, ← q) (eq-eqb _ _ k)) (ap Some e))

-- a number stands at one place of an ascending table
lead-at : (n : ℕ) (rs : List NodeRecord) (i : ℕ) → Asc node_before rs → i < length rs → (node_at rs i).node ≡ n → i ≡ lead (node_under n) rs
unfolding lead lead_of Asc
lead-at n [] i a h e = absurd (not-suc-le-zero h)
lead-at n (r ∷ rs) zero a h e = rw (le-ltb r.node n (omega arith)) refl
lead-at n (r ∷ rs) (suc i) a h e =
    let k : i < length rs = le_of_suc-le-suc h in
    let b : r.node < (node_at rs i).node = each_at (node_before r) rs i (read_node []) a.0 k in
    rw (lt-ltb r.node n (omega arith)) (ap suc (lead-at n rs i a.1 k e))

-- so a search finds it there
pub found_at : (n : ℕ) (rs : List NodeRecord) (i : ℕ) → Asc node_before rs → i < length rs → (node_at rs i).node ≡ n → Some i ≡ found_node n rs
found_at n rs i a h e = node-here n rs (lead-at n rs i a h e) h refl e

-- ---- what is found is the row looked for, and where nothing is found there is none

module _ (n : ℕ) where
  not-under : (r : NodeRecord) → node_under n r ≡ true → eqb r.node n ≡ false
  not-under r e = ne_eqb r.node n (λ q. omega (arith, ltb-true r.node n e))

  passes : (a b : NodeRecord) → node_before a b → node_under n a ≡ false → eqb a.node n ≡ false → eqb b.node n ≡ false
  passes a b h e q = ne_eqb b.node n (λ z. omega (arith, ltb-false a.node n e))

  pub node-found : (rs : List NodeRecord) (i : ℕ) → Some i ≡ found_node n rs → (i < length rs) × (find (λ r. eqb r.node n) rs ≡ some (node_at rs i))
  unfolding found_node pick
  node-found rs i e = go (ltb k (length rs)) (says-ltb k (length rs)) (eqb (node_at rs k).node n) refl e
    where
      k : ℕ
      k = lead (node_under n) rs

      go : (a : Bool) → Says (k < length rs) a → (b : Bool) → eqb (node_at rs k).node n ≡ b → Some i ≡ pick a (pick b (Some k) None) None
          → (i < length rs) × (find (λ r. eqb r.node n) rs ≡ some (node_at rs i))
      go true (holds h) true q z =
          let s : i ≡ k = cc in
          rw s (h, find-found (node_under n) (λ r. eqb r.node n) (read_node []) not-under rs h q)
      go true (holds h) false q z = let x : ◌≡◌ {A = ℕ} 0 1 = cc in absurd (omega arith)
      go false (fails h) b q z = let x : ◌≡◌ {A = ℕ} 0 1 = cc in absurd (omega arith)

  pub node-absent : (rs : List NodeRecord) → Asc node_before rs → None ≡ found_node n rs → find (λ r. eqb r.node n) rs ≡ none
  unfolding found_node pick
  node-absent rs a e =
      find-missing (node_under n) (λ r. eqb r.node n) (read_node []) not-under rs (asc-falls node_before (node_under n) (node-falls n) rs a)
      (asc-map node_before (λ x y. node_under n x ≡ false → eqb x.node n ≡ false → eqb y.node n ≡ false) passes rs a) (go (ltb k (length rs)) (says-ltb k (length rs)) (eqb (node_at rs k).node n) refl e)
    where
      k : ℕ
      k = lead (node_under n) rs

      go : (a : Bool) → Says (k < length rs) a → (b : Bool) → eqb (node_at rs k).node n ≡ b → None ≡ pick a (pick b (Some k) None) None → k < length rs → eqb (node_at rs k).node n ≡ false
      go true s true q z h = let x : ◌≡◌ {A = ℕ} 0 1 = cc in absurd (omega arith)
      go true s false q z h = q
      go false (fails s) b q z h = absurd (s h)
