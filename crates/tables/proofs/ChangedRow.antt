-- Laws of `changed`: the row of one node changed, its number kept. The other rows stay, and so do their places.
-- Assumes nothing.
use Rattle.std.specs.Prelude.{Some}
use mathlib.Core.Path.{◌≡◌, refl, sym, ap, ◌∙◌}
use mathlib.Core.Bool.{Bool, true, false}
use mathlib.Core.List.{List, [], ◌∷◌}
use mathlib.Core.Option.{some}
use Prim.Native.Nat.{ℕ, zero, suc, ◌<◌}
use native.Mathlib.Nat.{not-suc-le-zero, le_of_suc-le-suc}
use native.Mathlib.Omega.{arith}
use lib.Dec.{eqb}
use lib.ListN.{length, length-map, set}
use borrow.Author.Tests.{eq-eqb, ne_eqb}
use Rattle.words.specs.Rules.{pick, Says, holds, fails}
use Rattle.words.specs.Tables.{Each, Asc, find}
use Rattle.words.proofs.Rules.{says-eqb}
use Rattle.words.proofs.Order.{each_at, each_map}
use Rattle.types.specs.declared.NodeRecord.{NodeRecord}
use Rattle.volume.specs.Rows.{read_node}
use Rattle.volume.specs.Volume.{Volume, shown, laid, with_nodes, on_names}
use Rattle.volume.specs.Sound.{node_before}
use Rattle.volume.specs.Steps.{changed, with_node}
use Rattle.tables.proofs.NodeRows.{number_is}
use Rattle.tables.specs.Tables.{node_at, found_node}
use Rattle.tables.proofs.TableSearch.{node-found}

-- behind a row of an ascending table no row has its number
others : (n : ℕ) (r : NodeRecord) (rs : List NodeRecord) → r.node ≡ n → Each (node_before r) rs → Each (λ s. eqb s.node n ≡ false) rs
others n r rs e a = each_map (node_before r) (λ s. eqb s.node n ≡ false) (λ s h. ne_eqb s.node n (λ q. omega arith)) rs a

module _ (n : ℕ) (f : NodeRecord → NodeRecord) where
  pub length-changed : (rs : List NodeRecord) → length (changed n f rs) ≡ length rs
  unfolding changed
  length-changed rs = length-map rs (λ r. pick (eqb r.node n) (f r) r)

  changed-none : (rs : List NodeRecord) → Each (λ s. eqb s.node n ≡ false) rs → changed n f rs ≡ rs
  unfolding changed Each pick
  changed-none [] h = refl
  changed-none (r ∷ rs) h = rw h.0 (ap (λ (t : List NodeRecord). r ∷ t) (changed-none rs h.1))

  -- ---- as a store at the row's place

  changed-at : (rs : List NodeRecord) (i : ℕ) → Asc node_before rs → i < length rs → (node_at rs i).node ≡ n → changed n f rs ≡ set rs i (f (node_at rs i))
  unfolding changed Asc pick
  changed-at [] i a h e = absurd (not-suc-le-zero h)
  changed-at (r ∷ rs) zero a h e = rw (eq-eqb r.node n e) (ap (λ (t : List NodeRecord). f r ∷ t) (changed-none rs (others n r rs e a.0)))
  changed-at (r ∷ rs) (suc i) a h e =
      let k : i < length rs = le_of_suc-le-suc h in
      let b : r.node < (node_at rs i).node = each_at (node_before r) rs i (read_node []) a.0 k in
      rw (ne_eqb r.node n (λ q. omega arith)) (ap (λ (t : List NodeRecord). r ∷ t) (changed-at rs i a.1 k e))

  pub changed-set : (rs : List NodeRecord) (i : ℕ) → Asc node_before rs → Some i ≡ found_node n rs → changed n f rs ≡ set rs i (f (node_at rs i))
  changed-set rs i a e =
      let k = node-found n rs i e in
      changed-at rs i a k.0 (number_is n rs (node_at rs i) k.1)

  -- the row set where a search found it, in bytes m of a volume that has these nodes
  pub row-set : (rs : List NodeRecord) (i : ℕ) → Asc node_before rs → Some i ≡ found_node n rs → {d : NodeRecord} → d ≡ f (node_at rs i) → (v : Volume) → v.names.nodes ≡ rs → (m : List ℕ) {o : List ℕ} → shown m ≡ v
      → o ≡ laid (on_names (with_nodes (set (shown m).names.nodes i d)) (shown m)) → o ≡ laid (on_names (with_node n f) v)
  row-set rs i a h row v same m e q = q ∙ rw (e, same, row) (ap (λ ns. laid (on_names (with_nodes ns) v)) (sym (changed-set rs i a h)))

  -- ---- what holds of every row, where it holds of the changed one

  pub each-changed : (P : NodeRecord → Type 0) (d : NodeRecord) (rs : List NodeRecord) → Asc node_before rs → find (λ r. eqb r.node n) rs ≡ some d → (P d → P (f d)) → Each P rs → Each P (changed n f rs)
  unfolding changed Asc Each find pick
  each-changed P d [] a e k h = tt
  each-changed P d (r ∷ rs) a e k h = go (eqb r.node n) (says-eqb r.node n) e (λ z. each-changed P d rs a.1 z k h.1)
    where
      go : (b : Bool) → Says (r.node ≡ n) b → pick b (some r) (find (λ s. eqb s.node n) rs) ≡ some d → (find (λ s. eqb s.node n) rs ≡ some d → Each P (changed n f rs)) → P (pick b (f r) r) × Each P (changed n f rs)
      go true (holds q) z i =
          let w : d ≡ r = cc in
          ((rw w at k) h.0, rw (changed-none rs (others n r rs q a.0)) h.1)
      go false (fails q) z i = (h.0, i z)

  -- ---- by a number

  module _ (keeps : (r : NodeRecord) → (f r).node ≡ r.node) where
    number-kept : (b : Bool) (r : NodeRecord) → (pick b (f r) r).node ≡ r.node
    unfolding pick
    number-kept true r = keeps r
    number-kept false r = refl

    -- what the number alone decides
    pub numbers-kept : (P : ℕ → Type 0) (rs : List NodeRecord) → Each (λ r. P r.node) rs → Each (λ r. P r.node) (changed n f rs)
    unfolding changed Each
    numbers-kept P [] h = tt
    numbers-kept P (r ∷ rs) h = (rw (number-kept (eqb r.node n) r) h.0, numbers-kept P rs h.1)

    pub order-kept : (rs : List NodeRecord) → Asc node_before rs → Asc node_before (changed n f rs)
    unfolding changed Asc
    order-kept [] a = tt
    order-kept (r ∷ rs) a = (rw (number-kept (eqb r.node n) r) (numbers-kept (λ m. r.node < m) rs a.0), order-kept rs a.1)

    -- another node's row is as it was
    pub find-other : (m : ℕ) → (m ≡ n → ⊥) → (rs : List NodeRecord) → find (λ r. eqb r.node m) (changed n f rs) ≡ find (λ r. eqb r.node m) rs
    unfolding changed find pick
    find-other m h [] = refl
    find-other m h (r ∷ rs) = go (eqb r.node n) (says-eqb r.node n) (find-other m h rs)
      where
        go : (b : Bool) → Says (r.node ≡ n) b → find (λ s. eqb s.node m) (changed n f rs) ≡ find (λ s. eqb s.node m) rs
            → find (λ s. eqb s.node m) (pick b (f r) r ∷ changed n f rs) ≡ find (λ s. eqb s.node m) (r ∷ rs)
        go true (holds q) i = rw (keeps r, ne_eqb r.node m (λ z. h (sym z ∙ q)), i)
        go false (fails q) i = rw i

    -- the node's own row is the changed one
    pub find-changed : (d : NodeRecord) (rs : List NodeRecord) → find (λ r. eqb r.node n) rs ≡ some d → find (λ r. eqb r.node n) (changed n f rs) ≡ some (f d)
    unfolding changed find pick
    find-changed d [] e = let x : ◌≡◌ {A = ℕ} 0 1 = cc in absurd (omega arith)
    find-changed d (r ∷ rs) e = go (eqb r.node n) refl e (find-changed d rs)
      where
        go : (b : Bool) → eqb r.node n ≡ b → pick b (some r) (find (λ s. eqb s.node n) rs) ≡ some d
            → (find (λ s. eqb s.node n) rs ≡ some d → find (λ s. eqb s.node n) (changed n f rs) ≡ some (f d))
            → find (λ s. eqb s.node n) (pick b (f r) r ∷ changed n f rs) ≡ some (f d)
        go true q z i =
            let w : r ≡ d = cc in
            let u : eqb (f r).node n ≡ true = ap (λ (k : ℕ). eqb k n) (keeps r) ∙ q in
            rw u (ap (λ (s : NodeRecord). some (f s)) w)
        go false q z i = rw q (i z)
