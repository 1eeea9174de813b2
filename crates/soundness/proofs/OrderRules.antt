-- What the tests of rows mean.
-- Assumes nothing.
use mathlib.Core.Path.{◌≡◌, refl, ap, ◌∙◌}
use mathlib.Core.Bool.{Bool, true, false, false≢true}
use mathlib.Core.List.{List, [], ◌∷◌}
use mathlib.Core.Option.{some}
use Prim.Native.Nat.{ℕ, ◌≤◌, ◌<◌}
use native.Mathlib.Omega.{arith}
use lib.Dec.{eqb, ltb, leb}
use lib.ListN.{length}
use borrow.Author.Tests.{ne_eqb, le-leb}
use Rattle.words.specs.Rules.{both, pick, upto, times, Says, fails}
use Rattle.words.specs.Tables.{Each, Asc, find}
use Rattle.words.proofs.Order.{each_map}
use Rattle.words.proofs.Middle.{each-pair}
use Rattle.words.proofs.Places.{each-places, asc-places}
use Rattle.words.proofs.Counting.{none_pass, pass-none}
use Rattle.words.proofs.Rules.{says_map, says_both, says-leb, says-ltb, says-itself, says-opposite}
use Rattle.words.proofs.Search.{find_none}
use Rattle.types.specs.Nodes.{is_directory}
use Rattle.types.proofs.Nodes.{says-directory}
use Rattle.types.specs.declared.NodeRecord.{NodeRecord}
use Rattle.paths.specs.Path.{name_allowed}
use Rattle.volume.specs.declared.ChunkRow.{ChunkRow}
use Rattle.volume.specs.Rows.{Entry, read_node, read_entry, read_chunk}
use Rattle.volume.specs.Volume.{Names}
use Rattle.volume.specs.Search.{pair_before}
use Rattle.volume.specs.Sound.{node, DirectoryThere, naming, node_before, entry_before, chunk_before}
use Rattle.volume.proofs.PairOrder.{says-pair, pair-trans}
use Rattle.tables.specs.Tables.{node_at}
use Rattle.soundness.specs.OrderRules.{nodes_ascend, entries_ascend, chunks_ascend, nodes_below, rooted, entry_numbered, entries_numbered}

-- ---- orders

pub says-node-order : (rs : List NodeRecord) → Says (Asc node_before rs) (nodes_ascend rs)
unfolding nodes_ascend
says-node-order rs = asc-places (read_node []) node_before (λ a b c h k. omega arith) (λ a b. ltb a.node b.node) (λ a b. says-ltb a.node b.node) rs

pub says-entry-order : (es : List Entry) → Says (Asc entry_before es) (entries_ascend es)
unfolding entries_ascend
says-entry-order es =
    asc-places (read_entry []) entry_before (λ a b c h k. pair-trans a.parent a.index b.parent b.index c.parent c.index h k)
    (λ a b. pair_before a.parent a.index b.parent b.index) (λ a b. says-pair a.parent a.index b.parent b.index) es

pub says-chunk-order : (cs : List ChunkRow) → Says (Asc chunk_before cs) (chunks_ascend cs)
unfolding chunks_ascend
says-chunk-order cs =
    asc-places (read_chunk []) chunk_before (λ a b c h k. pair-trans a.node a.index b.node b.index c.node c.index h k)
    (λ a b. pair_before a.node a.index b.node b.index) (λ a b. says-pair a.node a.index b.node b.index) cs

-- ---- what holds of each row

pub says-below : (next : ℕ) (rs : List NodeRecord) → Says (Each (λ r. r.node < next) rs) (nodes_below next rs)
unfolding nodes_below
says-below next rs = each-places (λ r. r.node < next) (read_node []) (λ r. ltb r.node next) (λ r. says-ltb r.node next) rs

-- ---- node 0

-- behind a row of an ascending table no row is node 0
not_behind : (r : NodeRecord) (rs : List NodeRecord) → Each (node_before r) rs → Each (λ s. eqb s.node 0 ≡ false) rs
not_behind r rs a = each_map (node_before r) (λ s. eqb s.node 0 ≡ false) (λ s k. ne_eqb s.node 0 (λ e. omega arith)) rs a

found-root : (rs : List NodeRecord) → Asc node_before rs → Says (DirectoryThere (find (λ r. eqb r.node 0) rs)) (rooted rs)
unfolding rooted both find pick Asc
found-root [] a = fails (λ z. z)
found-root (r ∷ rs) a = go (leb 1 (length (r ∷ rs))) (le-leb 1 (length (r ∷ rs)) (omega arith)) (eqb r.node 0) refl
  where
    go : (t : Bool) → t ≡ true → (b : Bool) → eqb r.node 0 ≡ b → Says (DirectoryThere (pick b (some r) (find (λ s. eqb s.node 0) rs))) (both t (both b (is_directory r.kind)))
    go false e b q = absurd (false≢true e)
    go true e true q = says-directory r.kind
    go true e false q = fails (λ z. let w : DirectoryThere (find (λ s. eqb s.node 0) rs) = z in rw (find_none (λ s. eqb s.node 0) rs (not_behind r rs a.0)) at w)

pub says-root : (a : Names) → Asc node_before a.nodes → Says (DirectoryThere (node 0 a)) (rooted a.nodes)
unfolding node
says-root a o = found-root a.nodes o

-- ---- entries

-- what is asked of each
abbrev pub Numbered : Entry → Type 0
Numbered e = (1 ≤ e.index) × (eqb e.node 0 ≡ false) × (name_allowed e.name ≡ true)

says-one : (e : Entry) → Says (Numbered e) (entry_numbered e)
unfolding entry_numbered
says-one e =
    says_map (λ p. (p.0, p.1.0, p.1.1)) (λ n. (n.0, (n.1, n.2)))
    (says_both (says-leb 1 e.index) (says_both (says-opposite (eqb e.node 0)) (says-itself (name_allowed e.name))))

pub says-numbered : (es : List Entry) → Says (Each (λ e. 1 ≤ e.index) es × (naming 0 es ≡ 0) × Each (λ e. name_allowed e.name ≡ true) es) (entries_numbered es)
unfolding entries_numbered naming
says-numbered es = says_map apart joined (each-places Numbered (read_entry []) entry_numbered says-one es)
  where
    apart : Each Numbered es → Each (λ e. 1 ≤ e.index) es × (times (λ e. eqb e.node 0) es ≡ 0) × Each (λ e. name_allowed e.name ≡ true) es
    apart h = (each_map Numbered _ (λ e k. k.0) es h, none_pass (λ e. eqb e.node 0) es (each_map Numbered _ (λ e k. k.1) es h), each_map Numbered _ (λ e k. k.2) es h)

    joined : Each (λ e. 1 ≤ e.index) es × (times (λ e. eqb e.node 0) es ≡ 0) × Each (λ e. name_allowed e.name ≡ true) es → Each Numbered es
    joined h =
        each_map _ Numbered (λ e k. (k.0, k.1.0, k.1.1)) es
        (each-pair (λ e. 1 ≤ e.index) (λ e. (eqb e.node 0 ≡ false) × (name_allowed e.name ≡ true)) es h.0
        (each-pair (λ e. eqb e.node 0 ≡ false) (λ e. name_allowed e.name ≡ true) es (pass-none (λ e. eqb e.node 0) es h.1) h.2))

-- ---- the number that was read

pub below_as : (rs : List NodeRecord) {m n : ℕ} {b : Bool} → m ≡ n → b ≡ upto (length rs) (λ i. ltb (node_at rs i).node m) → b ≡ nodes_below n rs
unfolding nodes_below
below_as rs {m} {n} e h = h ∙ ap (λ (k : ℕ). upto (length rs) (λ i. ltb (node_at rs i).node k)) e
