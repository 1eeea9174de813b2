-- What is shown of one node, and of all others: two volumes show the same file system but for a change of the nodes that differ.
-- Assumes nothing.
use mathlib.Core.Path.{◌≡◌, refl, sym, ap, ◌∙◌, fun_ext}
use mathlib.Core.Bool.{Bool, true, false}
use mathlib.Core.Option.{Option, none, some}
use Prim.Native.Nat.{ℕ}
use lib.Dec.{eqb}
use borrow.Author.Tests.{eq-eqb, ne_eqb}
use Rattle.words.specs.Rules.{pick, Says, holds, fails}
use Rattle.words.proofs.Rules.{says-eqb}
use Rattle.types.specs.declared.NodeRecord.{NodeRecord}
use Rattle.volume.specs.Volume.{Volume}
use Rattle.volume.specs.Sound.{node}
use Rattle.store.specs.Content.{byte_at}
use Rattle.sequences.specs.Fs.{NodeSeen, Fs}
use Rattle.sequences.specs.Show.{names_in, node_seen, seen_if, show}
use Rattle.sequences.specs.Act.{change_at, put_at}

-- ---- equal, field by field

pub seen_same : {x y : NodeSeen} → x.kind ≡ y.kind → x.limit ≡ y.limit → x.links ≡ y.links → x.size ≡ y.size → ((j : ℕ) → x.bytes j ≡ y.bytes j) → x.names ≡ y.names → x ≡ y
seen_same kind limit links size bytes names = λ i. record { kind = kind i; limit = limit i; links = links i; size = size i; bytes = fun_ext bytes i; names = names i }

pub fs-same : {a b : Fs} → a.next ≡ b.next → ((n : ℕ) → a.at n ≡ b.at n) → a ≡ b
fs-same next at = λ i. record { next = next i; at = fun_ext at i }

-- ---- a node changed or put there, and the others

module _ (n : ℕ) (f : NodeSeen → NodeSeen) (fs : Fs) where
  pub change-here : {x : NodeSeen} → fs.at n ≡ some x → (change_at n f fs).at n ≡ some (f x)
  unfolding change_at pick
  change-here h = rw (eq-eqb n n refl, h) refl

  pub change-other : (m : ℕ) → (m ≡ n → ⊥) → (change_at n f fs).at m ≡ fs.at m
  unfolding change_at pick
  change-other m h = rw (ne_eqb m n h) refl

module _ (n : ℕ) (o : Option NodeSeen) (next : ℕ) (fs : Fs) where
  pub put-here : (put_at n o next fs).at n ≡ o
  unfolding put_at pick
  put-here = rw (eq-eqb n n refl) refl

  pub put_other : (m : ℕ) → (m ≡ n → ⊥) → (put_at n o next fs).at m ≡ fs.at m
  unfolding put_at pick
  put_other m h = rw (ne_eqb m n h) refl

-- what holds of node n and of every other one holds of all
pub by-node : (P : ℕ → Type 0) (n : ℕ) → P n → ((m : ℕ) → (m ≡ n → ⊥) → P m) → (m : ℕ) → P m
by-node P n here other m = go (eqb m n) (says-eqb m n)
  where
    go : (t : Bool) → Says (m ≡ n) t → P m
    go true (holds h) = rw h here
    go false (fails h) = other m h

-- ---- what a volume shows

module _ (v : Volume) where
  pub show-there : (n : ℕ) {r : NodeRecord} → node n v.names ≡ some r → (show v).at n ≡ some (node_seen v n r)
  unfolding show
  show-there n h = ap (seen_if v n) h

  pub show-missing : (n : ℕ) → node n v.names ≡ none → (show v).at n ≡ none
  unfolding show
  show-missing n h = ap (seen_if v n) h

-- a node with the same row, bytes and names shows the same
pub shows_same : (v w : Volume) (m : ℕ) → node m w.names ≡ node m v.names → ((j : ℕ) → byte_at w.store m j ≡ byte_at v.store m j) → names_in m w.names.entries ≡ names_in m v.names.entries
    → (show w).at m ≡ (show v).at m
unfolding show
shows_same v w m row bytes names = go (node m v.names) row
  where
    go : (o : Option NodeRecord) → node m w.names ≡ o → seen_if w m (node m w.names) ≡ seen_if v m o
    go none e = ap (seen_if w m) e
    go (some r) e = ap (seen_if w m) e ∙ ap some (seen_same refl refl refl refl bytes names)

-- one node changed
pub shows-changed : (n : ℕ) (f : NodeSeen → NodeSeen) (v w : Volume) (r s : NodeRecord) → w.names.next_node ≡ v.names.next_node → node n v.names ≡ some r → node n w.names ≡ some s → node_seen w n s ≡ f (node_seen v n r)
    → ((m : ℕ) → (m ≡ n → ⊥) → (show w).at m ≡ (show v).at m) → show w ≡ change_at n f (show v)
shows-changed n f v w r s next before after here others =
    fs-same (unfold show change_at in next) (by-node (λ m. (show w).at m ≡ (change_at n f (show v)).at m) n (show-there w n after ∙ ap some here ∙ sym (change-here n f (show v) (show-there v n before)))
    (λ m h. others m h ∙ sym (change-other n f (show v) m h)))
