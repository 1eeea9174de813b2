-- A file's size set, its chunks written or cut before: the volume stays good, and its tables fit. Over any chunk size.
-- Assumes nothing.
use mathlib.Core.Path.{◌≡◌, refl, sym, subst, ◌∙◌}
use mathlib.Core.Bool.{Bool, true, false}
use mathlib.Core.Option.{Option, none, some}
use Prim.Native.Nat.{ℕ, ◌*◌, ◌≤◌, ◌<◌}
use lib.Dec.{eqb}
use Rattle.words.specs.Rules.{Says, holds, fails}
use Rattle.words.proofs.Rules.{says-eqb}
use Rattle.types.specs.Nodes.{file_limit}
use Rattle.types.specs.declared.FileType.TheVariants.{Directory}
use Rattle.types.specs.declared.NodeRecord.{NodeRecord}
use Rattle.volume.specs.declared.ChunkRow.{ChunkRow}
use Rattle.volume.specs.Volume.{Names, Store, Volume}
use Rattle.volume.specs.Framed.{StoreFits, Fits}
use Rattle.volume.specs.Sound.{Good, node}
use Rattle.volume.specs.Steps.{with_node}
use Rattle.volume.proofs.Rounding.{up_lt}
use Rattle.tables.specs.OneRow.{sized, chunk}
use Rattle.store.specs.Content.{byte_at}
use Rattle.store.specs.Workable.{Workable}
use Rattle.tables.proofs.ChangedNames.{Stands, named-changed, fits-changed, node-here, node-other}
use Rattle.store.proofs.OwnedContent.{Reaches, Reached, owned-reached, owned-of}

-- a store t made of s by changing chunks of node n alone, so that its size can be z: all its chunks start below z, and it shows zeros from
-- z on
pub record Reshaped (s t : Store) (n z : ℕ) : Type 0 where
  pub size : t.allocator.chunk_size ≡ s.allocator.chunk_size
  pub workable : Workable t
  pub fits : StoreFits t
  pub rows : (m k : ℕ) → (m ≡ n → ⊥) → chunk m k t.chunks ≡ chunk m k s.chunks
  pub bytes : (m j : ℕ) → (m ≡ n → ⊥) → byte_at t m j ≡ byte_at s m j
  pub below : (k : ℕ) (c : ChunkRow) → chunk n k t.chunks ≡ some c → k * s.allocator.chunk_size < z
  pub above : (j : ℕ) → z ≤ j → byte_at t n j ≡ 0

-- the names with the size, the store with the chunks
abbrev pub reshaped : ℕ → ℕ → Store → Volume → Volume
reshaped n z t v = record { names = with_node n (sized z) v.names; store = t }

module _ (v : Volume) (t : Store) (n z : ℕ) (s : Reshaped v.store t n z) (f : Fits v) (g : Good v) (r : NodeRecord) (there : node n v.names ≡ some r) (file : r.kind ≡ Directory → ⊥) where
  abbrev a : Names
  a = with_node n (sized z) v.names

  pos : 0 < v.store.allocator.chunk_size
  pos = rw s.size at s.workable.size

  keeps : (b : NodeRecord) → (sized z b).node ≡ b.node
  keeps b = refl

  -- a chunk of node n
  here : (k : ℕ) (c : ChunkRow) → chunk n k t.chunks ≡ some c → Reached t n k (node n a)
  here k c e =
      let h : Reaches t n k (sized z r) = record { file = file; below = rw s.size (up_lt v.store.allocator.chunk_size z k pos (s.below k c e)); zeros = s.above } in
      subst (Reached t n k) (sym (node-here n (sized z) keeps r v.names there)) h

  -- a chunk of another node is as it was
  other : (m k : ℕ) (c : ChunkRow) → (m ≡ n → ⊥) → chunk m k t.chunks ≡ some c → Reached t m k (node m a)
  other m k c h e = subst (Reached t m k) (sym (node-other n (sized z) keeps r v.names there m h)) (go (node m v.names) (owned-reached v.names v.store pos g.owned m k c (sym (s.rows m k h) ∙ e)))
    where
      go : (x : Option NodeRecord) → Reached v.store m k x → Reached t m k x
      go none b = b
      go (some d) b = record { file = b.file; below = rw s.size b.below; zeros = λ j i. s.bytes m j h ∙ b.zeros j i }

  reached : (m k : ℕ) (c : ChunkRow) → chunk m k t.chunks ≡ some c → Reached t m k (node m a)
  reached m k c e = go (eqb m n) (says-eqb m n)
    where
      go : (b : Bool) → Says (m ≡ n) b → Reached t m k (node m a)
      go true (holds q) = rw q (here k c (rw q at e))
      go false (fails q) = other m k c q e

  pub sized-kept : z ≤ file_limit r.limit → Fits (reshaped n z t v) × Good (reshaped n z t v)
  sized-kept within =
      let w : Stands r (sized z r) = record { file = file; node = refl; kind = refl; links = refl; size = within } in (
        record { names = fits-changed n (sized z) keeps r v.names there w g.named (λ h. h) f.names; store = s.fits },
        record { named = named-changed n (sized z) keeps r v.names there w g.named; stored = s.workable.stored; owned = owned-of a t s.workable.size s.workable.stored.order reached },
      )
