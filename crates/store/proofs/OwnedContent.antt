-- Whose the chunks are, in terms of what the volume shows: a chunk row is of a file that reaches into the chunk, and a file shows zeros at
-- and above its size. Over any chunk size.
-- Assumes nothing.
use mathlib.Core.Path.{◌≡◌, refl, sym, ap, ◌∙◌, subst}
use mathlib.Core.Option.{Option, none, some}
use Prim.Native.Nat.{ℕ, ◌+◌, ◌*◌, ◌/◌, ◌%◌, ◌≤◌, ◌<◌}
use native.Mathlib.Nat.{mod-lt}
use native.Mathlib.Omega.{arith}
use Rattle.words.specs.Tables.{Asc}
use Rattle.words.proofs.Multiples.{parts}
use Rattle.types.specs.declared.FileType.TheVariants.{Directory}
use Rattle.types.specs.declared.NodeRecord.{NodeRecord}
use Rattle.volume.specs.declared.ChunkRow.{ChunkRow}
use Rattle.volume.specs.Volume.{Names, Store}
use Rattle.volume.specs.Sound.{round_up, chunk_before, ChunkOwned, Owned, node, ChunksOwned}
use Rattle.tables.specs.OneRow.{chunk}
use Rattle.store.specs.Content.{byte_in, byte_at}
use Rattle.store.proofs.ChunkPlaces.{row-key, row-each, each_row, row-byte}

-- chunk k of a file: the file reaches into it, and shows zeros from its size on
pub record Reaches (s : Store) (n k : ℕ) (r : NodeRecord) : Type 0 where
  pub file : r.kind ≡ Directory → ⊥
  pub below : k < round_up s.allocator.chunk_size r.size
  pub zeros : (j : ℕ) → r.size ≤ j → byte_at s n j ≡ 0

abbrev pub Reached : Store → ℕ → ℕ → Option NodeRecord → Type 0
Reached s n k none = ⊥
Reached s n k (some r) = Reaches s n k r

module _ (a : Names) (s : Store) (pos : 0 < s.allocator.chunk_size) where
  abbrev S : ℕ
  S = s.allocator.chunk_size

  module _ (o : ChunksOwned a s) where
    row-owned : (n k : ℕ) (c : ChunkRow) → chunk n k s.chunks ≡ some c → Owned S s.bytes c (node n a)
    row-owned n k c e = subst (λ (m : ℕ). Owned S s.bytes c (node m a)) (row-key n k s.chunks c e).0 (row-each (λ d. Owned S s.bytes d (node d.node a)) n k s.chunks c o e)

    -- a node shows zeros from its size on
    pub zero-above : (n j : ℕ) (r : NodeRecord) → node n a ≡ some r → r.size ≤ j → byte_at s n j ≡ 0
    unfolding byte_at
    zero-above n j r q h = go (chunk n (j / S) s.chunks) refl
      where
        go : (c : Option ChunkRow) → chunk n (j / S) s.chunks ≡ c → byte_in s.bytes c (j % S) ≡ 0
        go none e = refl
        go (some c) e =
            let b : c.index * S ≡ j / S * S = ap (λ (k : ℕ). k * S) (row-key n (j / S) s.chunks c e).1 in
            let w : ChunkOwned S s.bytes c r = rw q at (row-owned n (j / S) c e) in
            w.zeros (j % S) (mod-lt j pos) (omega (arith, parts pos j))

    pub owned-reached : (n k : ℕ) (c : ChunkRow) → chunk n k s.chunks ≡ some c → Reached s n k (node n a)
    owned-reached n k c e = go (node n a) refl
      where
        go : (x : Option NodeRecord) → node n a ≡ x → Reached s n k x
        go none q = rw q at (row-owned n k c e)
        go (some r) q =
            let w : ChunkOwned S s.bytes c r = rw q at (row-owned n k c e) in
            record { file = w.file; below = rw (row-key n k s.chunks c e).1 at w.below; zeros = λ j h. zero-above n j r q h }

  -- and the other way round
  pub owned-of : Asc chunk_before s.chunks → ((n k : ℕ) (c : ChunkRow) → chunk n k s.chunks ≡ some c → Reached s n k (node n a)) → ChunksOwned a s
  owned-of order h = each_row (λ c. Owned S s.bytes c (node c.node a)) s.chunks order (λ c e. go c e (node c.node a) (h c.node c.index c e))
    where
      go : (c : ChunkRow) → chunk c.node c.index s.chunks ≡ some c → (x : Option NodeRecord) → Reached s c.node c.index x → Owned S s.bytes c x
      go c e none w = w
      go c e (some r) w = record {
        file = w.file;
        below = w.below;
        zeros = λ i b z. sym (row-byte s c.node c.index c i e b) ∙ w.zeros (c.index * S + i) z;
      }
