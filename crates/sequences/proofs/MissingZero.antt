-- The bytes of a node that has no row are all 0: no chunk belongs to it.
-- Assumes nothing.
use mathlib.Core.Path.{◌≡◌, refl}
use mathlib.Core.Option.{Option, none, some}
use Prim.Native.Nat.{ℕ, ◌/◌, ◌%◌}
use Rattle.volume.specs.declared.ChunkRow.{ChunkRow}
use Rattle.volume.specs.Volume.{Volume}
use Rattle.volume.specs.Sound.{node, Owned, Good}
use Rattle.tables.specs.OneRow.{chunk}
use Rattle.store.specs.Content.{byte_in, byte_at}
use Rattle.store.proofs.ChunkPlaces.{row-key, row-each}

pub missing-zero : (v : Volume) → Good v → (n : ℕ) → node n v.names ≡ none → (j : ℕ) → byte_at v.store n j ≡ 0
unfolding byte_at
missing-zero v g n h j = go (chunk n (j / S) v.store.chunks) refl
  where
    S : ℕ
    S = v.store.allocator.chunk_size

    -- a chunk's node has a row
    unowned : (c : ChunkRow) → chunk n (j / S) v.store.chunks ≡ some c → ⊥
    unowned c e =
        let k = row-each (λ d. Owned S v.store.bytes d (node d.node v.names)) n (j / S) v.store.chunks c g.owned e in
        rw ((row-key n (j / S) v.store.chunks c e).0, h) at k

    go : (o : Option ChunkRow) → chunk n (j / S) v.store.chunks ≡ o → byte_in v.store.bytes o (j % S) ≡ 0
    go none e = refl
    go (some c) e = absurd (unowned c e)
