-- Where the chunks of a good store's rows lie: each pointer is a multiple of the chunk size below word 3, so that its chunk lies in the
-- chunk area. Over any chunk size.
-- Assumes nothing.
use mathlib.Core.List.{List, [], map}
use Prim.Native.Nat.{ℕ, ◌+◌, ◌≤◌, ◌<◌}
use native.Mathlib.Omega.{arith}
use lib.ListN.{length}
use Rattle.words.specs.Tables.{Each}
use Rattle.words.proofs.Order.{each_at, each_map}
use Rattle.words.proofs.Multiples.{gap}
use Rattle.words.proofs.FoundRows.{counted}
use Rattle.words.proofs.Places.{places-each}
use Rattle.allocator.specs.Pointers.{Accounted, Due}
use Rattle.allocator.proofs.Accounts.{live-once}
use Rattle.volume.specs.declared.ChunkRow.{ChunkRow}
use Rattle.volume.specs.Rows.{read_chunk}
use Rattle.volume.specs.Volume.{Store}
use Rattle.volume.specs.Sound.{Stored}
use Rattle.tables.specs.Tables.{chunk_at}

-- the pointers of a store's rows
abbrev pub live : Store → List ℕ
live v = map (λ c. c.pointer) v.chunks

-- a row's chunk lies in the chunk area
abbrev pub Inside : Store → ChunkRow → Type 0
Inside v c = c.pointer + v.allocator.chunk_size ≤ length v.bytes

module _ (v : Store) (st : Stored v) where
  pub stored-accounted : Accounted v.allocator (live v)
  unfolding Accounted
  stored-accounted = st.pointers

  pub rows-due : Each (λ c. Due v.allocator.chunk_size v.allocator.next_ptr c.pointer) v.chunks
  rows-due =
      places-each (λ c. Due v.allocator.chunk_size v.allocator.next_ptr c.pointer) (read_chunk []) v.chunks
      (λ i h. (live-once v.allocator (live v) (chunk_at v.chunks i).pointer stored-accounted (counted (λ c. c.pointer) (read_chunk []) v.chunks i h)).2)

  module _ (pos : 0 < v.allocator.chunk_size) where
    pub rows_inside : Each (Inside v) v.chunks
    rows_inside = each_map _ _ (λ c d. omega (arith, st.inside, gap v.allocator.chunk_size c.pointer v.allocator.next_ptr pos d.lined st.lined d.low)) v.chunks rows-due

    pub row_inside : (i : ℕ) → i < length v.chunks → Inside v (chunk_at v.chunks i)
    row_inside i h = each_at (Inside v) v.chunks i (read_chunk []) rows_inside h
