-- What writes into a volume do: one area changes, and nothing else.
-- Assumes nothing.
use mathlib.Core.Path.{◌≡◌, ◌∙◌}
use mathlib.Core.List.{List}
use Prim.Native.Nat.{ℕ, ◌+◌, ◌≤◌}
use native.Mathlib.Omega.{arith}
use lib.ListN.{length, drop}
use Rattle.words.specs.Bytes.{over, spell}
use Rattle.words.proofs.Written.{over-all}
use Rattle.words.proofs.Tables.{put_word, over-joined}
use Rattle.allocator.specs.Allocator.{Allocator, lay_allocator}
use Rattle.volume.specs.Volume.{Volume, heads, areas, laid, at_bytes, with_next_node, with_allocator, with_bytes, on_names, on_store}
use Rattle.volume.proofs.Laid.{Spaced, length-allocator, starts}
use Rattle.allocator.proofs.Laid as AllocatorLaid

-- a write on bytes that are known to be x
pub onto : (x : List ℕ) (at : ℕ) (bs : List ℕ) {l m y : List ℕ} → l ≡ x → m ≡ over l at bs → over x at bs ≡ y → m ≡ y
onto x at bs el em e = em ∙ rw el e

-- the next node written
pub write-next : (v : Volume) (x : ℕ) → over (laid v) 56 (spell 8 x) ≡ laid (on_names (with_next_node x) v)
unfolding laid
write-next v x = put_word (heads v) (drop 1 (areas v)) 7 x (omega arith)

module _ (v : Volume) (f : Spaced v) where
  -- the allocator's part written
  pub write-allocator : (a : Allocator) → length a.unread ≡ 12 → length a.words ≡ v.store.chunk_room → over (laid v) 64 (lay_allocator a) ≡ laid (on_store (with_allocator a) v)
  unfolding laid
  write-allocator a t w =
      let n : length (lay_allocator v.store.allocator) ≡ length (lay_allocator a) = omega (arith, length-allocator v f, AllocatorLaid.length-laid a t) in
      over-joined (areas v) 1 64 0 (omega arith) (omega (arith, (starts v f).allocator)) (lay_allocator a) (omega arith)
      ∙ rw (over-all (lay_allocator v.store.allocator) (lay_allocator a) n)

  -- bytes of the chunk area written
  pub write_bytes : (p at : ℕ) (bs : List ℕ) → p + length bs ≤ length v.store.bytes → at ≡ at_bytes v.names.node_room v.names.entry_room v.store.chunk_room + p → over (laid v) at bs ≡ laid (on_store (with_bytes (over v.store.bytes p bs)) v)
  unfolding laid
  write_bytes p at bs h e = over-joined (areas v) 5 at p (omega arith) (omega (arith, (starts v f).bytes)) bs h
