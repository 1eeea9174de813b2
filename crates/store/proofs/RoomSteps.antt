-- How much room there is for new chunks, and how many a write needs, as code counts them.
-- Assumes nothing.
use mathlib.Core.Path.{◌≡◌, refl, sym, ◌∙◌}
use mathlib.Core.Bool.{Bool, true, false}
use Prim.Native.Nat.{ℕ, ◌+◌, ◌-◌, ◌/◌, min, ◌≤◌, ◌<◌}
use native.Mathlib.Nat.{div-lt_iff_lt-mul}
use native.Mathlib.Omega.{arith}
use lib.Dec.{ltb}
use lib.ListN.{length}
use borrow.Author.Tests.{ltb-true, ltb-false, lt-ltb, le-ltb}
use Rattle.volume.specs.Volume.{Store}
use Rattle.store.specs.Room.{room, missing, num_of, holes}

pub room-is : (v : Store) {c rows area next free s r : ℕ} → c ≡ v.chunk_room → rows ≡ length v.chunks → area ≡ length v.bytes → next ≡ v.allocator.next_ptr → free ≡ v.allocator.free_count → s ≡ v.allocator.chunk_size
    → r ≡ min (c - rows) (free + (area - next) / s) → r ≡ room v
unfolding room
room-is v ec er ea en ef es h = h ∙ rw (ec, er, ea, en, ef, es)

-- the holes that a write meets
pub holes-are : (v : Store) (n offset count : ℕ) {s t b : ℕ} → s ≡ v.allocator.chunk_size → t ≡ num_of s offset count → b ≡ missing n t (offset / s) v.chunks → b ≡ holes n offset count v
unfolding holes
holes-are v n offset count es et eb = rw (eb, et, es)

-- their number is no great one
pub room_small : (area s free : ℕ) → area < 18446744073709551616 → 4096 ≤ s → free ≤ 4096 → free + area / s < 18446744073709551616
room_small area s free h k f =
    let pos : 0 < s = omega arith in
    let q : area / s < 4503599627370496 = (div-lt_iff_lt-mul pos).1 (omega arith) in
    omega arith

-- a limit below the end of a write, without the end
pub past-limit : (limit offset count : ℕ) → offset ≤ limit → ltb (limit - offset) count ≡ ltb limit (offset + count)
past-limit limit offset count h = go (ltb (limit - offset) count) refl
  where
    go : (b : Bool) → ltb (limit - offset) count ≡ b → b ≡ ltb limit (offset + count)
    go true e = sym (lt-ltb limit (offset + count) (omega (arith, ltb-true (limit - offset) count e)))
    go false e = sym (le-ltb limit (offset + count) (omega (arith, ltb-false (limit - offset) count e)))
