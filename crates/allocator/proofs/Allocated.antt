-- What an allocation leaves of the allocator, and how many chunks can be taken yet. Over any chunk size.
-- Assumes nothing.
use mathlib.Core.Path.{◌≡◌, refl}
use mathlib.Core.List.{List}
use Prim.Native.Nat.{ℕ, suc, ◌+◌, ◌-◌, ◌*◌, ◌/◌, ◌%◌, ◌≤◌, ◌<◌}
use native.Mathlib.Nat.{le-div_iff_mul-le, div-eq-sub-div}
use native.Mathlib.Omega.{arith}
use lib.ListN.{length}
use lib.Seq.{length-take-le}
use Rattle.words.proofs.Multiples.{whole, step-apart}
use Rattle.allocator.specs.Allocator.{Allocator, Allocation, free, allocate}
use Rattle.allocator.specs.Pointers.{Accounted}
use Rattle.allocator.proofs.AllocateCases.{Way, new, last, way}
use Rattle.allocator.proofs.Counted.{all-pointers}

-- how many chunks an area of so many bytes has yet
abbrev pub left : ℕ → Allocator → ℕ
left area a = a.free_count + (area - a.next_ptr) / a.chunk_size

-- what stays
pub record Rest (a b : Allocator) : Type 0 where
  pub mark : b.mark ≡ a.mark
  pub size : b.chunk_size ≡ a.chunk_size
  pub unread : b.unread ≡ a.unread
  pub words : b.words ≡ a.words

pub allocate-rest : (a : Allocator) → Rest a (allocate a).after
allocate-rest a = go (allocate a) (way a)
  where
    go : (t : Allocation) → Way a t → Rest a t.after
    go t (new e) = record { mark = refl; size = refl; unread = refl; words = refl }
    go t (last e) = record { mark = refl; size = refl; unread = refl; words = refl }

pub allocate-count : (a : Allocator) → (allocate a).after.free_count ≤ a.free_count
allocate-count a = go (allocate a) (way a)
  where
    go : (t : Allocation) → Way a t → t.after.free_count ≤ a.free_count
    go t (new e) = omega arith
    go t (last e) = omega arith

module _ (a : Allocator) (area : ℕ) (pos : 0 < a.chunk_size) (inside : a.next_ptr ≤ area) (some_left : 1 ≤ left area a) where
  -- none is free: there is room for a new one
  new-inside : a.free_count ≡ 0 → a.next_ptr + a.chunk_size ≤ area
  new-inside e =
      let d : 1 * a.chunk_size ≤ area - a.next_ptr = (le-div_iff_mul-le pos).0 (omega arith) in
      omega arith

  pub allocate-inside : (allocate a).after.next_ptr ≤ area
  allocate-inside = go (allocate a) (way a)
    where
      go : (t : Allocation) → Way a t → t.after.next_ptr ≤ area
      go t (new e) = new-inside e
      go t (last e) = inside

  pub allocate-left : suc (left area (allocate a).after) ≡ left area a
  allocate-left = go (allocate a) (way a)
    where
      go : (t : Allocation) → Way a t → suc (left area t.after) ≡ left area a
      go t (new e) =
          let z : area - (a.next_ptr + a.chunk_size) ≡ area - a.next_ptr - a.chunk_size = omega arith in
          rw z (omega (arith, div-eq-sub-div {n = area - a.next_ptr} pos (omega (arith, new-inside e))))
      go t (last e) = omega arith

-- fewer rows than C and no free pointer: word 3 can grow
pub allocate-enough : (a : Allocator) (live : List ℕ) (c : ℕ) → 0 < a.chunk_size → a.next_ptr % a.chunk_size ≡ 0 → a.free_count ≤ length a.words → Accounted a live → length live < c → a.next_ptr ≤ c * a.chunk_size
    → (allocate a).after.next_ptr ≤ c * a.chunk_size
allocate-enough a live c pos lined fits acc h enough = go (allocate a) (way a)
  where
    given : length live + a.free_count ≡ a.next_ptr / a.chunk_size
    given =
        let f : length (free a) ≡ a.free_count = unfold free in length-take-le a.free_count a.words fits in
        omega (arith, all-pointers a live pos lined acc)

    go : (t : Allocation) → Way a t → t.after.next_ptr ≤ c * a.chunk_size
    go t (new e) = omega (arith, step-apart a.chunk_size (a.next_ptr / a.chunk_size) c (omega (arith, given)), whole a.chunk_size a.next_ptr lined)
    go t (last e) = enough
