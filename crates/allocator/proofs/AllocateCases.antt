-- The two ways of an allocation: with no pointer free the next new one, otherwise the last that was freed.
-- Assumes nothing.
use mathlib.Core.Path.{◌≡◌, refl, sym}
use mathlib.Core.Bool.{Bool, true, false}
use lib.Dec.{eqb}
use borrow.Author.Tests.{eq-eqb, ne_eqb}
use Rattle.words.specs.Rules.{pick, Says, holds, fails}
use Rattle.words.proofs.Rules.{says-eqb, pick_true, pick-false}
use Rattle.allocator.specs.Allocator.{Allocator, Allocation, allocate, grown, reused}

pub data Way (a : Allocator) : Allocation → Type 0 where
  new : a.free_count ≡ 0 → Way a (grown a)
  last : (a.free_count ≡ 0 → ⊥) → Way a (reused a)

pub way : (a : Allocator) → Way a (allocate a)
unfolding allocate pick
way a = go (eqb a.free_count 0) (says-eqb a.free_count 0)
  where
    go : (b : Bool) → Says (a.free_count ≡ 0) b → Way a (pick b (grown a) (reused a))
    go true (holds e) = new e
    go false (fails e) = last e

pub takes-new : (a : Allocator) → a.free_count ≡ 0 → allocate a ≡ grown a
unfolding allocate
takes-new a e = sym (pick_true _ (grown a) (reused a) _ (eq-eqb _ _ e) refl)

pub takes-last : (a : Allocator) → (a.free_count ≡ 0 → ⊥) → allocate a ≡ reused a
unfolding allocate
takes-last a h = sym (pick-false _ (grown a) (reused a) _ (ne_eqb _ _ h) refl)
