-- What open finds and leaves, from what it read and wrote.
-- Assumes nothing.
use Rattle.std.specs.Prelude.{Ok}
use mathlib.Core.Path.{◌≡◌, refl, sym, ◌∙◌}
use mathlib.Core.Bool.{Bool, true, false}
use mathlib.Core.List.{List}
use Prim.Native.Nat.{ℕ, ◌≤◌, ◌<◌}
use lib.Count.{ones}
use lib.Dec.{eqb}
use lib.ListN.{length}
use borrow.Author.Tests.{eq-eqb, ne_eqb, eqb-true, eqb-false, lt-ltb, le-ltb}
use Rattle.words.specs.Bytes.{over, spell, num, word}
use Rattle.words.specs.Rules.{pick}
use Rattle.words.proofs.Rules.{pick_true, pick-false, done, or_else}
use Rattle.words.proofs.Powers.{power-ones}
use Rattle.types.specs.Outcomes.{outcome, refused}
use Rattle.types.specs.declared.Error.TheVariants.{UnsoundMemory, InvalidArgument}
use Rattle.allocator.specs.Sizes.{accepted_size, default_size}
use Rattle.allocator.specs.Allocator.{marker}
use Rattle.allocator.specs.Opening.{new_mark, old_mark, mark_known, size_meant, size_allowed, openable, mark_renewed, size_renewed, opened}
use Rattle.allocator.proofs.Sizes.{accepted-one}

module _ (l : List ℕ) where
  -- ---- the marker: x is what the first four bytes spell

  pub mark-new : {x : ℕ} → x ≡ num 4 l 0 → x ≡ new_mark → true ≡ mark_known l
  unfolding mark_known
  mark-new e h = done _ _ (rw (← e) (eq-eqb _ _ h))

  pub mark-other : {x : ℕ} → x ≡ num 4 l 0 → (x ≡ new_mark → ⊥) → eqb x old_mark ≡ mark_known l
  unfolding mark_known
  mark-other e h = or_else _ _ (rw (← e) (ne_eqb _ _ h)) (rw e)

  pub mark-renewed : {x : ℕ} {m : List ℕ} → x ≡ num 4 l 0 → x ≡ old_mark → m ≡ over l 0 (spell 8 marker) → m ≡ mark_renewed l
  unfolding mark_renewed
  mark-renewed e h q = pick_true _ _ _ _ (rw (← e) (eq-eqb _ _ h)) q

  pub mark-kept : {x : ℕ} → x ≡ num 4 l 0 → (x ≡ old_mark → ⊥) → l ≡ mark_renewed l
  unfolding mark_renewed
  mark-kept e h = pick-false _ _ _ _ (rw (← e) (ne_eqb _ _ h)) refl

  -- ---- the size: x is the size word

  pub size-default : {x : ℕ} → x ≡ word l 8 → x ≡ 0 → default_size ≡ size_meant l
  unfolding size_meant
  size-default e h = pick_true _ _ _ _ (rw (← e) (eq-eqb _ _ h)) refl

  pub size-stored : {x : ℕ} → x ≡ word l 8 → (x ≡ 0 → ⊥) → x ≡ size_meant l
  unfolding size_meant
  size-stored e h = pick-false _ _ _ _ (rw (← e) (ne_eqb _ _ h)) e

  pub sized-none : {x y : ℕ} → x ≡ word l 8 → x ≡ 0 → y ≡ word l 24 → eqb y 0 ≡ size_allowed l
  unfolding size_allowed
  sized-none e h n = pick_true _ _ _ _ (rw (← e) (eq-eqb _ _ h)) (rw n)

  pub sized-some : {x : ℕ} {r : Bool} → x ≡ word l 8 → (x ≡ 0 → ⊥) → r ≡ accepted_size x → r ≡ size_allowed l
  unfolding size_allowed
  sized-some e h n = pick-false _ _ _ _ (rw (← e) (ne_eqb _ _ h)) (rw (← e) n)

  pub size-renewed : {x : ℕ} {m : List ℕ} → x ≡ word l 8 → x ≡ 0 → m ≡ over l 8 (spell 8 default_size) → m ≡ size_renewed l
  unfolding size_renewed
  size-renewed e h q = pick_true _ _ _ _ (rw (← e) (eq-eqb _ _ h)) q

  pub size-kept : {x : ℕ} → x ≡ word l 8 → (x ≡ 0 → ⊥) → l ≡ size_renewed l
  unfolding size_renewed
  size-kept e h = pick-false _ _ _ _ (rw (← e) (ne_eqb _ _ h)) refl

  -- a size that is meant has one bit set
  pub meant_one : {s : ℕ} → s ≡ size_meant l → size_allowed l ≡ true → ones s ≡ 1
  unfolding size_meant size_allowed pick
  meant_one {s} e h = go (eqb (word l 8) 0) refl
    where
      go : (t : Bool) → eqb (word l 8) 0 ≡ t → ones s ≡ 1
      go true z = rw (e ∙ sym (size-default refl (eqb-true _ _ z))) (power-ones 14)
      go false z = rw (e ∙ sym (size-stored refl (eqb-false _ _ z))) (accepted-one (word l 8) (sized-some refl (eqb-false _ _ z) refl ∙ h))

  -- ---- the outcome

  pub open-short : length l < 128 → refused InvalidArgument l ≡ opened l
  unfolding opened
  open-short h = pick_true _ _ _ _ (lt-ltb _ _ h) refl

  pub open-unsound : 128 ≤ length l → openable l ≡ false → refused UnsoundMemory l ≡ opened l
  unfolding opened
  open-unsound h e = pick-false _ _ _ _ (le-ltb _ _ h) (pick-false _ _ _ _ e refl)

  pub open_done : {m n : List ℕ} → 128 ≤ length l → openable l ≡ true → m ≡ mark_renewed l → n ≡ size_renewed m → outcome (Ok 0) n ≡ opened l
  unfolding opened
  open_done h e p q = pick-false _ _ _ _ (le-ltb _ _ h) (pick_true _ _ _ _ e (rw (q, p)))
