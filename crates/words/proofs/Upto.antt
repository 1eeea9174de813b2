-- Laws of a range's `all`: a test asked of every number below n.
-- Assumes nothing.
use mathlib.Core.Path.{◌≡◌, refl, sym, ◌∙◌, subst}
use mathlib.Core.Bool.{Bool, true, false}
use mathlib.Core.List.{List, [], ◌∷◌}
use Prim.Native.Nat.{ℕ, ◌≤◌, ◌<◌}
use native.Mathlib.Omega.{arith}
use denote.Param.Members.{Mut, Called}
use Rattle.std.specs.Iterator.{ChecksAll, Yields}
use Rattle.std.specs.List.{FoldsTo}
use Rattle.std.specs.Prelude.{Option, None, Some, MatchOption}
use Rattle.std.specs.declared.ops.Range.{Range}
use Rattle.std.proofs.iter.Yields.{nat_range_steps}
use Rattle.words.specs.Rules.{upto}
use Rattle.words.proofs.Rules.{upto-start, upto_turn, upto-fail}

module _ {F : Type 0} (g : Mut F (ℕ × Unit {0}) Bool) (f : F) (t : ℕ → Bool) (n : ℕ) where
  -- a call below n answers as t does, and leaves the test that was called as it was
  abbrev pub Computes : Type 0
  Computes = (i : ℕ) (b : Bool) (q : F) → i < n → Called g f (i, tt) b q → (q ≡ f) × (b ≡ t i)

  -- what is left of a range up to n, where t passes below its start
  abbrev Left : Range ℕ → Type 0
  Left s = (s.end ≡ n) × (s.start ≤ n) × (upto s.start t ≡ true)

  turn : (s j : Range ℕ) (x : ℕ) → Left s → nat_range_steps s (Some x) j → t x ≡ true → Left j
  turn s j x w k e = (k.0 ∙ w.0, omega (arith, w.0, k.1.0, k.1.2), rw k.1.2 (upto_turn t s.start w.2 (rw k.1.1 at e)))

  module _ (same : Computes) (r : Bool) where
    -- how the calls ended, at what came last
    abbrev Ends : F → Option ℕ → Type 0
    Ends p o = MatchOption o (r ≡ true) (λ x. (r ≡ false) × ((h : F) × Called g p (x, tt) false h))

    last : (s u : Range ℕ) (o : Option ℕ) → Left s → nat_range_steps s o u → Ends f o → r ≡ upto n t
    last s u None w k d = let e : s.start ≡ n = omega (arith, w.0, w.1, k.1.0) in d ∙ sym (rw e at w.2)
    last s u (Some x) w k d = let below : x < n = omega (arith, w.0, k.1.0, k.1.1) in d.0 ∙ upto-fail t n x below (sym (same x false d.1.0 below d.1.1).1)

    rest : (xs : List ℕ) (s z u : Range ℕ) (o : Option ℕ) (p q : F)
        → Left s → p ≡ f → Yields nat_range_steps s xs z → nat_range_steps z o u → FoldsTo (λ p x q. Called g p (x, tt) true q) p xs q → Ends q o → r ≡ upto n t
    rest [] s z u o p q w e y k c d = last s u o w (subst (λ v. nat_range_steps v o u) (sym y) k) (subst (λ v. Ends v o) (sym c ∙ e) d)
    rest (x ∷ xs) s z u o p q w e y k c d =
        let one = same x true c.0 (omega (arith, w.0, y.1.1.0, y.1.1.1)) (subst (λ v. Called g v (x, tt) true c.0) e c.1) in
        rest xs y.0 z u o c.0 q (turn s y.0 x w y.1 (sym one.1)) one.0 y.2 k c.2 d

-- what `(0..m).all(..)` answers, where m is n, and the test computes t
pub upto_from_all : {F : Type 0} {g : Mut F (ℕ × Unit {0}) Bool} {f : F} {m n : ℕ} {u : Range ℕ} {t : ℕ → Bool} {r : Bool}
    → ChecksAll nat_range_steps g (record { start = 0; end = m }) f r u → m ≡ n → Computes g f t n → r ≡ upto n t
upto_from_all {g = g} {f} {m} {n} {u} {t} {r} c e same =
    rest g f t n same r c.0 (record { start = 0; end = m }) c.3.0 u c.1 f c.2 (e, omega arith, upto-start t) refl c.3.1 c.3.2 c.4 c.5
