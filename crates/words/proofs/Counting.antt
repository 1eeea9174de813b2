-- Laws of `bit`, `times`, `count` and `tally`.
-- Assumes nothing.
use mathlib.Core.Path.{◌≡◌, refl, sym, ap, ◌∙◌}
use mathlib.Core.Bool.{Bool, true, false}
use mathlib.Core.List.{List, [], ◌∷◌, ◌++◌, map}
use Prim.Native.Nat.{ℕ, zero, suc, ◌+◌, ◌≤◌, ◌<◌}
use native.Mathlib.Nat.{not-suc-le-zero, zero-add}
use native.Mathlib.Decide.{dec_lt}
use native.Mathlib.Omega.{arith}
use lib.Dec.{eqb}
use lib.ListN.{length}
use borrow.Author.Tests.{eq-eqb, ne_eqb}
use Rattle.words.specs.Rules.{bit, times, count}
use Rattle.words.specs.Tests.{tally}
use Rattle.words.specs.Tables.{Each}

pub bit-same : (p : ℕ) → bit (eqb p p) ≡ 1
unfolding bit
bit-same p = rw (eq-eqb p p refl)

pub bit-apart : (q p : ℕ) → (q ≡ p → ⊥) → bit (eqb q p) ≡ 0
unfolding bit
bit-apart q p h = rw (ne_eqb q p h)

-- as code finds it: of a number x that a callee gave for y
pub bit-one : {x y n : ℕ} → x ≡ y → x ≡ n → 1 ≡ bit (eqb y n)
unfolding bit
bit-one e h = rw (← e, eq-eqb _ _ h)

pub bit-none : {x y n : ℕ} → x ≡ y → (x ≡ n → ⊥) → 0 ≡ bit (eqb y n)
unfolding bit
bit-none e h = rw (← e, ne_eqb _ _ h)

pub bit-most : (b : Bool) → bit b ≤ 1
unfolding bit
bit-most true = omega arith
bit-most false = omega arith

module _ {R : Type 0} (f : R → Bool) where
  pub times-append : (a b : List R) → times f (a ++ b) ≡ times f a + times f b
  unfolding times
  times-append [] b = sym (zero-add (times f b))
  times-append (r ∷ a) b = omega (arith, times-append a b)

  pub times-most : (l : List R) → times f l ≤ length l
  unfolding times
  times-most [] = omega arith
  times-most (r ∷ l) = omega (arith, times-most l, bit-most (f r))

  -- nothing is counted where nothing passes, and the other way round
  pub none_pass : (l : List R) → Each (λ r. f r ≡ false) l → times f l ≡ 0
  unfolding Each times bit
  none_pass [] h = refl
  none_pass (r ∷ l) h = rw (h.0, none_pass l h.1)

  pub pass-none : (l : List R) → times f l ≡ 0 → Each (λ r. f r ≡ false) l
  unfolding Each times bit
  pass-none [] h = tt
  pass-none (r ∷ l) h = go (f r) refl h (pass-none l)
    where
      go : (b : Bool) → f r ≡ b → bit b + times f l ≡ 0 → (times f l ≡ 0 → Each (λ s. f s ≡ false) l) → (f r ≡ false) × Each (λ s. f s ≡ false) l
      go true e z k = absurd (omega arith)
      go false e z k = (e, k (omega arith))

pub count-cons : (p q : ℕ) (l : List ℕ) → count p (q ∷ l) ≡ bit (eqb q p) + count p l
unfolding count times
count-cons p q l = refl

pub count-append : (p : ℕ) (a b : List ℕ) → count p (a ++ b) ≡ count p a + count p b
unfolding count
count-append p a b = times-append (λ q. eqb q p) a b

pub count_none : (p : ℕ) → count p [] ≡ 0
unfolding count times
count_none p = refl

-- a list in which nothing stands
pub none-counted : (l : List ℕ) → ((p : ℕ) → count p l ≡ 0) → l ≡ []
unfolding count times bit
none-counted [] h = refl
none-counted (q ∷ l) h =
    let e : eqb q q ≡ true = eq-eqb q q refl in
    let k = rw e at (h q) in
    absurd (omega (arith, k))

pub count-snoc : (p q : ℕ) (l : List ℕ) → count p (l ++ (q ∷ [])) ≡ bit (eqb q p) + count p l
count-snoc p q l = count-append p l (q ∷ []) ∙ omega (arith, count-cons p q [], count_none p)

-- rows whose number is p
pub count_map : {R : Type 0} (f : R → ℕ) (p : ℕ) (rs : List R) → times (λ r. eqb (f r) p) rs ≡ count p (map f rs)
unfolding times count
count_map f p [] = refl
count_map f p (r ∷ rs) = ap (λ (k : ℕ). bit (eqb (f r) p) + k) (count_map f p rs)

-- none of n places passes, or one does, or two do
pub tally-none : (f : ℕ → Bool) (n : ℕ) → ((i : ℕ) → i < n → f i ≡ false) → tally n f ≡ 0
unfolding tally bit
tally-none f zero h = refl
tally-none f (suc n) h = rw (tally-none f n (λ i b. h i (omega arith)), h n (omega arith))

pub tally-some : (f : ℕ → Bool) (n i : ℕ) → i < n → f i ≡ true → 1 ≤ tally n f
unfolding tally bit
tally-some f zero i h e = absurd (not-suc-le-zero h)
tally-some f (suc n) i h e = here (dec_lt i n) (λ b. tally-some f n i b e)
  where
    here : Dec (i < n) → (i < n → 1 ≤ tally n f) → 1 ≤ tally n f + bit (f n)
    here (yes b) k = omega (arith, k b)
    here (no b) k = let q : i ≡ n = omega arith in rw (← q, e) (omega arith)

pub tally-two : (f : ℕ → Bool) (n i j : ℕ) → i < j → j < n → f i ≡ true → f j ≡ true → 2 ≤ tally n f
unfolding tally bit
tally-two f zero i j h k p q = absurd (not-suc-le-zero k)
tally-two f (suc n) i j h k p q = here (dec_lt j n) (λ b. tally-two f n i j h b p q)
  where
    here : Dec (j < n) → (j < n → 2 ≤ tally n f) → 2 ≤ tally n f + bit (f n)
    here (yes b) g = omega (arith, g b)
    here (no b) g = let e : j ≡ n = omega arith in rw (← e, q) (omega (arith, tally-some f j i h p))
