-- Laws of joined tests: what a loop or a chain of returns says, and what a test means.
-- Assumes nothing.
use mathlib.Core.Path.{◌≡◌, refl, sym, ap, ◌∙◌, subst}
use mathlib.Core.Bool.{Bool, true, false, not, false≢true, true≢false}
use mathlib.Core.Logic.{◌⊎◌, inl, inr}
use mathlib.Core.List.{List, [], ◌∷◌}
use Prim.Native.Nat.{ℕ, zero, suc, ◌+◌, ◌≤◌, ◌<◌}
use native.Mathlib.Nat.{not-suc-le-zero}
use native.Mathlib.Numerals.{add-one}
use native.Mathlib.Omega.{arith}
use native.Mathlib.Decide.{dec_lt}
use lib.Dec.{eqb, ltb, leb}
use borrow.Author.Tests.{eqb-true, eqb-false, ltb-true, ltb-false, leb-true, leb-false, eq-eqb, ne_eqb, le-leb, lt-leb, not-true, not-false}
use lib.ListN.{length, get_or}
use Rattle.words.specs.Rules.{Says, holds, fails, pick, both, either, upto, bit, times}
use Rattle.words.specs.Tests.{tally}
use Rattle.words.proofs.Joined.{both_false}
use Rattle.words.proofs.Counting.{bit-most}

-- ---- a choice

pub pick_true : {A : Type 0} (b : Bool) (x y z : A) → b ≡ true → z ≡ x → z ≡ pick b x y
unfolding pick
pick_true b x y z e h = rw e h

pub pick-false : {A : Type 0} (b : Bool) (x y z : A) → b ≡ false → z ≡ y → z ≡ pick b x y
unfolding pick
pick-false b x y z e h = rw e h

-- ---- a chain of returns

pub stop : (a b : Bool) → a ≡ false → false ≡ both a b
unfolding both
stop a b e = rw e

pub go_on : (a b : Bool) {r : Bool} → a ≡ true → r ≡ b → r ≡ both a b
unfolding both
go_on a b e f = rw e f

pub done : (a b : Bool) → a ≡ true → true ≡ either a b
unfolding either
done a b e = rw e

pub or_else : (a b : Bool) {r : Bool} → a ≡ false → r ≡ b → r ≡ either a b
unfolding either
or_else a b e f = rw e f

-- ---- a loop that returns false at the first that fails

pub upto-start : (f : ℕ → Bool) → upto 0 f ≡ true
unfolding upto
upto-start f = refl

pub upto_turn : (f : ℕ → Bool) (i : ℕ) → upto i f ≡ true → f i ≡ true → upto (i + 1) f ≡ true
unfolding upto both
upto_turn f i p e = rw (add-one, p, e)

pub upto-fail : (f : ℕ → Bool) (n i : ℕ) → i < n → f i ≡ false → false ≡ upto n f
unfolding upto both
upto-fail f zero i h e = absurd (not-suc-le-zero h)
upto-fail f (suc n) i h e = here (dec_lt i n) (λ b. upto-fail f n i b e)
  where
    here : Dec (i < n) → (i < n → false ≡ upto n f) → false ≡ both (upto n f) (f n)
    here (yes b) k = rw (← k b)
    here (no b) k = let q : i ≡ n = omega arith in rw (← q, e) (sym (both_false (upto i f)))

pub upto-end : (f : ℕ → Bool) (n i : ℕ) → upto i f ≡ true → i ≡ n → true ≡ upto n f
upto-end f n i p e = sym (rw e at p)

-- ---- a loop that counts

pub tally-turn : (f : ℕ → Bool) (i : ℕ) {c b : ℕ} → c ≡ tally i f → b ≡ bit (f i) → c + b ≡ tally (i + 1) f
unfolding tally
tally-turn f i p e = rw (add-one, p, e)

pub tally-le : (f : ℕ → Bool) (n : ℕ) → tally n f ≤ n
unfolding tally
tally-le f zero = omega arith
tally-le f (suc n) = omega (arith, tally-le f n, bit-most (f n))

tally-front : (f : ℕ → Bool) (n : ℕ) → tally (suc n) f ≡ bit (f 0) + tally n (λ i. f (suc i))
unfolding tally
tally-front f zero = omega arith
tally-front f (suc n) = let h = tally-front f n in omega arith

-- a count over positions is a count over a list
pub tally-times : {R : Type 0} (p : R → Bool) (d : R) (rs : List R) → tally (length rs) (λ i. p (get_or rs i d)) ≡ times p rs
unfolding times
tally-times p d [] = unfold tally in refl
tally-times p d (r ∷ rs) = tally-front (λ i. p (get_or (r ∷ rs) i d)) (length rs) ∙ ap (λ (k : ℕ). bit (p r) + k) (tally-times p d rs)

pub tally-same : (f g : ℕ → Bool) (n : ℕ) → ((i : ℕ) → i < n → f i ≡ g i) → tally n f ≡ tally n g
unfolding tally
tally-same f g zero h = refl
tally-same f g (suc n) h = rw (tally-same f g n (λ i b. h i (omega arith)), h n (omega arith))

-- more places, as many or more that pass
pub tally-grows : (f : ℕ → Bool) (i n : ℕ) → i ≤ n → tally i f ≤ tally n f
unfolding tally
tally-grows f i zero h = let e : i ≡ 0 = omega arith in rw e (omega arith)
tally-grows f i (suc n) h = go (dec_lt n i) (λ b. tally-grows f i n b)
  where
    go : Dec (n < i) → (i ≤ n → tally i f ≤ tally n f) → tally i f ≤ tally n f + bit (f n)
    go (yes k) r = let e : i ≡ suc n = omega arith in rw e (omega arith)
    go (no k) r = omega (arith, r (omega arith))

-- all places pass, said both ways
pub tally-all : (f : ℕ → Bool) (n : ℕ) → ((i : ℕ) → i < n → f i ≡ true) → tally n f ≡ n
unfolding tally bit
tally-all f zero h = refl
tally-all f (suc n) h = rw (tally-all f n (λ i b. h i (omega arith)), h n (omega arith)) (omega arith)

bit-true : (b : Bool) → 1 ≤ bit b → b ≡ true
unfolding bit
bit-true true h = refl
bit-true false h = absurd (omega arith)

pub all-tally : (f : ℕ → Bool) (n : ℕ) → tally n f ≡ n → (i : ℕ) → i < n → f i ≡ true
unfolding tally
all-tally f zero e i h = absurd (omega arith)
all-tally f (suc n) e i h = go (dec_lt i n) (all-tally f n (omega (arith, tally-le f n, bit-most (f n))) i)
  where
    go : Dec (i < n) → (i < n → f i ≡ true) → f i ≡ true
    go (yes k) r = r k
    go (no k) r = let q : i ≡ n = omega arith in rw q (bit-true (f n) (omega (arith, tally-le f n)))

-- one place more passes
pub tally-more : (f g : ℕ → Bool) (n k : ℕ) → k < n → f k ≡ false → g k ≡ true → ((i : ℕ) → (i ≡ k → ⊥) → f i ≡ g i) → tally n g ≡ tally n f + 1
unfolding tally bit
tally-more f g zero k h a b e = absurd (omega arith)
tally-more f g (suc n) k h a b e = go (dec_lt k n) (λ l. tally-more f g n k l a b e)
  where
    go : Dec (k < n) → (k < n → tally n g ≡ tally n f + 1) → tally n g + bit (g n) ≡ tally n f + bit (f n) + 1
    go (yes l) r = let q : bit (f n) ≡ bit (g n) = ap bit (e n (λ z. omega arith)) in omega (arith, r l)
    go (no l) r =
        let q : k ≡ n = omega arith in
        let s = tally-same f g k (λ i z. e i (λ y. omega arith)) in
        rw (← q, a, b) (omega (arith, s))

pub upto-same : (f g : ℕ → Bool) (n : ℕ) → ((i : ℕ) → i < n → f i ≡ g i) → upto n f ≡ upto n g
unfolding upto
upto-same f g zero h = refl
upto-same f g (suc n) h = rw (upto-same f g n (λ i b. h i (omega arith)), h n (omega arith))

-- ---- what a test means

pub says-true : {P : Type 0} {b : Bool} → Says P b → b ≡ true → P
says-true (holds p) e = p
says-true (fails p) e = absurd (false≢true e)

pub true-says : {P : Type 0} {b : Bool} → Says P b → P → b ≡ true
true-says (holds p) q = refl
true-says (fails p) q = absurd (p q)

pub says-false : {P : Type 0} {b : Bool} → Says P b → b ≡ false → P → ⊥
says-false (holds p) e q = true≢false e
says-false (fails p) e q = p q

pub false-says : {P : Type 0} {b : Bool} → Says P b → (P → ⊥) → b ≡ false
false-says (holds p) h = absurd (h p)
false-says (fails p) h = refl

-- a test says whether it is true, and its opposite whether it is false
pub says-itself : (b : Bool) → Says (b ≡ true) b
says-itself true = holds refl
says-itself false = fails (λ e. false≢true e)

pub says-opposite : (b : Bool) → Says (b ≡ false) (not b)
says-opposite true = fails (λ e. true≢false e)
says-opposite false = holds refl

pub says_map : {P Q : Type 0} {b : Bool} → (P → Q) → (Q → P) → Says P b → Says Q b
says_map f g (holds p) = holds (f p)
says_map f g (fails p) = fails (λ q. p (g q))

pub says-eqb : (a b : ℕ) → Says (a ≡ b) (eqb a b)
says-eqb a b = pick (eqb a b) refl
  where
    pick : (t : Bool) → eqb a b ≡ t → Says (a ≡ b) t
    pick true e = holds (eqb-true a b e)
    pick false e = fails (eqb-false a b e)

pub says-leb : (a b : ℕ) → Says (a ≤ b) (leb a b)
says-leb a b = pick (leb a b) refl
  where
    pick : (t : Bool) → leb a b ≡ t → Says (a ≤ b) t
    pick true e = holds (leb-true a b e)
    pick false e = fails (λ h. omega (arith, leb-false a b e))

pub says-ltb : (a b : ℕ) → Says (a < b) (ltb a b)
says-ltb a b = pick (ltb a b) refl
  where
    pick : (t : Bool) → ltb a b ≡ t → Says (a < b) t
    pick true e = holds (ltb-true a b e)
    pick false e = fails (λ h. omega (arith, ltb-false a b e))

pub says-not : {P : Type 0} {b : Bool} → Says P b → Says (P → ⊥) (not b)
says-not (holds p) = fails (λ h. h p)
says-not (fails p) = holds p

-- the second may lean on the first
pub says-and : {P Q : Type 0} {a b : Bool} → Says P a → (P → Says Q b) → Says (P × Q) (both a b)
unfolding both
says-and {b = b} (holds p) k = says_map (λ q. (p, q)) (λ pq. pq.1) (k p)
says-and (fails p) k = fails (λ pq. p pq.0)

pub says_both : {P Q : Type 0} {a b : Bool} → Says P a → Says Q b → Says (P × Q) (both a b)
says_both p q = says-and p (λ _. q)

-- what holds where a condition does
pub says_if : {P Q : Type 0} {a b : Bool} → Says P a → Says Q b → Says (P → Q) (pick a b true)
unfolding pick
says_if (holds p) q = says_map (λ y _. y) (λ k. k p) q
says_if (fails p) q = holds (λ x. absurd (p x))

pub says-either : {P Q : Type 0} {a b : Bool} → Says P a → Says Q b → Says (P ⊎ Q) (either a b)
unfolding either
says-either (holds p) q = holds (inl p)
says-either (fails p) (holds q) = holds (inr q)
says-either {P} {Q} (fails p) (fails q) = fails neither
  where
    neither : P ⊎ Q → ⊥
    neither (inl x) = p x
    neither (inr x) = q x

pub says-upto : (P : ℕ → Type 0) (f : ℕ → Bool) (n : ℕ) → ((i : ℕ) → i < n → Says (P i) (f i)) → Says ((i : ℕ) → i < n → P i) (upto n f)
unfolding upto
says-upto P f zero h = holds (λ i b. absurd (not-suc-le-zero b))
says-upto P f (suc n) h = says_map join cut (says_both (says-upto P f n (λ i b. h i (omega arith))) (h n (omega arith)))
  where
    join : ((i : ℕ) → i < n → P i) × P n → (i : ℕ) → i < suc n → P i
    join (a, z) i b = here (dec_lt i n)
      where
        here : Dec (i < n) → P i
        here (yes k) = a i k
        here (no k) = subst P (omega arith) z

    cut : ((i : ℕ) → i < suc n → P i) → ((i : ℕ) → i < n → P i) × P n
    cut a = ((λ i b. a i (omega arith)), a n (omega arith))

-- ---- a test on what a callee gave

pub le_yes : {x y b : ℕ} → x ≡ y → x ≤ b → leb y b ≡ true
le_yes e h = rw (← e) (le-leb _ _ h)

pub le-no : {x y b : ℕ} → x ≡ y → b < x → leb y b ≡ false
le-no e h = rw (← e) (lt-leb _ _ h)

pub is-yes : {x y b : ℕ} → x ≡ y → x ≡ b → eqb y b ≡ true
is-yes e h = rw (← e) (eq-eqb _ _ h)

pub is-no : {x y b : ℕ} → x ≡ y → (x ≡ b → ⊥) → eqb y b ≡ false
is-no e h = rw (← e) (ne_eqb _ _ h)

-- what a call answered is what it was tested to be
pub told : {A : Type 0} {r a b : A} → r ≡ a → r ≡ b → a ≡ b
told e h = sym e ∙ h

-- `if !f(..) { return false; }`
pub call-no : {r a : Bool} → r ≡ a → not r ≡ true → a ≡ false
call-no e h = sym e ∙ not-true _ h

pub call-yes : {r a : Bool} → r ≡ a → not r ≡ false → a ≡ true
call-yes e h = sym e ∙ not-false _ h

pub by2 : {A : Type 0} (g : ℕ → ℕ → A) {r : A} {a b c d : ℕ} → r ≡ g a b → a ≡ c → b ≡ d → r ≡ g c d
by2 g e p q = e ∙ rw (p, q)

pub le-yes2 : {x y a b : ℕ} → x ≡ y → a ≡ b → x ≤ a → leb y b ≡ true
le-yes2 e f h = rw (← e, ← f) (le-leb _ _ h)

pub le-no2 : {x y a b : ℕ} → x ≡ y → a ≡ b → a < x → leb y b ≡ false
le-no2 e f h = rw (← e, ← f) (lt-leb _ _ h)

pub le_as : {x y a b : ℕ} → x ≡ y → a ≡ b → leb x a ≡ leb y b
le_as e f = rw (e, f)

pub lt-as : {x y a b : ℕ} → x ≡ y → a ≡ b → ltb x a ≡ ltb y b
lt-as e f = rw (e, f)

pub by1 : {A : Type 0} (g : ℕ → A) {r : A} {a b : ℕ} → r ≡ g a → a ≡ b → r ≡ g b
by1 g e p = e ∙ ap g p

pub is-yes2 : {x y a b : ℕ} → x ≡ y → a ≡ b → x ≡ a → eqb y b ≡ true
is-yes2 e f h = rw (← e, ← f) (eq-eqb _ _ h)

pub is-no2 : {x y a b : ℕ} → x ≡ y → a ≡ b → (x ≡ a → ⊥) → eqb y b ≡ false
is-no2 e f h = rw (← e, ← f) (ne_eqb _ _ h)

pub add2 : {x y a b : ℕ} → x ≡ y → a ≡ b → x + a ≡ y + b
add2 e f = omega arith

-- `if f(..) { return false; }`
pub hit-no : {r a : Bool} → r ≡ a → r ≡ true → not a ≡ false
hit-no e h = rw (← e, h)

pub hit-yes : {r a : Bool} → r ≡ a → r ≡ false → not a ≡ true
hit-yes e h = rw (← e, h)
