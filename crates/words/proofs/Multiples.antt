-- Division by a chunk size that is a variable.
-- Assumes nothing.
use mathlib.Core.Path.{◌≡◌, ap, ◌∙◌}
use Prim.Native.Nat.{ℕ, suc, ◌+◌, ◌-◌, ◌*◌, ◌/◌, ◌%◌, ◌≤◌, ◌<◌, min}
use native.Mathlib.Omega.{arith}
use native.Mathlib.Nat.{div-mul-le_self, lt-div-mul-add, mod-eq-sub-div-mul, div-eq_of_lt-le, div-add-mod', div-lt_iff_lt-mul, le-div_iff_mul-le, suc-mul, mul-le-mul_right, add-mod_right}
use native.Mathlib.Numerals.{add-one}

-- what omega has to be told of j / S and j % S: beside these, S and j / S * S are unknowns like others
pub record Parts (S j : ℕ) : Type 0 where
  pub low : j / S * S ≤ j
  pub high : j < j / S * S + S
  pub rest : j % S ≡ j - j / S * S

pub parts : {S : ℕ} → 0 < S → (j : ℕ) → Parts S j
parts {S} pos j = record { low = div-mul-le_self j S; high = lt-div-mul-add pos; rest = mod-eq-sub-div-mul j S }

-- the rest, by the quotient
module _ (S j : ℕ) {q : ℕ} (pos : 0 < S) (e : q ≡ j / S) where
  pub taken-most : q * S ≤ j
  taken-most = rw e (parts pos j).low

  pub taken-rest : j - q * S ≡ j % S
  taken-rest = rw e (omega (arith, parts pos j))

-- the chunk that holds j
pub chunk_of : (S k j : ℕ) → k * S ≤ j → j < k * S + S → j / S ≡ k
chunk_of S k j l h = div-eq_of_lt-le S l (rw (add-one, suc-mul) h)

pub div_mono : {S a b : ℕ} → 0 < S → a ≤ b → a / S ≤ b / S
div_mono {S} {a} pos h = (le-div_iff_mul-le pos).1 (omega (arith, div-mul-le_self a S))

pub whole : (S p : ℕ) → p % S ≡ 0 → p / S * S ≡ p
whole S p h = omega (arith, div-add-mod' p S)

-- chunks k < l lie at least S apart
pub step-apart : (S k l : ℕ) → k < l → k * S + S ≤ l * S
step-apart S k l h =
    let m : suc k * S ≤ l * S = mul-le-mul_right S h in
    omega (arith, suc-mul k S)

-- two multiples of S lie at least S apart
pub gap : (S p q : ℕ) → 0 < S → p % S ≡ 0 → q % S ≡ 0 → p < q → p + S ≤ q
gap S p q pos hp hq l =
    let ep = whole S p hp in
    let eq = whole S q hq in
    let h : p < q / S * S = rw eq l in
    let k : p / S < q / S = (div-lt_iff_lt-mul pos).1 h in
    omega (arith, step-apart S (p / S) (q / S) k)

pub lined-next : (S p : ℕ) → p % S ≡ 0 → (p + S) % S ≡ 0
lined-next S p h = add-mod_right p S ∙ h

-- a step that stays in its chunk
module _ (S j i : ℕ) (pos : 0 < S) (h : i < S - j % S) where
  pub within-chunk : (j + i) / S ≡ j / S
  within-chunk = chunk_of S (j / S) (j + i) (omega (arith, parts pos j)) (omega (arith, parts pos j))

  pub within-rest : (j + i) % S ≡ j % S + i
  within-rest =
      let q : (j + i) / S * S ≡ j / S * S = ap (λ (k : ℕ). k * S) within-chunk in
      omega (arith, parts pos j, parts pos (j + i))

-- a step to the chunk's end
pub next-chunk : (S j k left : ℕ) → 0 < S → k ≡ min left (S - j % S) → k < left → (j + k) / S ≡ j / S + 1
next-chunk S j k left pos e h =
    let f : k ≡ S - j % S = omega arith in
    let m : (j / S + 1) * S ≡ j / S * S + S = rw add-one (suc-mul (j / S) S) in
    chunk_of S (j / S + 1) (j + k) (omega (arith, parts pos j)) (omega (arith, parts pos j))
