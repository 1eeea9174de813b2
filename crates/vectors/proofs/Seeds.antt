-- The loop that fills a buffer from a seed: its start, a turn, and its end.
-- Assumes nothing.
use mathlib.Core.Path.{◌≡◌, sym, ap, ◌∙◌}
use mathlib.Core.List.{List, [], ◌∷◌, ◌++◌}
use Prim.Native.Nat.{ℕ, suc, ◌+◌, ◌-◌, ◌%◌, ◌≤◌, ◌<◌}
use native.Mathlib.Numerals.{add-one}
use native.Mathlib.Omega.{arith}
use lib.ListN.{length, take, set}
use lib.Seq.{take-suc-set, take_all}
use mathlib.Core.List.{append_assoc, append-nil}
use Rattle.vectors.specs.Seed.{seeded}

-- what is filled, and what is to come, is the whole
abbrev pub Filled : List ℕ → ℕ → ℕ → ℕ → ℕ → Type 0
Filled b i v n s = take i b ++ seeded v (n - i) ≡ seeded s n

pub fill_start : (b : List ℕ) (n s : ℕ) → Filled b 0 s n s
fill_start b n s = let k : n - 0 ≡ n = omega arith in rw k

pub fill-turn : (b : List ℕ) (i v n s : ℕ) → length b ≡ n → i < n → Filled b i v n s → Filled (set b i (v + 1)) (i + 1) ((v + 7) % 251) n s
unfolding seeded
fill-turn b i v n s l h f =
    let k : n - i ≡ suc (n - (i + 1)) = omega arith in
    let g : take i b ++ seeded v (suc (n - (i + 1))) ≡ seeded s n = rw k at f in
    let e : take (i + 1) (set b i (v + 1)) ≡ take i b ++ ((v + 1) ∷ []) = ap (λ (j : ℕ). take j (set b i (v + 1))) (add-one i) ∙ take-suc-set b i (v + 1) (rw l h) in
    rw (e, append_assoc) g

pub fill_end : (b : List ℕ) (i v n s : ℕ) → length b ≡ n → n ≤ i → i ≤ n → Filled b i v n s → b ≡ seeded s n
unfolding seeded
fill_end b i v n s l h g f =
    let k : n - i ≡ 0 = omega arith in
    let a : length b ≤ i = omega arith in
    sym (take_all i b a) ∙ sym (append-nil (take i b)) ∙ rw k at f
