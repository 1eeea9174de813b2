-- The pieces of a path, and those that std's `split` gives at slashes.
-- Assumes nothing.
use mathlib.Core.Path.{◌≡◌, refl, ◌∙◌, ap}
use mathlib.Core.Bool.{Bool, true, false, cond}
use mathlib.Core.List.{List, [], ◌∷◌}
use Prim.Native.Nat.{ℕ, ◌<◌}
use native.Mathlib.Omega.{arith}
use lib.Dec.{eqb}
use lib.ListN.{length}
use Rattle.std.specs.List.{slice_split, onto_first}
use Rattle.words.specs.Rules.{pick}
use Rattle.paths.specs.Path.{slash, cons, split}

cons-some : (b : ℕ) (ps : List (List ℕ)) → 0 < length (cons b ps)
unfolding cons pick
cons-some b [] = omega arith
cons-some b (p ∷ ps) = go (eqb b slash)
  where
    go : (t : Bool) → 0 < length (pick t ([] ∷ (p ∷ ps)) ((b ∷ p) ∷ ps))
    go true = omega arith
    go false = omega arith

pub split-some : (l : List ℕ) → 0 < length (split l)
unfolding split
split-some [] = omega arith
split-some (b ∷ l) = cons-some b (split l)

pub cons-slash : (b : ℕ) (ps : List (List ℕ)) → eqb b slash ≡ true → 0 < length ps → cons b ps ≡ [] ∷ ps
unfolding cons pick
cons-slash b [] e h = absurd (omega arith)
cons-slash b (p ∷ ps) e h = rw e

-- a byte in front of pieces, as std puts it there
cons-piece : (b : ℕ) (ps : List (List ℕ)) → 0 < length ps → cond (eqb b slash) ([] ∷ ps) (onto_first b ps) ≡ cons b ps
unfolding cons pick
cons-piece b [] h = absurd (omega arith)
cons-piece b (p ∷ ps) h = go (eqb b slash)
  where
    go : (t : Bool) → cond t ([] ∷ (p ∷ ps)) ((b ∷ p) ∷ ps) ≡ pick t ([] ∷ (p ∷ ps)) ((b ∷ p) ∷ ps)
    go true = refl
    go false = refl

pub split-pieces : (l : List ℕ) → slice_split (λ b. eqb b slash) l ≡ split l
unfolding split
split-pieces [] = refl
split-pieces (b ∷ l) = ap (λ ps. cond (eqb b slash) ([] ∷ ps) (onto_first b ps)) (split-pieces l) ∙ cons-piece b (split l) (split-some l)
