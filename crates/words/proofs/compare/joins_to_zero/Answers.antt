use mathlib.Core.Path.{◌≡◌, refl, ◌∙◌}
use mathlib.Core.List.{List, [], ◌∷◌}
use Prim.Native.Nat.{ℕ, zero, suc}
use native.Mathlib.Omega.{arith}
use borrow.Author.Rules.{rules}
use borrow.Author.Tests.{ne_eqb}
use lib.Dec.{eqb}
use Rattle.std.specs.Int.Bits.{bit_or, or_zero_l}
use Rattle.std.proofs.lemmas.Nat.{le_or_l}
use Rattle.std.specs.List.{fold}
use Rattle.words.specs.Rules.{both}
use Rattle.words.specs.Tests.{all_zero}
use Rattle.words.proofs.compare.joins_to_zero.Goals as goal

-- the joined bytes are zero where each of them is
joined : (a : ℕ) (l : List ℕ) → eqb (fold bit_or a l) 0 ≡ both (eqb a 0) (all_zero l)
unfolding all_zero both
joined zero [] = refl
joined (suc a) [] = rw (ne_eqb (suc a) 0 (λ e. omega arith))
joined zero (x ∷ l) = rw (or_zero_l x) (joined x l)
joined (suc a) (x ∷ l) =
    joined (bit_or (suc a) x) l
    ∙ rw (ne_eqb (bit_or (suc a) x) 0 (λ e. omega (arith, le_or_l (suc a) x)), ne_eqb (suc a) 0 (λ e. omega arith))

pub returns : goal.returns
unfolding both
returns c =
    let e : c.fold.result ≡ fold bit_or 0 c.args.chunk.now = search rules in
    rw e (joined 0 c.args.chunk.now)
