use mathlib.Core.Path.{◌≡◌}
use mathlib.Core.Bool.{Bool, true, false}
use mathlib.Core.List.{List}
use Prim.Native.Nat.{ℕ}
use lib.Dec.{eqb}
use lib.Pointwise.{pointwise}
use Rattle.std.specs.Cmp.Lexicographic.{same_text, other_text}
use Rattle.words.specs.Rules.{same}
use Rattle.words.proofs.Blocks.{same-yes, same-no}
use Rattle.words.proofs.compare.same.Goals as goal

-- std's equality of slices, at bytes
equal : (a b : List ℕ) (t : Bool) → t ≡ pointwise eqb a b → t ≡ same a b
equal a b true e = same-yes a b (same_text a b e)
equal a b false e = same-no a b (other_text a b e)

pub returns : goal.returns
returns c =
    equal c.args.a.now c.args.b.now c.eq.result c.eq.ensures
