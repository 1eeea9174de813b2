use mathlib.Core.Path.{refl, sym, ◌∙◌}
use Prim.Native.Nat.{◌-◌}
use native.Mathlib.Omega.{arith}
use borrow.Author.Rules.{rules}
use lib.ListN.{length-set}
use Rattle.lentilraft.proofs.Lines.{digit-turn, digits-put}
use Rattle.lentilraft.proofs.text.put_digits.Goals as goal

pub loop-i-init : goal.loop-i-init
loop-i-init c =
    (search rules, refl, refl)

pub loop-i-preserved : goal.loop-i-preserved
loop-i-preserved c =
    let w = c.loop-i in
    (search rules, digit-turn w.out c.args.at (w.i - 1) w.i w.rest (omega arith) (omega arith) ∙ w.invariant.1, simp length-set (omega arith))

pub returns : goal.returns
returns c =
    let w = c.loop-i in
    sym (digits-put w.out c.args.at w.i w.rest (omega arith)) ∙ w.invariant.1
