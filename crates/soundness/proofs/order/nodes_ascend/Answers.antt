use borrow.Author.Rules.{rules}
use native.Mathlib.Omega.{arith}
use Rattle.words.proofs.Upto.{upto_from_all}
use Rattle.soundness.specs.OrderRules.{nodes_ascend}
use Rattle.soundness.proofs.order.nodes_ascend.Goals as goal

pub returns : goal.returns
unfolding nodes_ascend
returns c =
    upto_from_all c.all.ensures.ran (omega (arith, c.nodes_used-used.ensures.0)) (λ i b q h k. search rules)
