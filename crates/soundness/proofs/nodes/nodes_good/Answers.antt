use borrow.Author.Rules.{rules}
use native.Mathlib.Omega.{arith}
use Rattle.words.proofs.Upto.{upto_from_all}
use Rattle.soundness.specs.NodeRules.{nodes_good}
use Rattle.soundness.proofs.nodes.nodes_good.Goals as goal

pub returns : goal.returns
unfolding nodes_good
returns c =
    upto_from_all c.all.ensures.ran (omega (arith, c.nodes_used-used.ensures.0)) (λ i b q h k. search (rules, c.requires.0.1 i h, c.requires.1.1 i h))
