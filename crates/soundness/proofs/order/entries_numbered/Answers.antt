use borrow.Author.Rules.{rules}
use native.Mathlib.Omega.{arith}
use Rattle.words.proofs.Upto.{upto_from_all}
use Rattle.soundness.specs.OrderRules.{entries_numbered}
use Rattle.soundness.proofs.order.entries_numbered.Goals as goal

pub returns : goal.returns
unfolding entries_numbered
returns c =
    upto_from_all c.all.ensures.ran (omega (arith, c.entries_used-used.ensures.0)) (λ i b q h k. search rules)
