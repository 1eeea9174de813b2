use native.Mathlib.Omega.{arith}
use Rattle.words.specs.Bytes.{Bytes}
use Rattle.words.proofs.RankOrder.{by_length}
use Rattle.words.proofs.ranks.ranks_below.Goals as goal

pub returns-then-a-b : goal.returns-then-a-b
unfolding Bytes
returns-then-a-b c =
    by_length c.args.a.now c.args.b.now (λ j. omega (arith, c.type_inv.a j)) (λ j. omega (arith, c.type_inv.b j)) c.if-a-b.true
