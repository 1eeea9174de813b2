use mathlib.Core.Path.{◌≡◌}
use native.Mathlib.Nat.{mul-zero, add-zero}
use native.Mathlib.Omega.{arith}
use Rattle.words.specs.Bytes.{Bytes}
use Rattle.words.proofs.RankOrder.{by_block, back-same}
use Rattle.words.proofs.ranks.last_apart.Goals as goal

pub loop-i-init : goal.loop-i-init
loop-i-init g c =
    c.requires.behind

pub returns-then-x-y : goal.returns-then-x-y
unfolding Bytes
returns-then-x-y g c =
    by_block c.args.a.now c.args.b.now (λ j. omega (arith, c.type_inv.a j)) (λ j. omega (arith, c.type_inv.b j)) g.row.N c.args.from c.loop-i.i c.args.count (omega arith) (omega arith) c.requires.inside c.requires.lengths c.loop-i.invariant c.get-x.ensures.value c.get-y.ensures.value c.if-x-y.true

pub loop-i-preserved : goal.loop-i-preserved
unfolding Bytes
loop-i-preserved g c =
    back-same c.args.a.now c.args.b.now (λ j. omega (arith, c.type_inv.a j)) (λ j. omega (arith, c.type_inv.b j)) g.row.N c.args.from c.loop-i.i c.args.count (omega arith) (omega arith) c.requires.inside c.requires.lengths c.loop-i.invariant c.get-x.ensures.value c.get-y.ensures.value c.if-x-y.false

pub returns : goal.returns
returns g c =
    let e : c.loop-i.i ≡ 0 = omega arith in
    rw (e, mul-zero, add-zero) at c.loop-i.invariant
