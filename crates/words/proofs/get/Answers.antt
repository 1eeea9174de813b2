use mathlib.Core.Path.{◌≡◌, ◌∙◌}
use Prim.Native.Nat.{◌+◌, ◌-◌}
use native.Mathlib.Omega.{arith}
use Rattle.words.specs.Bytes.{Bytes, num, part, zeros}
use Rattle.words.proofs.Numbers.{num-below, from-bytes}
use Rattle.words.proofs.get.Goals as goal

pub returns-clause-value : goal.returns-clause-value
unfolding zeros part
returns-clause-value g c =
    let k : c.args.at + g.row.N - c.args.at ≡ g.row.N = omega arith in
    c.from_le_bytes.ensures ∙ from-bytes c.args.v.now c.args.at g.row.N (rw k at c.copy_from_slice.ensures.after) c.requires.width c.requires.inside

pub returns-clause-bound : goal.returns-clause-bound
unfolding Bytes
returns-clause-bound g c =
    let e : c.from_le_bytes.result ≡ num g.row.N c.args.v.now c.args.at = returns-clause-value g c in
    rw e (num-below g.row.N c.args.v.now c.args.at (λ j. omega (arith, c.type_inv.v j)) c.requires.inside)
