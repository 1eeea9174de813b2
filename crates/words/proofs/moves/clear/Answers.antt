use mathlib.Core.Path.{◌≡◌}
use Prim.Native.Nat.{◌+◌, ◌-◌}
use native.Mathlib.Omega.{arith}
use lib.ListN.{length, take, drop, length-take, length-drop}
use Rattle.words.specs.Bytes.{zeros}
use Rattle.words.proofs.Parts.{lent_at, length-zeros}
use Rattle.words.proofs.moves.clear.Goals as goal

pub returns : goal.returns
unfolding zeros
returns c =
    let a = c.args in
    let e : length (take (a.at + a.n - a.at) (drop a.at a.v.now)) ≡ a.n = simp (length-take, length-drop) (omega arith) in
    lent_at a.v.now a.at a.n _ (zeros a.n) (rw e at (c.fill.ensures.after (λ y e. e))) (length-zeros a.n)
