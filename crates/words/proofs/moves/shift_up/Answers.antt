use mathlib.Core.Path.{◌∙◌}
use Prim.Native.Nat.{◌+◌, ◌-◌}
use native.Mathlib.Omega.{arith}
use Rattle.words.specs.Bytes.{part}
use Rattle.words.proofs.Parts.{pasted}
use Rattle.words.proofs.moves.shift_up.Goals as goal

pub returns : goal.returns
unfolding part
returns c =
    let a = c.args in
    c.copy_within.ensures.after ∙ pasted a.v.now a.from (a.from + a.by) (a.to - a.from) (omega arith)
