use mathlib.Core.Path.{sym, ap, ◌∙◌}
use native.Mathlib.Omega.{arith}
use lib.Seq.{take_all}
use Rattle.words.specs.Bytes.{over}
use Rattle.words.proofs.Parts.{over-nil}
use Rattle.words.proofs.WriteLoops.{copy-turn}
use Rattle.words.proofs.moves.copy.Goals as goal

pub loop-i-init : goal.loop-i-init
loop-i-init c =
    sym (over-nil c.args.v.now c.args.at)

pub loop-i-preserved : goal.loop-i-preserved
loop-i-preserved c =
    copy-turn c.args.v.now c.args.at c.args.src.now c.loop-i.i c.loop-i.invariant c.loop-i-test.true c.requires

pub returns : goal.returns
returns c =
    c.loop-i.invariant ∙ ap (over c.args.v.now c.args.at) (take_all c.loop-i.i c.args.src.now (omega arith))
