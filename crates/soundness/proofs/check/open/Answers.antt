use mathlib.Core.Path.{sym}
use Rattle.words.specs.Bytes.{Bytes}
use native.Mathlib.Omega.{arith}
use Rattle.words.proofs.Rules.{told, stop, go_on}
use Rattle.types.proofs.Results.{or-refused, exit-is}
use Rattle.volume.proofs.GeometryRules.{place-fails, place-passes, place-layout}
use Rattle.soundness.specs.FrameRules.{framed}
use Rattle.soundness.specs.Checked.{sound}
use Rattle.soundness.proofs.FrameRules.{headed-true, framed-true}
use Rattle.soundness.proofs.Checked.{framed-ready, opens-not, opens}
use Rattle.soundness.proofs.check.open.Goals as goal

pub returns-in_err-layout : goal.returns-in_err-layout
unfolding sound framed
returns-in_err-layout c =
    let n = or-refused _ _ c.in_err-layout.ensures.value in
    rw (exit-is _ c.from_residual.ensures.1, n.1) (opens-not c.args.volume.now (sym (stop _ _ (sym (stop _ _ (place-fails _ _ c.read_header.ensures n.0))))))

pub is_formed-requires : goal.is_formed-requires
is_formed-requires c =
    (headed-true c.args.volume.now (place-passes _ _ c.read_header.ensures c.in_ok-layout.ensures.ok_part), place-layout _ _ c.read_header.ensures c.in_ok-layout.ensures.ok_part)

pub returns-then-not-is_formed : goal.returns-then-not-is_formed
unfolding sound framed
returns-then-not-is_formed c =
    opens-not c.args.volume.now (sym (stop _ _ (sym (go_on _ _ (place-passes _ _ c.read_header.ensures c.in_ok-layout.ensures.ok_part) (sym (told c.is_formed.ensures c.if-not-is_formed.true))))))

pub invariant_of-tables : goal.invariant_of-tables
unfolding Bytes framed
invariant_of-tables c =
    framed-ready c.args.volume.now (λ i. omega (arith, c.type_inv.volume i)) (framed-true c.args.volume.now (sym (go_on _ _ (place-passes _ _ c.read_header.ensures c.in_ok-layout.ensures.ok_part) (sym (told c.is_formed.ensures c.if-not-is_formed.false))))) (place-layout _ _ c.read_header.ensures c.in_ok-layout.ensures.ok_part)

pub returns-then-not-is_good : goal.returns-then-not-is_good
unfolding sound framed
returns-then-not-is_good c =
    opens-not c.args.volume.now (sym (go_on _ _ (sym (go_on _ _ (place-passes _ _ c.read_header.ensures c.in_ok-layout.ensures.ok_part) (sym (told c.is_formed.ensures c.if-not-is_formed.false)))) (sym (told c.is_good.ensures c.if-not-is_good.true))))

pub returns : goal.returns
unfolding sound framed
returns c =
    opens c.args.volume.now (sym (go_on _ _ (sym (go_on _ _ (place-passes _ _ c.read_header.ensures c.in_ok-layout.ensures.ok_part) (sym (told c.is_formed.ensures c.if-not-is_formed.false)))) (sym (told c.is_good.ensures c.if-not-is_good.false)))) (place-layout _ _ c.read_header.ensures c.in_ok-layout.ensures.ok_part)
