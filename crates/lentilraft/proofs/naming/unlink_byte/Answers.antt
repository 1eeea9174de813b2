use native.Mathlib.Omega.{arith}
use Rattle.types.proofs.Results.{exit-is}
use Rattle.words.specs.Bytes.{Bytes}
use Rattle.soundness.proofs.Checked.{opened-sound, opened-good, opened-ready}
use Rattle.lentilraft.specs.Door.{unlink_wanted, unlink_byte}
use Rattle.lentilraft.proofs.Door.{exit-shut, door-open, door-shut, wanted-refused, wanted-known}
use Rattle.lentilraft.proofs.naming.unlink_byte.Goals as goal

pub returns-in_err-layout : goal.returns-in_err-layout
unfolding unlink_byte
returns-in_err-layout c =
    let n = exit-shut c.args.volume.now c.from_residual.result c.in_err-layout.ensures c.from_residual.ensures.1 in
    rw n.0 (door-shut (c.args.volume.now) ((unlink_wanted c.args.start c.args.path.now c.args.byte c.args.opens)) n.1)

pub returns-in_err-expected : goal.returns-in_err-expected
unfolding unlink_byte Bytes
returns-in_err-expected c =
    rw (exit-is _ c.from_residual-in_err-expected.ensures.1) (door-open c.args.volume.now (unlink_wanted c.args.start c.args.path.now c.args.byte c.args.opens) (opened-sound c.args.volume.now c.in_ok-layout.ensures) (wanted-refused c.args.start c.args.path.now c.args.byte c.args.opens c.args.volume.now c.in_err-expected.ensures (opened-ready c.args.volume.now c.in_ok-layout.ensures (λ i. omega (arith, c.slice_known-1.given i))).formed.same))

pub unlink-requires : goal.unlink-requires
unfolding Bytes
unlink-requires c =
    (((opened-ready c.args.volume.now c.in_ok-layout.ensures (λ i. omega (arith, c.slice_known-1.given i)))), opened-good c.args.volume.now c.in_ok-layout.ensures)

pub returns : goal.returns
unfolding unlink_byte
returns c =
    door-open (c.args.volume.now) ((unlink_wanted c.args.start c.args.path.now c.args.byte c.args.opens)) (opened-sound c.args.volume.now c.in_ok-layout.ensures) (wanted-known c.args.start c.args.path.now c.args.byte c.args.opens (c.args.volume.now) c.in_ok-expected.ensures c.unlink.ensures)
