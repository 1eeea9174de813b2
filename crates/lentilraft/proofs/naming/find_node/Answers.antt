use Rattle.std.specs.Prelude.{Err}
use native.Mathlib.Omega.{arith}
use Rattle.words.specs.Bytes.{Bytes}
use Rattle.names.specs.Walks as Walks
use Rattle.soundness.proofs.Checked.{opened-sound, opened-good, opened-ready}
use Rattle.lentilraft.specs.Door.{find_node}
use Rattle.lentilraft.proofs.Door.{exit-shut, shut, let-in}
use Rattle.lentilraft.proofs.naming.find_node.Goals as goal

pub returns-in_err-open : goal.returns-in_err-open
unfolding find_node
returns-in_err-open c =
    let n = exit-shut c.args.volume.now c.from_residual.result c.in_err-open.ensures c.from_residual.ensures.1 in
    rw n.0 (shut c.args.volume.now Err (λ v. Walks.find_node c.args.start c.args.path.now v.names) n.1)

pub invariant_of-tables : goal.invariant_of-tables
unfolding Bytes
invariant_of-tables c =
    opened-ready c.args.volume.now c.in_ok-open.ensures (λ i. omega (arith, c.type_inv.volume i))

pub find_node-requires : goal.find_node-requires
find_node-requires c =
    (opened-good c.args.volume.now c.in_ok-open.ensures).named

pub returns : goal.returns
unfolding find_node
returns c =
    let-in c.args.volume.now Err (λ v. Walks.find_node c.args.start c.args.path.now v.names) (opened-sound c.args.volume.now c.in_ok-open.ensures) c.find_node.ensures
