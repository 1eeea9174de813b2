use native.Mathlib.Omega.{arith}
use Rattle.words.specs.Bytes.{Bytes}
use Rattle.std.specs.Prelude.{Err}
use Rattle.names.specs.Searching as Searching
use Rattle.soundness.proofs.Checked.{opened-sound, opened-good, opened-ready}
use Rattle.lentilraft.specs.Door as Door
use Rattle.lentilraft.proofs.Door.{exit-shut, shut, let-in}
use Rattle.lentilraft.proofs.naming.search.Goals as goal

pub returns-in_err-open : goal.returns-in_err-open
unfolding Door.search
returns-in_err-open c =
    let n = exit-shut c.args.volume.now c.from_residual.result c.in_err-open.ensures c.from_residual.ensures.1 in
    rw n.0 (shut c.args.volume.now Err (λ v. Searching.search c.args.directory c.args.name.now c.args.from c.args.most v.names) n.1)

pub invariant_of-tables : goal.invariant_of-tables
unfolding Bytes
invariant_of-tables c =
    opened-ready c.args.volume.now c.in_ok-open.ensures (λ i. omega (arith, c.type_inv.volume i))

pub search-requires : goal.search-requires
search-requires c =
    (opened-good c.args.volume.now c.in_ok-open.ensures).named

pub returns : goal.returns
unfolding Door.search
returns c =
    let-in c.args.volume.now Err (λ v. Searching.search c.args.directory c.args.name.now c.args.from c.args.most v.names) (opened-sound c.args.volume.now c.in_ok-open.ensures) c.search.ensures
