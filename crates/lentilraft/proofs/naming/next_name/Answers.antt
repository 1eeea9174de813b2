use mathlib.Core.Path.{refl, ap}
use native.Mathlib.Omega.{arith}
use lib.ListN.{length}
use Rattle.words.specs.Bytes.{Bytes}
use Rattle.soundness.proofs.Checked.{opened-sound, opened-good, opened-ready}
use Rattle.types.proofs.Results.{exit-is}
use Rattle.lentilraft.proofs.Door.{exit-shut}
use Rattle.lentilraft.proofs.EntryGiven.{name-shut, name-refused, entry-there, name-listed, name-placed}
use Rattle.lentilraft.proofs.naming.next_name.Goals as goal

pub returns-in_err-open : goal.returns-in_err-open
returns-in_err-open c =
    let n = exit-shut c.args.volume.now c.from_residual.result c.in_err-open.ensures c.from_residual.ensures.1 in
    rw n.0 (name-shut c.args.directory c.args.from c.args.volume.now n.1)

pub invariant_of-tables : goal.invariant_of-tables
unfolding Bytes
invariant_of-tables c =
    opened-ready c.args.volume.now c.in_ok-open.ensures (λ i. omega (arith, c.type_inv.volume i))

pub next_place-requires : goal.next_place-requires
next_place-requires c =
    ((opened-good c.args.volume.now c.in_ok-open.ensures).named.node_order, (opened-good c.args.volume.now c.in_ok-open.ensures).named.entry_order)

pub returns-in_err-place : goal.returns-in_err-place
returns-in_err-place c =
    rw (exit-is _ c.from_residual-in_err-place.ensures.1) (name-refused c.args.directory c.args.from c.args.volume.now (opened-sound c.args.volume.now c.in_ok-open.ensures) (opened-good c.args.volume.now c.in_ok-open.ensures).named c.in_err-place.ensures refl)

pub entry_name-name-requires : goal.entry_name-name-requires
entry_name-name-requires c =
    entry-there c.args.directory c.args.from (c.args.volume.now) (opened-sound c.args.volume.now c.in_ok-open.ensures) (opened-good c.args.volume.now c.in_ok-open.ensures).named c.in_ok-place.ensures refl

pub name_start-requires : goal.name_start-requires
name_start-requires c =
    entry-there c.args.directory c.args.from (c.args.volume.now) (opened-sound c.args.volume.now c.in_ok-open.ensures) (opened-good c.args.volume.now c.in_ok-open.ensures).named c.in_ok-place.ensures refl

pub entry_index-requires : goal.entry_index-requires
entry_index-requires c =
    entry-there c.args.directory c.args.from (c.args.volume.now) (opened-sound c.args.volume.now c.in_ok-open.ensures) (opened-good c.args.volume.now c.in_ok-open.ensures).named c.in_ok-place.ensures refl

pub overflow_cast-result : goal.overflow_cast-result
overflow_cast-result c =
    record { fits = omega (arith, c.entry_index.ensures.1) }

pub entry_node-requires : goal.entry_node-requires
entry_node-requires c =
    entry-there c.args.directory c.args.from (c.args.volume.now) (opened-sound c.args.volume.now c.in_ok-open.ensures) (opened-good c.args.volume.now c.in_ok-open.ensures).named c.in_ok-place.ensures refl

pub returns : goal.returns
returns c =
    name-listed c.args.directory c.args.from (c.args.volume.now) (opened-sound c.args.volume.now c.in_ok-open.ensures) (opened-good c.args.volume.now c.in_ok-open.ensures).named c.in_ok-place.ensures refl (name-placed c.args.volume.now _ c.name_start.ensures) (ap length c.entry_name-name.ensures) c.entry_index.ensures.0 c.entry_node.ensures
