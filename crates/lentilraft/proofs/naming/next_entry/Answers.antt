use mathlib.Core.Path.{refl, ap, ◌∙◌}
use native.Mathlib.Omega.{arith}
use Rattle.words.specs.Bytes.{Bytes}
use Rattle.soundness.proofs.Checked.{not_opened, opened-sound, opened-good, opened-ready}
use Rattle.types.specs.Answers.{error_number}
use Rattle.lentilraft.proofs.EntryGiven.{gives-refusal, gives-listed, entry-shut, entry-refused, entry-there, entry_listed}
use Rattle.lentilraft.proofs.naming.next_entry.Goals as goal

pub returns-in-Err : goal.returns-in-Err
returns-in-Err c =
    let n = not_opened c.args.volume.now c.in-Err.ensures in
    gives-refusal (entry-shut c.args.directory c.args.from c.args.volume.now n.0) (c.from.ensures.0 ∙ ap error_number n.1)

pub invariant_of-tables : goal.invariant_of-tables
unfolding Bytes
invariant_of-tables c =
    opened-ready c.args.volume.now c.in-Ok.ensures (λ i. omega (arith, c.type_inv.volume i))

pub next_place-requires : goal.next_place-requires
next_place-requires c =
    ((opened-good c.args.volume.now c.in-Ok.ensures).named.node_order, (opened-good c.args.volume.now c.in-Ok.ensures).named.entry_order)

pub returns-in-Err-next_place : goal.returns-in-Err-next_place
returns-in-Err-next_place c =
    gives-refusal (entry-refused c.args.directory c.args.from c.args.volume.now (opened-sound c.args.volume.now c.in-Ok.ensures) (opened-good c.args.volume.now c.in-Ok.ensures).named c.in-Err-next_place.ensures refl) c.from-in-Err-next_place.ensures.0

pub entry_index-requires : goal.entry_index-requires
entry_index-requires c =
    entry-there c.args.directory c.args.from (c.args.volume.now) (opened-sound c.args.volume.now c.in-Ok.ensures) (opened-good c.args.volume.now c.in-Ok.ensures).named c.in-Ok-next_place.ensures refl

pub overflow_cast-index : goal.overflow_cast-index
overflow_cast-index c =
    record { fits = omega (arith, c.entry_index.ensures.1) }

pub entry_node-requires : goal.entry_node-requires
entry_node-requires c =
    entry-there c.args.directory c.args.from (c.args.volume.now) (opened-sound c.args.volume.now c.in-Ok.ensures) (opened-good c.args.volume.now c.in-Ok.ensures).named c.in-Ok-next_place.ensures refl

pub entry_name-requires : goal.entry_name-requires
entry_name-requires c =
    entry-there c.args.directory c.args.from (c.args.volume.now) (opened-sound c.args.volume.now c.in-Ok.ensures) (opened-good c.args.volume.now c.in-Ok.ensures).named c.in-Ok-next_place.ensures refl

pub returns : goal.returns
returns c =
    gives-listed (entry_listed c.args.directory c.args.from (c.args.volume.now) (opened-sound c.args.volume.now c.in-Ok.ensures) (opened-good c.args.volume.now c.in-Ok.ensures).named c.in-Ok-next_place.ensures refl) c.entry_name.ensures c.entry_index.ensures.0 c.entry_node.ensures
