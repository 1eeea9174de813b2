use mathlib.Core.Path.{refl}
use Rattle.words.proofs.Rules.{told}
use Rattle.types.proofs.Results.{exit-is}
use Rattle.directories.proofs.NamedEntry.{found-told, absent-told, stopped-told}
use Rattle.directories.proofs.SearchSteps.{search-refused, search-bad, search-through}
use Rattle.directories.proofs.searching.search.Goals as goal

pub returns-in_err-directory_there : goal.returns-in_err-directory_there
returns-in_err-directory_there c =
    rw (exit-is _ c.from_residual.ensures.1) (search-refused c.args.directory c.args.name.now c.args.from c.args.most c.args.tables.now.names c.in_err-directory_there.ensures)

pub returns-then-not-name_allowed : goal.returns-then-not-name_allowed
returns-then-not-name_allowed c =
    search-bad c.args.directory c.args.name.now c.args.from c.args.most c.args.tables.now.names c.in_ok-directory_there.ensures c.name_allowed.ensures (told refl c.if-not-name_allowed.true)

pub entry_index-requires : goal.entry_index-requires
entry_index-requires c =
    (found-told c.args.directory c.args.name.now c.args.from c.args.tables.now.names.entries c.requires.entry_order c.args.most c.in-At.ensures).0

pub entry_node-requires : goal.entry_node-requires
entry_node-requires c =
    (found-told c.args.directory c.args.name.now c.args.from c.args.tables.now.names.entries c.requires.entry_order c.args.most c.in-At.ensures).0

pub entry_index-requires-in-Stopped : goal.entry_index-requires-in-Stopped
entry_index-requires-in-Stopped c =
    (stopped-told c.args.directory c.args.name.now c.args.from c.args.tables.now.names.entries c.requires.entry_order c.args.most c.in-Stopped.ensures).0

pub returns-in-At : goal.returns-in-At
returns-in-At c =
    search-through c.args.directory c.args.name.now c.args.from c.args.most c.args.tables.now.names c.in_ok-directory_there.ensures c.name_allowed.ensures (told refl c.if-not-name_allowed.false) ((found-told c.args.directory c.args.name.now c.args.from c.args.tables.now.names.entries c.requires.entry_order c.args.most c.in-At.ensures).1 _ _ c.entry_index.ensures.0 c.entry_node.ensures)

pub returns-in-Absent : goal.returns-in-Absent
returns-in-Absent c =
    search-through c.args.directory c.args.name.now c.args.from c.args.most c.args.tables.now.names c.in_ok-directory_there.ensures c.name_allowed.ensures (told refl c.if-not-name_allowed.false) (absent-told c.args.directory c.args.name.now c.args.from c.args.tables.now.names.entries c.requires.entry_order c.args.most c.in-Absent.ensures)

pub returns-in-Stopped : goal.returns-in-Stopped
returns-in-Stopped c =
    search-through c.args.directory c.args.name.now c.args.from c.args.most c.args.tables.now.names c.in_ok-directory_there.ensures c.name_allowed.ensures (told refl c.if-not-name_allowed.false) ((stopped-told c.args.directory c.args.name.now c.args.from c.args.tables.now.names.entries c.requires.entry_order c.args.most c.in-Stopped.ensures).1 _ c.entry_index-in-Stopped.ensures.0)
