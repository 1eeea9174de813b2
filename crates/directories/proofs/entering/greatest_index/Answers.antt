use Rattle.tables.proofs.ReadyVolume.{fits-of}
use Rattle.directories.proofs.NewSpots.{last-there, greatest-none, greatest-other, greatest-last}
use Rattle.directories.proofs.entering.greatest_index.Goals as goal

pub returns-in-None : goal.returns-in-None
returns-in-None c =
    greatest-none c.args.directory c.args.tables.now.names.entries c.requires.0 (fits-of c.tables.invariant c.tables.view_is).names.entry_rows c.requires.1 c.in-None.ensures

pub entry_parent-requires : goal.entry_parent-requires
entry_parent-requires c =
    last-there c.args.directory c.args.tables.now.names.entries c.requires.0 (fits-of c.tables.invariant c.tables.view_is).names.entry_rows c.requires.1 c.in-Some.ensures

pub entry_index-requires : goal.entry_index-requires
entry_index-requires c =
    last-there c.args.directory c.args.tables.now.names.entries c.requires.0 (fits-of c.tables.invariant c.tables.view_is).names.entry_rows c.requires.1 c.in-Some.ensures

pub returns-in-Some : goal.returns-in-Some
returns-in-Some c =
    greatest-last c.args.directory c.args.tables.now.names.entries c.requires.0 (fits-of c.tables.invariant c.tables.view_is).names.entry_rows c.requires.1 c.in-Some.ensures c.entry_parent.ensures c.if-entry_parent-directory.true c.entry_index.ensures

pub returns-in-Some-2 : goal.returns-in-Some-2
returns-in-Some-2 c =
    greatest-other c.args.directory c.args.tables.now.names.entries c.requires.0 (fits-of c.tables.invariant c.tables.view_is).names.entry_rows c.requires.1 c.in-Some.ensures c.entry_parent.ensures c.if-entry_parent-directory.false
