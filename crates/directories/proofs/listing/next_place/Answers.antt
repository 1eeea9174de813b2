use mathlib.Core.Path.{refl}
use Rattle.words.proofs.Rules.{told}
use Rattle.types.proofs.Results.{exit-is}
use Rattle.directories.proofs.NextEntry.{next-refused, next-goes-on}
use Rattle.directories.proofs.EntrySearch.{next-none, next-at}
use Rattle.directories.proofs.listing.next_place.Goals as goal

pub returns-in_err-directory_there : goal.returns-in_err-directory_there
returns-in_err-directory_there c =
    rw (exit-is _ c.from_residual.ensures.1) (next-refused c.args.directory c.args.from c.args.tables.now.names c.in_err-directory_there.ensures)

pub returns-then-not-entry_there : goal.returns-then-not-entry_there
returns-then-not-entry_there c =
    next-goes-on c.args.directory c.args.from c.args.tables.now.names c.in_ok-directory_there.ensures c.first_entry-place.ensures.0 (next-none c.args.directory c.args.tables.now.names.entries c.first_entry-place.result c.entry_there.ensures (told refl c.if-not-entry_there.true))

pub returns : goal.returns
returns c =
    next-goes-on c.args.directory c.args.from c.args.tables.now.names c.in_ok-directory_there.ensures c.first_entry-place.ensures.0 (next-at c.args.directory c.args.tables.now.names.entries c.first_entry-place.result c.entry_there.ensures (told refl c.if-not-entry_there.false))
