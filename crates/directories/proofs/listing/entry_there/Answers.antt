use mathlib.Core.Path.{refl, ◌∙◌}
use native.Mathlib.Omega.{arith}
use borrow.Author.Tests.{le-ltb}
use Rattle.directories.proofs.EntrySearch.{past_end, there-if}
use Rattle.directories.proofs.listing.entry_there.Goals as goal

pub returns-then-place-entries_used : goal.returns-then-place-entries_used
returns-then-place-entries_used c =
    there-if c.args.directory c.args.tables.now.names.entries (omega (arith, c.if-place-entries_used.true, c.entries_used.ensures.0)) c.entry_parent.ensures refl

pub returns-else-place-entries_used : goal.returns-else-place-entries_used
returns-else-place-entries_used c =
    le-ltb _ _ c.if-place-entries_used.false ∙ past_end c.args.directory c.args.tables.now.names.entries (omega (arith, c.if-place-entries_used.false, c.entries_used.ensures.0))
