use Rattle.words.proofs.Rules.{le_as}
use Rattle.directories.proofs.entering.entries_full.Goals as goal

pub returns : goal.returns
returns c =
    le_as c.entry_room.ensures.0 c.entries_used.ensures.0
