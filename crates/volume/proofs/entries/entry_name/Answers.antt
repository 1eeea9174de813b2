use Rattle.volume.proofs.RowFields.{name-lent}
use Rattle.volume.proofs.entries.entry_name.Goals as goal

pub returns : goal.returns
returns c =
    name-lent c.args.volume.now c.args.at c.get-long.ensures.value c.requires.1
