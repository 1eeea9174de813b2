use mathlib.Core.Path.{sym, ◌∙◌}
use Rattle.volume.proofs.RowFields.{entry-numbers}
use Rattle.volume.proofs.entries.entry_parent.Goals as goal

pub returns : goal.returns
returns c =
    c.get.ensures.value ∙ sym (entry-numbers c.args.volume.now c.args.at).0
