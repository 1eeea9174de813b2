use Rattle.words.proofs.Rules.{by2}
use Rattle.volume.specs.Search.{pair_before}
use Rattle.volume.proofs.entries.entry_under.Goals as goal

pub returns : goal.returns
returns c =
    by2 (λ a b. pair_before a b c.args.parent c.args.index) c.pair_before.ensures c.entry_parent.ensures c.entry_index.ensures.0
