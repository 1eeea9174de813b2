use borrow.Author.Rules.{rules}
use Rattle.words.proofs.Search.{seek-lead}
use Rattle.volume.specs.Rows.{read_entry, entry_row}
use Rattle.volume.specs.Search.{entry_under}
use Rattle.volume.proofs.entries.seek_entry.Goals as goal

pub returns : goal.returns
returns c =
    let a = c.args in
    seek-lead (entry_under a.parent a.index) read_entry entry_row a.volume.now a.base a.used c.requires.1 c.seek.ensures.split (λ k t h e. search rules)
