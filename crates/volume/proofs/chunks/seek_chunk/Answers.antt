use borrow.Author.Rules.{rules}
use Rattle.words.proofs.Search.{seek-lead}
use Rattle.volume.specs.Rows.{read_chunk, chunk_row}
use Rattle.volume.specs.Search.{chunk_under}
use Rattle.volume.proofs.chunks.seek_chunk.Goals as goal

pub returns : goal.returns
returns c =
    let a = c.args in
    seek-lead (chunk_under a.node a.index) read_chunk chunk_row a.volume.now a.base a.used c.requires.1 c.seek.ensures.split (λ k t h e. search rules)
