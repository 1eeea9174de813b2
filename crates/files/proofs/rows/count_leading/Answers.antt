use borrow.Author.Rules.{rules}
use mathlib.Core.List.{[]}
use Rattle.volume.specs.Rows.{read_chunk}
use Rattle.files.proofs.Leading.{leading_from_count}
use Rattle.files.proofs.rows.count_leading.Goals as goal

pub returns : goal.returns
returns g c = λ test same.
    leading_from_count c.args.tables.now.store.chunks (read_chunk []) test c.chunks_used-used.ensures.0 c.requires.inside c.map.ensures.source c.map.ensures.closure c.take_while.ensures.source c.take_while.ensures.closure c.take_while.ensures.done c.count.ensures.ran
    (λ i x q k. search rules) (λ x b q k. search (rules, same))
