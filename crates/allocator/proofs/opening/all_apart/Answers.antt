use borrow.Author.Rules.{rules}
use Rattle.words.specs.Rules.{apart}
use Rattle.words.proofs.Upto.{upto_from_all}
use Rattle.allocator.specs.Opening.{free_words_apart}
use Rattle.allocator.proofs.opening.all_apart.Goals as goal

pub returns : goal.returns
unfolding apart free_words_apart
returns c =
    upto_from_all c.all.ensures.ran c.get_len-count.ensures (λ i b q h k. search rules)
