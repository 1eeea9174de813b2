use borrow.Author.Rules.{rules}
use Rattle.words.proofs.Upto.{upto_from_all}
use Rattle.allocator.specs.Opening.{free_word, free_words_lined}
use Rattle.allocator.proofs.opening.all_lined.Goals as goal

pub returns : goal.returns
unfolding free_words_lined free_word
returns c =
    upto_from_all c.all.ensures.ran c.get_len-count.ensures (λ i b q h k. search rules)
