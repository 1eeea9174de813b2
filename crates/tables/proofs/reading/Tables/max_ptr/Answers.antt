use mathlib.Core.Path.{ap, ◌∙◌}
use Rattle.allocator.specs.Allocator.{read_allocator}
use Rattle.tables.proofs.reading.Tables.max_ptr.Goals as goal

pub returns : goal.returns
unfolding read_allocator
returns c =
    c.max_ptr.ensures ∙ ap (λ a. a.next_ptr) c.allocator_words.ensures.0
