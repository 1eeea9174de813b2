use mathlib.Core.Path.{ap, ◌∙◌}
use native.Mathlib.Omega.{arith}
use Rattle.allocator.specs.Allocator.{read_allocator}
use Rattle.tables.proofs.ReadyVolume.{fits-of}
use Rattle.tables.proofs.reading.Tables.free_count.Goals as goal

pub returns : goal.returns
unfolding read_allocator
returns c =
    let e = c.get_len.ensures ∙ ap (λ a. a.free_count) c.allocator_words.ensures.0 in
    let f = (fits-of c.self.invariant c.self.view_is).store in
    (e, omega (arith, f.free, f.chunk_room.1))
