use mathlib.Core.Path.{ap, ◌∙◌}
use native.Mathlib.Omega.{arith}
use lib.Count.{ones}
use Rattle.allocator.specs.Allocator.{read_allocator}
use Rattle.allocator.proofs.Sizes.{accepted-bounds, accepted-one}
use Rattle.tables.proofs.ReadyVolume.{fits-of}
use Rattle.tables.proofs.reading.Tables.chunk_size.Goals as goal

pub returns : goal.returns
unfolding read_allocator
returns c =
    let e = c.chunk_size.ensures ∙ ap (λ a. a.chunk_size) c.allocator_words.ensures.0 in
    let f = (fits-of c.self.invariant c.self.view_is).store.size in
    (e, omega (arith, accepted-bounds _ f), omega (arith, accepted-bounds _ f), ap ones e ∙ accepted-one _ f)
