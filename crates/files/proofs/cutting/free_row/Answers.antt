use mathlib.Core.Path.{ap, ◌∙◌}
use Rattle.allocator.specs.Allocator.{release}
use Rattle.volume.specs.Volume.{shown, laid, with_allocator, on_store}
use Rattle.files.proofs.cutting.free_row.Goals as goal

pub returns : goal.returns
returns c =
    c.free.ensures ∙ ap (λ r. laid (on_store (with_allocator (release r.pointer (shown c.args.volume.now).store.allocator)) (shown c.args.volume.now))) c.chunk_row-row.ensures
