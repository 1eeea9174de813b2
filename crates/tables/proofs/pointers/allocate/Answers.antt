use mathlib.Core.Path.{sym, ◌∙◌}
use native.Mathlib.Omega.{arith}
use Rattle.tables.proofs.LentAllocator.{lent-formed, lent-size, lent-count, lent-next, allocated}
use Rattle.tables.proofs.pointers.allocate.Goals as goal

pub allocate-requires : goal.allocate-requires
allocate-requires c =
    (lent-formed c.args.volume.now c.args.layout c.requires.0, λ h. omega (arith, lent-size c.args.volume.now c.args.layout c.requires.0, lent-next c.args.volume.now c.args.layout c.requires.0, c.requires.1 (sym (lent-count c.args.volume.now c.args.layout c.requires.0) ∙ h)))

pub returns : goal.returns
returns c =
    allocated c.args.volume.now c.args.layout c.requires.0 c.allocate.ensures
