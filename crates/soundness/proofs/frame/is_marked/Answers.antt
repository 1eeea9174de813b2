use mathlib.Core.Path.{ap}
use native.Mathlib.Omega.{arith}
use lib.ListN.{length-take, length-drop}
use Rattle.soundness.proofs.FrameRules.{marked-lent}
use Rattle.soundness.proofs.frame.is_marked.Goals as goal

pub slice_bounds-is_marked-count : goal.slice_bounds-is_marked-count
slice_bounds-is_marked-count c =
    omega (arith, (ap (λ z. z.nodes) c.requires.1))

pub slice_bounds-is_marked-start : goal.slice_bounds-is_marked-start
slice_bounds-is_marked-start c =
    omega (arith, (ap (λ z. z.nodes) c.requires.1))

pub slice_bounds-is_marked-end : goal.slice_bounds-is_marked-end
slice_bounds-is_marked-end c =
    omega (arith, (ap (λ z. z.nodes) c.requires.1), c.requires.0.placed.long)

pub is_marked-requires : goal.is_marked-requires
is_marked-requires c =
    simp (length-take, length-drop) (omega (arith, (ap (λ z. z.nodes) c.requires.1), c.requires.0.placed.long))

pub returns : goal.returns
returns c =
    marked-lent c.args.volume.now c.requires.0 c.requires.1 c.is_marked.ensures
