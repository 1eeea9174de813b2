use borrow.Author.Rules.{rules}
use mathlib.Core.Path.{refl}
use native.Mathlib.Omega.{arith}
use Rattle.files.proofs.TakeSteps.{pointer-fits, row-asked, taken-ends, taken-lent, taken-filled}
use Rattle.files.proofs.chunks.take_chunk.Goals as goal

pub allocate-pointer-requires : goal.allocate-pointer-requires
allocate-pointer-requires c =
    (c.requires.0.ready, λ _. pointer-fits c.requires.0 c.requires.1)

pub change_chunk-requires : goal.change_chunk-requires
change_chunk-requires c =
    row-asked c.requires.0 c.requires.1 c.requires.2 c.args.node c.args.index (search rules) (search rules) c.requires.3 c.requires.4 c.requires.5 c.allocate-pointer.ensures

pub overflow_add-at : goal.overflow_add-at
overflow_add-at c =
    omega (arith, taken-ends c.requires.0 c.requires.1 c.requires.2 c.args.node c.args.index (search rules) (search rules) c.requires.3 c.requires.4 c.requires.5 c.allocate-pointer.ensures c.change_chunk.ensures c.requires.7)

pub overflow_add-at-2 : goal.overflow_add-at-2
overflow_add-at-2 c =
    omega (arith, taken-ends c.requires.0 c.requires.1 c.requires.2 c.args.node c.args.index (search rules) (search rules) c.requires.3 c.requires.4 c.requires.5 c.allocate-pointer.ensures c.change_chunk.ensures c.requires.7)

pub slice_bounds-fill_chunk-end : goal.slice_bounds-fill_chunk-end
slice_bounds-fill_chunk-end c =
    omega (arith, taken-ends c.requires.0 c.requires.1 c.requires.2 c.args.node c.args.index (search rules) (search rules) c.requires.3 c.requires.4 c.requires.5 c.allocate-pointer.ensures c.change_chunk.ensures c.requires.7)

pub fill_chunk-requires : goal.fill_chunk-requires
fill_chunk-requires c =
    omega (arith, taken-lent c.requires.0 c.requires.1 c.requires.2 c.args.node c.args.index (search rules) (search rules) c.requires.3 c.requires.4 c.requires.5 c.allocate-pointer.ensures c.change_chunk.ensures c.requires.7, c.requires.6)

pub returns : goal.returns
returns c =
    taken-filled c.requires.0 c.requires.1 c.requires.2 c.args.node c.args.index (search rules) (search rules) c.requires.3 c.requires.4 c.requires.5 c.allocate-pointer.ensures c.change_chunk.ensures c.requires.7 c.args.from c.args.bytes.now c.requires.6 c.fill_chunk.ensures refl refl
