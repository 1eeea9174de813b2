use native.Mathlib.Omega.{arith}
use Rattle.files.proofs.LentChunk.{bytes-end, piece-put}
use Rattle.files.proofs.chunks.put_piece.Goals as goal

pub overflow_add-at : goal.overflow_add-at
overflow_add-at c = omega (arith, c.requires.3.0, bytes-end c.args.volume.now c.args.layout c.requires.0 c.args.pointer _ c.requires.1)

pub overflow_add-at-2 : goal.overflow_add-at-2
overflow_add-at-2 c = omega (arith, c.requires.3.0, bytes-end c.args.volume.now c.args.layout c.requires.0 c.args.pointer _ c.requires.1)

pub slice_bounds-copy-end : goal.slice_bounds-copy-end
slice_bounds-copy-end c = omega (arith, c.requires.3.0, bytes-end c.args.volume.now c.args.layout c.requires.0 c.args.pointer _ c.requires.1)

pub returns : goal.returns
returns c =
    piece-put c.args.volume.now c.args.layout c.requires.0 c.args.pointer c.requires.3.0 c.requires.1 c.args.from c.args.bytes.now c.requires.2 c.copy.ensures
