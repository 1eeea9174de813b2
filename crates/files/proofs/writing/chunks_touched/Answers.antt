use native.Mathlib.Omega.{arith}
use native.Mathlib.Nat.{div-le_self}
use Prim.Native.Nat.{◌+◌, ◌-◌}
use Rattle.words.proofs.Multiples.{div_mono}
use Rattle.files.proofs.writing.chunks_touched.Goals as goal

pub overflow_add-result-2 : goal.overflow_add-result-2
overflow_add-result-2 c =
    omega (arith, div-le_self ((c.args.offset + c.args.count - 1)) c.args.span)

pub overflow_sub-result-2 : goal.overflow_sub-result-2
overflow_sub-result-2 c =
    omega (arith, div_mono {a = c.args.offset} {b = ((c.args.offset + c.args.count - 1))} c.requires.2 (omega arith))

pub returns : goal.returns
returns c =
    (omega arith, omega (arith, div-le_self ((c.args.offset + c.args.count - 1)) c.args.span, div_mono {a = c.args.offset} {b = ((c.args.offset + c.args.count - 1))} c.requires.2 (omega arith)))
