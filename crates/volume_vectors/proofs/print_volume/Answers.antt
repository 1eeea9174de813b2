use Rattle.std.proofs.Common.{sym, arith}
use Rattle.std.proofs.lemmas.List.{length-take-le}
use Rattle.volume_vectors.proofs.print_volume.Goals as goal

pub slice_bounds-print_words-end : goal.slice_bounds-print_words-end
slice_bounds-print_words-end g c = sym (length-take-le 64 c.args.volume.now (omega arith))
