use Rattle.std.proofs.Common.{refl, ap, arith}
use Rattle.types.specs.Answers.{number}
use Rattle.volume_vectors.proofs.Made.{row_fits}
use Rattle.volume_vectors.proofs.make.Goals as goal

pub print_volume-requires : goal.print_volume-requires
print_volume-requires g c =
    omega (arith, row_fits c.args.case.nodes c.args.case.entries c.args.case.chunks c.args.case.size c.fill.new.memory c.new_volume-answer.ensures refl (ap number c.in-Ok.is))
