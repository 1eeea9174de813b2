use Rattle.soundness.proofs.PointerRules.{mul-fits}
use Rattle.soundness.proofs.pointers.next_fits.Goals as goal

pub overflow_mul-result : goal.overflow_mul-result
overflow_mul-result c =
    record { fits = mul-fits c.args.chunks c.args.span c.requires.2 c.requires.1 }
