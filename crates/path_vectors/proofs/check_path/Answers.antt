use Rattle.std.proofs.Common.{ℕ, replicate, refl}
use Rattle.paths.proofs.Bounds.{cut-told}
use Rattle.path_vectors.proofs.check_path.Goals as goal

pub compare_parts-requires : goal.compare_parts-requires
compare_parts-requires c =
    (cut-told c.args.path.now (replicate {A = ℕ} 2048 0) (replicate {A = ℕ} 2048 0) refl refl c.get_path_parts-cut.ensures).fits _ c.in-Ok.is
