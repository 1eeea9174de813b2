use mathlib.Core.Path.{refl}
use Prim.Native.Nat.{ℕ}
use lib.ListN.{replicate}
use Rattle.paths.specs.Shown.{path_refusal}
use Rattle.paths.proofs.Bounds.{cut-told}
use Rattle.types.proofs.Results.{exit-is}
use Rattle.directories.proofs.PathSteps.{path-uncut, path-few, path-stopped, path-anywhere, path-judged}
use Rattle.directories.proofs.finding.reach_path.Goals as goal

pub returns-in_err-parts : goal.returns-in_err-parts
returns-in_err-parts c =
    rw (exit-is _ {e = path_refusal c.in_err-parts.field-0.0} c.from_residual.ensures.1) (path-uncut c.args.start c.args.path.now c.args.least c.args.tables.now.names c.in_err-parts.field-0.0 (cut-told c.args.path.now (replicate {A = ℕ} 2048 0) (replicate {A = ℕ} 2048 0) refl refl c.in_err-parts.ensures))

pub returns-then-parts-least : goal.returns-then-parts-least
returns-then-parts-least c =
    path-few c.args.start c.args.path.now c.args.least c.args.tables.now.names (cut-told c.args.path.now (replicate {A = ℕ} 2048 0) (replicate {A = ℕ} 2048 0) refl refl c.in_ok-parts.ensures) refl c.if-parts-least.true

pub reach_from-requires : goal.reach_from-requires
reach_from-requires c =
    (c.requires.node_order, c.requires.entry_order, (cut-told c.args.path.now (replicate {A = ℕ} 2048 0) (replicate {A = ℕ} 2048 0) refl refl c.in_ok-parts.ensures).fits _ refl)

pub returns-in_err-reached : goal.returns-in_err-reached
returns-in_err-reached c =
    rw (exit-is _ c.from_residual-in_err-reached.ensures.1) (path-stopped c.args.start c.args.path.now c.args.least c.args.tables.now.names (cut-told c.args.path.now (replicate {A = ℕ} 2048 0) (replicate {A = ℕ} 2048 0) refl refl c.in_ok-parts.ensures) refl c.if-parts-least.false c.in_err-reached.ensures)

pub returns-then-parts : goal.returns-then-parts
returns-then-parts c =
    path-judged c.args.start c.args.path.now c.args.least c.args.tables.now.names (cut-told c.args.path.now (replicate {A = ℕ} 2048 0) (replicate {A = ℕ} 2048 0) refl refl c.in_ok-parts.ensures) refl c.if-parts-least.false c.in_ok-reached.ensures c.if-parts.true c.as_directory.ensures

pub returns : goal.returns
returns c =
    path-anywhere c.args.start c.args.path.now c.args.least c.args.tables.now.names (cut-told c.args.path.now (replicate {A = ℕ} 2048 0) (replicate {A = ℕ} 2048 0) refl refl c.in_ok-parts.ensures) refl c.if-parts-least.false c.in_ok-reached.ensures c.if-parts.false
