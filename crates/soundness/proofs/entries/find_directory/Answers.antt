use mathlib.Core.Bool.{not}
use mathlib.Core.Path.{refl, sym, ap, ◌∙◌}
use Rattle.tables.proofs.TableSearch.{node-found}
use Rattle.soundness.proofs.EntryRules.{directory-none, directory-other, directory-there, nothing-at}
use Rattle.soundness.proofs.entries.find_directory.Goals as goal

pub returns-in_err-k : goal.returns-in_err-k
returns-in_err-k c =
    rw c.from_residual.ensures (directory-none c.args.tables.now.names.nodes c.args.node c.in_err-k.ensures refl, λ k e. absurd (nothing-at k e))

pub node_row-requires : goal.node_row-requires
node_row-requires c =
    (node-found c.args.node c.args.tables.now.names.nodes _ c.in_ok-k.ensures).0

pub returns-then-not-is_directory : goal.returns-then-not-is_directory
returns-then-not-is_directory c =
    (directory-other c.args.tables.now.names.nodes c.args.node c.in_ok-k.ensures refl c.node_row.ensures c.is_directory.ensures (ap not c.if-not-is_directory.true), λ k e. absurd (nothing-at k e))

pub returns : goal.returns
returns c =
    (directory-there c.args.tables.now.names.nodes c.args.node c.in_ok-k.ensures refl c.node_row.ensures c.is_directory.ensures (ap not c.if-not-is_directory.false), λ k e. sym e ∙ c.in_ok-k.ensures)
