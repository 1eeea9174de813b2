use mathlib.Core.Path.{refl, sym, ◌∙◌}
use Rattle.words.proofs.Rules.{told}
use Rattle.types.proofs.Results.{or-refused, exit-is}
use Rattle.tables.proofs.TableSearch.{node-found}
use Rattle.directories.proofs.EntrySearch.{directory-missing, directory-file, directory-is}
use Rattle.directories.proofs.listing.directory_there.Goals as goal

pub returns-in_err-place : goal.returns-in_err-place
returns-in_err-place c =
    let n = or-refused _ _ c.in_err-place.ensures.value in
    rw (exit-is _ c.from_residual.ensures.1, n.1) (directory-missing c.args.directory c.args.tables.now.names c.requires n.0 c.find_node.ensures)

pub node_row-row-requires : goal.node_row-row-requires
node_row-row-requires c =
    (node-found c.args.directory c.args.tables.now.names.nodes _ (sym c.in_ok-place.ensures.ok_part ∙ c.find_node.ensures)).0

pub returns-then-not-is_directory : goal.returns-then-not-is_directory
returns-then-not-is_directory c =
    directory-file c.args.directory c.args.tables.now.names c.in_ok-place.ensures.ok_part c.find_node.ensures c.node_row-row.ensures c.is_directory.ensures (told refl c.if-not-is_directory.true)

pub returns : goal.returns
returns c =
    directory-is c.args.directory c.args.tables.now.names c.in_ok-place.ensures.ok_part c.find_node.ensures c.node_row-row.ensures c.is_directory.ensures (told refl c.if-not-is_directory.false)
