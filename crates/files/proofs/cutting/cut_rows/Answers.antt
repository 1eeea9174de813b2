use borrow.Author.Rules.{rules}
use Rattle.store.proofs.CutRows.{of_node}
use Rattle.files.proofs.FreeSteps.{cut-frees, cut-removes, cut-done}
use Rattle.files.proofs.cutting.cut_rows.Goals as goal

pub free_rows-requires : goal.free_rows-requires
free_rows-requires c =
    cut-frees c.args.volume.now c.args.layout c.requires.0 c.requires.1 c.args.node c.args.first c.requires.2 (c.count_leading-n.ensures (of_node c.args.node) (λ row b k. search rules))

pub remove_chunks-requires : goal.remove_chunks-requires
remove_chunks-requires c =
    cut-removes c.args.volume.now c.args.layout c.requires.0 c.requires.1 c.args.node c.args.first c.requires.2 (c.count_leading-n.ensures (of_node c.args.node) (λ row b k. search rules)) c.free_rows.ensures

pub returns : goal.returns
returns c =
    cut-done c.args.volume.now c.args.layout c.requires.0 c.requires.1 c.args.node c.args.first c.requires.2 (c.count_leading-n.ensures (of_node c.args.node) (λ row b k. search rules)) c.free_rows.ensures c.remove_chunks.ensures
