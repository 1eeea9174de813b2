use Rattle.types.proofs.Results.{exit-is}
use Rattle.directories.proofs.UnlinkSteps.{unlink-stopped, at-asked, unlink-ends}
use Rattle.directories.proofs.unlinking.unlink.Goals as goal

pub returns-in_err-reached : goal.returns-in_err-reached
returns-in_err-reached c =
    rw (exit-is _ c.from_residual.ensures.1) (unlink-stopped c.args.start c.args.path.now c.args.expected c.args.opens c.args.volume.now c.args.layout c.requires.0 c.requires.1 c.in_err-reached.ensures)

pub unlink_at-requires : goal.unlink_at-requires
unlink_at-requires c =
    at-asked c.args.start c.args.path.now c.args.expected c.args.opens c.args.volume.now c.args.layout c.requires.0 c.requires.1 c.in_ok-reached.ensures

pub returns : goal.returns
returns c =
    unlink-ends c.args.start c.args.path.now c.args.expected c.args.opens c.args.volume.now c.args.layout c.requires.0 c.requires.1 c.in_ok-reached.ensures c.unlink_at.ensures
