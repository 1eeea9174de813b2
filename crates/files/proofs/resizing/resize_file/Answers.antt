use Rattle.types.proofs.Results.{exit-is}
use Rattle.files.proofs.ResizeSteps.{resize-refused, row-place, size-asked, resize-above, resize-grown, resize-shrunk}
use Rattle.files.proofs.resizing.resize_file.Goals as goal

pub returns-in_err-file : goal.returns-in_err-file
returns-in_err-file c =
    rw (exit-is _ c.from_residual.ensures.1) (resize-refused c.args.node c.args.size c.args.volume.now c.args.layout c.requires.0 c.requires.1 c.in_err-file.ensures)

pub returns-then-file_limit-size : goal.returns-then-file_limit-size
returns-then-file_limit-size c =
    resize-above c.args.node c.args.size c.args.volume.now c.args.layout c.requires.0 c.requires.1 c.in_ok-file.ensures c.file_limit.ensures c.if-file_limit-size.true

pub change_node-requires : goal.change_node-requires
change_node-requires c =
    row-place c.args.node c.args.size c.args.volume.now c.args.layout c.requires.0 c.requires.1 c.in_ok-file.ensures

pub returns-then-row-size : goal.returns-then-row-size
returns-then-row-size c =
    resize-grown c.args.node c.args.size c.args.volume.now c.args.layout c.requires.0 c.requires.1 c.in_ok-file.ensures c.file_limit.ensures c.if-file_limit-size.false c.if-row-size.true c.change_node.ensures

pub change_node-requires-2 : goal.change_node-requires-2
change_node-requires-2 c =
    size-asked c.args.node c.args.size c.args.volume.now c.args.layout c.requires.0 c.requires.1 c.in_ok-file.ensures c.file_limit.ensures c.if-file_limit-size.false c.if-row-size.false c.resize_file_internal.ensures

pub returns : goal.returns
returns c =
    resize-shrunk c.args.node c.args.size c.args.volume.now c.args.layout c.requires.0 c.requires.1 c.in_ok-file.ensures c.file_limit.ensures c.if-file_limit-size.false c.if-row-size.false c.resize_file_internal.ensures c.change_node-2.ensures
