use mathlib.Core.Path.{refl}
use Rattle.volume.specs.Volume.{shown}
use Rattle.types.proofs.Results.{exit-is}
use Rattle.files.proofs.FileRows.{file-found}
use Rattle.files.proofs.LimitSteps.{limit-refused, limit-above, limit-below, limit-done}
use Rattle.files.proofs.limits.set_limit.Goals as goal

pub returns-in_err-file : goal.returns-in_err-file
returns-in_err-file c =
    rw (exit-is _ c.from_residual.ensures.1) (limit-refused c.args.node c.args.limit c.args.volume.now c.requires.0.formed.same c.requires.1.named.node_order c.in_err-file.ensures)

pub returns-then-limit_word-gt-MOST_SIZE : goal.returns-then-limit_word-gt-MOST_SIZE
returns-then-limit_word-gt-MOST_SIZE c =
    limit-above c.args.node c.args.limit c.args.volume.now c.requires.0.formed.same c.requires.1.named.node_order c.in_ok-file.ensures c.limit_word.ensures c.if-limit_word-gt-MOST_SIZE.true

pub returns-then-file_limit-row : goal.returns-then-file_limit-row
returns-then-file_limit-row c =
    limit-below c.args.node c.args.limit c.args.volume.now c.requires.0.formed.same c.requires.1.named.node_order c.in_ok-file.ensures c.limit_word.ensures c.if-limit_word-gt-MOST_SIZE.false c.file_limit.ensures c.if-file_limit-row.true

pub change_node-requires : goal.change_node-requires
change_node-requires c =
    (c.requires.0, (file-found c.args.node (shown c.args.volume.now).names refl c.in_ok-file.ensures).place)

pub returns : goal.returns
returns c =
    limit-done c.args.node c.args.limit c.args.volume.now c.requires.0.formed.same c.requires.1.named.node_order c.in_ok-file.ensures c.limit_word.ensures c.if-limit_word-gt-MOST_SIZE.false c.file_limit.ensures c.if-file_limit-row.false c.change_node.ensures
