use mathlib.Core.Path.{◌∙◌, ap}
use native.Mathlib.Omega.{arith}
use Rattle.types.proofs.Results.{exit-is}
use Rattle.directories.specs.Reaches.{reach}
use Rattle.directories.proofs.Reaching.{start-missing, reach-start, reach-turn, reach-stop, reach-end}
use Rattle.paths.specs.Shown.{shown_parts}
use Rattle.directories.proofs.finding.reach_from.Goals as goal

pub returns-then-is_none : goal.returns-then-is_none
returns-then-is_none c =
    start-missing c.args.start c.args.tables.now.names _ c.if-is_none.ensures c.find_node.ensures (shown_parts c.args.path.now c.args.starts.now c.args.lengths.now c.args.count)

pub loop-i-init : goal.loop-i-init
loop-i-init c =
    reach-start c.args.start c.args.tables.now.names c.args.path.now c.args.starts.now c.args.lengths.now c.args.count c.if-is_none.ensures c.find_node.ensures

pub part_at-requires : goal.part_at-requires
part_at-requires c =
    (omega (arith, c.loop-i-test.true, c.requires.2.few), c.requires.2.within c.loop-i.i c.loop-i-test.true)

pub returns-in_err-reached : goal.returns-in_err-reached
returns-in_err-reached c =
    rw (exit-is _ c.from_residual.ensures.1) (reach-stop c.args.tables.now.names.entries c.args.path.now c.args.starts.now c.args.lengths.now c.args.count c.loop-i.i c.loop-i-test.true c.loop-i.reached c.loop-i.invariant (c.in_err-reached.ensures ∙ ap (reach c.args.tables.now.names.entries c.loop-i.reached.node) c.part_at.ensures))

pub loop-i-preserved : goal.loop-i-preserved
loop-i-preserved c =
    reach-turn c.args.tables.now.names.entries c.args.path.now c.args.starts.now c.args.lengths.now c.args.count c.loop-i.i c.loop-i-test.true c.loop-i.reached c.loop-i.invariant (c.in_ok-reached.ensures ∙ ap (reach c.args.tables.now.names.entries c.loop-i.reached.node) c.part_at.ensures)

pub returns : goal.returns
returns c =
    reach-end c.args.tables.now.names.entries c.args.path.now c.args.starts.now c.args.lengths.now c.args.count c.loop-i.i (omega arith) c.loop-i.invariant
