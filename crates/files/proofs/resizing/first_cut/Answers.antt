use native.Mathlib.Omega.{arith}
use Rattle.tables.proofs.ReadyVolume.{fits-of}
use Rattle.store.proofs.TailSteps.{cut-even, cut-behind, cut-there}
use Rattle.files.proofs.resizing.first_cut.Goals as goal

pub returns-then-end-span-eq0 : goal.returns-then-end-span-eq0
returns-then-end-span-eq0 c =
    cut-even c.args.node c.args.end c.args.tables.now.store c.requires.0 c.requires.2.0 c.requires.1 c.if-end-span-eq0.true

pub overflow_add-result : goal.overflow_add-result
overflow_add-result c =
    omega (arith, cut-behind c.args.node c.args.end c.args.tables.now.store c.requires.0 c.requires.2.0 c.requires.1 c.is_row.ensures c.if-is_row.true c.if-end-span-eq0.false, (fits-of c.tables.invariant c.tables.view_is).store)

pub returns-then-is_row : goal.returns-then-is_row
returns-then-is_row c =
    cut-behind c.args.node c.args.end c.args.tables.now.store c.requires.0 c.requires.2.0 c.requires.1 c.is_row.ensures c.if-is_row.true c.if-end-span-eq0.false

pub returns : goal.returns
returns c =
    cut-there c.args.node c.args.end c.args.tables.now.store c.requires.0 c.requires.2.0 c.requires.1 c.is_row.ensures c.if-is_row.false c.if-end-span-eq0.false
