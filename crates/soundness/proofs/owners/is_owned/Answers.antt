use mathlib.Core.Path.{refl}
use native.Mathlib.Omega.{arith}
use lib.ListN.{length}
use Rattle.words.proofs.Rules.{upto-start, upto_turn, upto-fail, upto-end}
use Rattle.soundness.specs.OwnerRules.{row_owned, chunks_owned}
use Rattle.soundness.proofs.EntryRules.{found_none, found_some}
use Rattle.soundness.proofs.owners.is_owned.Goals as goal

pub loop-i-init : goal.loop-i-init
loop-i-init c =
    (upto-start (row_owned c.args.tables.now.names c.args.tables.now.store), omega arith)

pub returns-in_default : goal.returns-in_default
unfolding chunks_owned
returns-in_default c =
    upto-fail (row_owned c.args.tables.now.names c.args.tables.now.store) (length c.args.tables.now.store.chunks) c.loop-i.i (omega (arith, c.chunks_used-used.ensures.0)) (found_none c.find_owner.ensures.0 c.in_default.is)

pub loop-i-preserved : goal.loop-i-preserved
loop-i-preserved c =
    (upto_turn (row_owned c.args.tables.now.names c.args.tables.now.store) c.loop-i.i c.loop-i.invariant.0 (found_some c.in-Some.ensures.0 refl), omega (arith, c.in-Some.ensures.1 _ refl))

pub returns : goal.returns
unfolding chunks_owned
returns c =
    upto-end (row_owned c.args.tables.now.names c.args.tables.now.store) (length c.args.tables.now.store.chunks) c.loop-i.i c.loop-i.invariant.0 (omega (arith, c.chunks_used-used.ensures.0))
