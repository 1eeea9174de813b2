use Prim.Native.Nat.{ℕ}
use native.Mathlib.Omega.{arith}
use lib.ListN.{length}
use Rattle.words.proofs.Rules.{told, upto-start, upto_turn, upto-fail, upto-end}
use Rattle.soundness.specs.EntryRules.{name_new, names_once}
use Rattle.soundness.proofs.NameOrder.{order-start}
use Rattle.soundness.proofs.names.names_once.Goals as goal

pub loop-i-init : goal.loop-i-init
loop-i-init c =
    (upto-start (λ (j : ℕ). name_new c.args.tables.now.names.entries j), order-start c.args.tables.now.names.entries _ c.requires)

pub returns-then-not-place_name : goal.returns-then-not-place_name
unfolding names_once
returns-then-not-place_name c =
    upto-fail (λ (j : ℕ). name_new c.args.tables.now.names.entries j) (length c.args.tables.now.names.entries) c.loop-i.i (omega (arith, c.entries_used-used.ensures.0)) (told c.place_name.ensures.0 c.if-not-place_name.true)

pub loop-i-preserved : goal.loop-i-preserved
loop-i-preserved c =
    (upto_turn (λ (j : ℕ). name_new c.args.tables.now.names.entries j) c.loop-i.i c.loop-i.invariant.0 (told c.place_name.ensures.0 c.if-not-place_name.false), c.place_name.ensures.1 c.if-not-place_name.false)

pub returns : goal.returns
unfolding names_once
returns c =
    upto-end (λ (j : ℕ). name_new c.args.tables.now.names.entries j) (length c.args.tables.now.names.entries) c.loop-i.i c.loop-i.invariant.0 (omega (arith, c.entries_used-used.ensures.0))
