use mathlib.Core.Path.{refl}
use mathlib.Core.Bool.{false≢true}
use Prim.Native.Nat.{ℕ}
use native.Mathlib.Omega.{arith}
use lib.ListN.{length}
use Rattle.words.proofs.Rules.{upto-start, upto_turn, upto-fail, upto-end}
use Rattle.tables.proofs.ReadyVolume.{fits-of}
use Rattle.volume.specs.Rows.{Entry}
use Rattle.volume.specs.Sound.{naming, entries_of}
use Rattle.tables.specs.Tables.{entry_at}
use Rattle.soundness.specs.EntryRules.{entry_related, entries_related}
use Rattle.soundness.proofs.EntryRules.{parent-none, target_none, target-some}
use Rattle.soundness.proofs.Counters.{counted_start, counted-low, counted-turn, counted-end, row-there, row-counter}
use Rattle.soundness.proofs.entries.relate_entries.Goals as goal

pub loop-i-init : goal.loop-i-init
loop-i-init c =
    (upto-start (λ (j : ℕ). entry_related c.args.tables.now.names.nodes (entry_at c.args.tables.now.names.entries j)), rw c.requires.1 (counted_start (λ (e : Entry). e.node) c.args.tables.now.names (fits-of c.tables.invariant c.tables.view_is).names), rw c.requires.2 (counted_start (λ (e : Entry). e.parent) c.args.tables.now.names (fits-of c.tables.invariant c.tables.view_is).names), omega arith, omega arith)

pub returns-in_default : goal.returns-in_default
unfolding entries_related
returns-in_default c =
    (upto-fail (λ (j : ℕ). entry_related c.args.tables.now.names.nodes (entry_at c.args.tables.now.names.entries j)) (length c.args.tables.now.names.entries) c.loop-i.i (omega (arith, c.loop-i.invariant.1.0, c.entries_used-used.ensures.0, c.entries_used-used.ensures.1)) (parent-none c.args.tables.now.names.nodes (entry_at c.args.tables.now.names.entries c.loop-i.i) c.entry_parent-parent.ensures _ c.find_directory.ensures.0 c.in_default.is), (λ t. absurd (false≢true t)))

pub returns-in_default-find_near : goal.returns-in_default-find_near
unfolding entries_related
returns-in_default-find_near c =
    (upto-fail (λ (j : ℕ). entry_related c.args.tables.now.names.nodes (entry_at c.args.tables.now.names.entries j)) (length c.args.tables.now.names.entries) c.loop-i.i (omega (arith, c.loop-i.invariant.1.0, c.entries_used-used.ensures.0, c.entries_used-used.ensures.1)) (target_none c.args.tables.now.names.nodes (entry_at c.args.tables.now.names.entries c.loop-i.i) c.entry_parent-parent.ensures _ c.in-Some.ensures.0 refl c.entry_node-node.ensures c.find_near.ensures c.in_default-find_near.is), (λ t. absurd (false≢true t)))

pub bump-requires : goal.bump-requires
bump-requires c =
    (row-counter c.args.tables.now.names (fits-of c.tables.invariant c.tables.view_is).names _ _ (c.in-Some.ensures.1 _ refl), counted-low (λ (e : Entry). e.parent) c.args.tables.now.names (fits-of c.tables.invariant c.tables.view_is).names c.loop-i.i c.loop-i.held c.loop-i.invariant.2 _ (row-there _ c.args.tables.now.names.nodes _ (c.in-Some.ensures.1 _ refl)).0)

pub bump-requires-in-loop-i : goal.bump-requires-in-loop-i
bump-requires-in-loop-i c =
    (row-counter c.args.tables.now.names (fits-of c.tables.invariant c.tables.view_is).names _ _ c.in-Some-find_near.ensures, counted-low (λ (e : Entry). e.node) c.args.tables.now.names (fits-of c.tables.invariant c.tables.view_is).names c.loop-i.i c.loop-i.named c.loop-i.invariant.1 _ (row-there _ c.args.tables.now.names.nodes _ c.in-Some-find_near.ensures).0)

pub loop-i-preserved : goal.loop-i-preserved
loop-i-preserved c =
    (upto_turn (λ (j : ℕ). entry_related c.args.tables.now.names.nodes (entry_at c.args.tables.now.names.entries j)) c.loop-i.i c.loop-i.invariant.0 (target-some c.args.tables.now.names.nodes (entry_at c.args.tables.now.names.entries c.loop-i.i) c.entry_parent-parent.ensures _ c.in-Some.ensures.0 refl c.entry_node-node.ensures c.in-Some-find_near.ensures refl), counted-turn (λ (e : Entry). e.node) c.args.tables.now.names (fits-of c.tables.invariant c.tables.view_is).names c.loop-i.i c.loop-i.named c.loop-i.invariant.1 c.requires.0 (omega (arith, c.loop-i.invariant.1.0, c.entries_used-used.ensures.0, c.entries_used-used.ensures.1)) c.entry_node-node.ensures c.in-Some-find_near.ensures c.bump-in-loop-i.ensures, counted-turn (λ (e : Entry). e.parent) c.args.tables.now.names (fits-of c.tables.invariant c.tables.view_is).names c.loop-i.i c.loop-i.held c.loop-i.invariant.2 c.requires.0 (omega (arith, c.loop-i.invariant.1.0, c.entries_used-used.ensures.0, c.entries_used-used.ensures.1)) c.entry_parent-parent.ensures (c.in-Some.ensures.1 _ refl) c.bump.ensures, omega (arith, row-counter c.args.tables.now.names (fits-of c.tables.invariant c.tables.view_is).names _ _ (c.in-Some.ensures.1 _ refl)), omega (arith, row-counter c.args.tables.now.names (fits-of c.tables.invariant c.tables.view_is).names _ _ c.in-Some-find_near.ensures))

pub returns : goal.returns
unfolding entries_related naming entries_of
returns c =
    (upto-end (λ (j : ℕ). entry_related c.args.tables.now.names.nodes (entry_at c.args.tables.now.names.entries j)) (length c.args.tables.now.names.entries) c.loop-i.i c.loop-i.invariant.0 (omega (arith, c.loop-i.invariant.1.0, c.entries_used-used.ensures.0, c.entries_used-used.ensures.1)), λ t. (counted-end (λ (e : Entry). e.node) c.args.tables.now.names (fits-of c.tables.invariant c.tables.view_is).names c.loop-i.i c.loop-i.named c.loop-i.invariant.1 (omega (arith, c.loop-i.invariant.1.0, c.entries_used-used.ensures.0, c.entries_used-used.ensures.1)), counted-end (λ (e : Entry). e.parent) c.args.tables.now.names (fits-of c.tables.invariant c.tables.view_is).names c.loop-i.i c.loop-i.held c.loop-i.invariant.2 (omega (arith, c.loop-i.invariant.1.0, c.entries_used-used.ensures.0, c.entries_used-used.ensures.1))))
