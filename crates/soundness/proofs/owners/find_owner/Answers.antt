use mathlib.Core.Bool.{not}
use mathlib.Core.Path.{refl, sym, ap, ◌∙◌}
use native.Mathlib.Omega.{arith}
use Rattle.tables.proofs.TableSearch.{node-found}
use Rattle.soundness.proofs.EntryRules.{nothing-at}
use Rattle.soundness.proofs.Counters.{row-counter}
use Rattle.tables.proofs.ReadyVolume.{fits-of}
use Rattle.tables.proofs.StoredRows.{row_inside}
use Rattle.soundness.proofs.OwnerRules.{no-owner, by-owner, is-owner, not-owner, node-size}
use Rattle.soundness.proofs.owners.find_owner.Goals as goal

pub returns-in_err-k : goal.returns-in_err-k
returns-in_err-k c =
    rw c.from_residual.ensures (no-owner c.args.tables.now.names c.args.tables.now.store c.args.i c.chunk_row-row.ensures c.in_err-k.ensures refl, λ k e. absurd (nothing-at k e))

pub node_row-owner-requires : goal.node_row-owner-requires
node_row-owner-requires c =
    (node-found _ c.args.tables.now.names.nodes _ c.in_ok-k.ensures).0

pub owned_by-requires : goal.owned_by-requires
owned_by-requires c =
    (c.requires.5, c.requires.4, omega (arith, ap (λ r. r.pointer) c.chunk_row-row.ensures, c.requires.2, row_inside c.args.tables.now.store c.requires.1 (omega (arith, c.requires.2, c.requires.3)) c.args.i c.requires.6), omega (arith, ap (λ r. r.size) c.node_row-owner.ensures, node-size c.args.tables.now.names (fits-of c.tables.invariant c.tables.view_is).names c.requires.0 _ (node-found _ c.args.tables.now.names.nodes _ c.in_ok-k.ensures).0))

pub returns-then-not-owned_by : goal.returns-then-not-owned_by
returns-then-not-owned_by c =
    (not-owner (by-owner c.args.tables.now.names c.args.tables.now.store c.args.i c.chunk_row-row.ensures c.in_ok-k.ensures refl c.node_row-owner.ensures c.requires.2 c.owned_by.ensures) (ap not c.if-not-owned_by.true), λ k e. absurd (nothing-at k e))

pub returns : goal.returns
returns c =
    (is-owner _ (by-owner c.args.tables.now.names c.args.tables.now.store c.args.i c.chunk_row-row.ensures c.in_ok-k.ensures refl c.node_row-owner.ensures c.requires.2 c.owned_by.ensures) (ap not c.if-not-owned_by.false), λ k e. row-counter c.args.tables.now.names (fits-of c.tables.invariant c.tables.view_is).names _ k (sym e ∙ c.in_ok-k.ensures))
