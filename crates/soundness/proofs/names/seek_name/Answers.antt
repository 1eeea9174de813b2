use borrow.Author.Rules.{rules}
use native.Mathlib.Omega.{arith}
use Prim.Native.Nat.{ℕ, ◌<◌}
use lib.ListN.{length}
use Rattle.tables.proofs.ReadyVolume.{fits-of}
use Rattle.soundness.specs.NameOrder.{row_at}
use Rattle.soundness.proofs.NameOrder.{under, under-falls, place-split}
use Rattle.soundness.proofs.names.seek_name.Goals as goal

pub seek-requires : goal.seek-requires
seek-requires c =
    let es = c.args.tables.now.names.entries in
    let low : (k : ℕ) → k < c.args.i → k < 4096 = λ k h. omega (arith, h, c.requires.0, (fits-of c.tables.invariant c.tables.view_is).names) in
    let row : (k : ℕ) → k < c.args.i → row_at c.args.order.now k < length es = λ k h. omega (arith, c.requires.0, c.requires.1.rows k h) in
    record { asks = λ k h. let b : k < c.args.i = omega (arith, h) in search (rules, low k b, row k b, c.requires.0) }

pub returns : goal.returns
returns c =
    let es = c.args.tables.now.names.entries in
    place-split es c.args.order.now c.args.i (c.seek.ensures.split (under es c.args.order.now c.args.i) (record { told = λ k t h e. search rules }) (under-falls es c.args.order.now c.args.i c.requires.1))
