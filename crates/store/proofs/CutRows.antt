-- In the chunk table the rows of one file from an index on are one run: where it starts, and how long it is.
-- Assumes nothing.
use mathlib.Core.Path.{◌≡◌}
use mathlib.Core.Bool.{Bool, true, false, not}
use mathlib.Core.Logic.{inl, inr}
use mathlib.Core.List.{List, ◌++◌}
use Prim.Native.Nat.{ℕ, ◌+◌, ◌≤◌, ◌<◌}
use native.Mathlib.Omega.{arith}
use native.Mathlib.Decide.{dec_lt}
use lib.Dec.{eqb}
use lib.ListN.{take, drop}
use borrow.Author.Tests.{ne_eqb, eqb-false}
use Rattle.words.proofs.Runs.{Past, Run, run, lead-only}
use Rattle.words.specs.Tables.{lead, Asc, only}
use Rattle.words.specs.Rules.{Says, holds, fails}
use Rattle.words.proofs.Rules.{says-true, true-says, says-false, false-says, says-eqb}
use Rattle.words.proofs.Order.{asc-map}
use Rattle.words.proofs.Search.{asc-falls}
use Rattle.volume.specs.declared.ChunkRow.{ChunkRow}
use Rattle.volume.specs.Search.{chunk_under, PairBefore}
use Rattle.volume.specs.Sound.{chunk_before}
use Rattle.volume.proofs.PairOrder.{says-pair, pair-falls}
use Rattle.volume.specs.Volume.{Store}
use Rattle.store.specs.Cut.{goes, cut_from}
use Rattle.store.proofs.Cut.{says-goes}

-- ---- the chunks of a file

abbrev pub of_node : ℕ → ChunkRow → Bool
of_node n r = eqb r.node n

module _ (n c : ℕ) where
  low-stays : (k : ℕ) → k ≤ c → (r : ChunkRow) → chunk_under n k r ≡ true → goes n c r ≡ false
  low-stays k h r e = false-says (says-goes n c r) (stays (says-true (says-pair r.node r.index n k) e))
    where
      stays : PairBefore r.node r.index n k → (r.node ≡ n) × (c ≤ r.index) → ⊥
      stays (inl l) g = omega (arith, g.0)
      stays (inr l) g = omega (arith, l.1, g.1)

  high_goes : (r : ChunkRow) → chunk_under n c r ≡ false → goes n c r ≡ of_node n r
  high_goes r e = go (of_node n r) (says-eqb r.node n)
    where
      index : r.node ≡ n → Dec (r.index < c) → c ≤ r.index
      index q (yes h) = absurd (says-false (says-pair r.node r.index n c) e (inr (q, h)))
      index q (no h) = omega arith

      go : (b : Bool) → Says (r.node ≡ n) b → goes n c r ≡ b
      go true (holds q) = true-says (says-goes n c r) (q, index q (dec_lt r.index c))
      go false (fails q) = false-says (says-goes n c r) (λ g. q g.0)

  past-node : (a b : ChunkRow) → chunk_before a b → Past (chunk_under n c) (of_node n) a b
  past-node a b h u e = ne_eqb b.node n (λ q. apart q (at_least h) (dec_lt a.node n))
    where
      at_least : chunk_before a b → a.node ≤ b.node
      at_least (inl k) = omega arith
      at_least (inr k) = omega (arith, k.0)

      apart : b.node ≡ n → a.node ≤ b.node → Dec (a.node < n) → ⊥
      apart q k (yes l) = says-false (says-pair a.node a.index n c) u (inl l)
      apart q k (no l) = eqb-false a.node n e (let z : a.node ≡ n = omega arith in z)

  -- a cut leaves the place of an index that it does not reach
  pub cut-lead : (k : ℕ) → k ≤ c → (v : Store) → Asc chunk_before v.chunks → lead (chunk_under n k) (cut_from n c v).chunks ≡ lead (chunk_under n k) v.chunks
  unfolding cut_from
  cut-lead k h v sorted =
      lead-only (chunk_under n k) (λ r. not (goes n c r)) (λ r e. rw (low-stays k h r e)) v.chunks
      (asc-falls chunk_before (chunk_under n k) (λ a b l e. pair-falls a.node a.index b.node b.index n k l e) v.chunks sorted)

  -- the rows that go, and those that stay, at the place and the length that code finds
  module _ (cs : List ChunkRow) {p k : ℕ} (sorted : Asc chunk_before cs) (place : p ≡ lead (chunk_under n c) cs) (many : k ≡ lead (of_node n) (drop p cs)) where
    chunk-run : Run (chunk_under n c) (of_node n) (goes n c) (low-stays c (omega arith)) high_goes cs p k
    chunk-run =
        rw (many, place)
        (run (chunk_under n c) (of_node n) (goes n c) (low-stays c (omega arith)) high_goes cs
        (asc-falls chunk_before (chunk_under n c) (λ a b h e. pair-falls a.node a.index b.node b.index n c h e) cs sorted) (asc-map chunk_before (Past (chunk_under n c) (of_node n)) past-node cs sorted))

    pub run-goes : only (goes n c) cs ≡ take k (drop p cs)
    run-goes = chunk-run.0

    pub run-stays : only (λ r. not (goes n c r)) cs ≡ take p cs ++ drop (p + k) cs
    run-stays = chunk-run.1
