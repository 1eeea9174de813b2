-- A place in the chunk table that follows a node's chunks in order: the first row at or above (n, k) is the row of chunk k or shows
-- that there is none, and either way says where the first row at or above (n, k + 1) is.
-- Assumes nothing.
use mathlib.Core.Path.{◌≡◌, refl, sym, ◌∙◌}
use mathlib.Core.Bool.{Bool, true, false}
use mathlib.Core.Logic.{inl, inr}
use mathlib.Core.List.{List, []}
use mathlib.Core.Option.{none, some}
use Prim.Native.Nat.{ℕ, ◌+◌, ◌<◌}
use native.Mathlib.Omega.{arith}
use native.Mathlib.Decide.{dec_lt}
use lib.Dec.{ltb}
use lib.ListN.{length}
use Rattle.words.specs.Rules.{both, Says}
use Rattle.words.specs.Tables.{Asc, lead}
use Rattle.words.proofs.Rules.{says-true, true-says, says-false, false-says, says-itself, says-eqb, says-ltb, says_both}
use Rattle.words.proofs.Order.{asc-map}
use Rattle.words.proofs.Search.{lead-above, lead-stays, lead-next, asc-falls, find-found, find-missing}
use Rattle.volume.specs.declared.ChunkRow.{ChunkRow}
use Rattle.volume.specs.Rows.{read_chunk}
use Rattle.volume.specs.Search.{chunk_under, PairBefore}
use Rattle.volume.specs.Sound.{chunk_before}
use Rattle.tables.specs.Tables.{chunk_at}
use Rattle.tables.specs.OneRow.{is_chunk, chunk}
use Rattle.volume.proofs.PairOrder.{says-pair, pair-falls}

-- ---- keys (n, k) and (n, k + 1)

module _ (n k : ℕ) where
  pub says-chunk : (c : ChunkRow) → Says ((c.node ≡ n) × (c.index ≡ k)) (is_chunk n k c)
  says-chunk c = says_both (says-eqb c.node n) (says-eqb c.index k)

  pub says-under : (c : ChunkRow) (m : ℕ) → Says (PairBefore c.node c.index n m) (chunk_under n m c)
  says-under c m = says-pair c.node c.index n m

  further : (a b : ℕ) → PairBefore a b n k → PairBefore a b n (k + 1)
  further a b (inl h) = inl h
  further a b (inr h) = inr (h.0, omega (arith, h.1))

  wider : (c : ChunkRow) → chunk_under n k c ≡ true → chunk_under n (k + 1) c ≡ true
  wider c e = true-says (says-under c (k + 1)) (further c.node c.index (says-true (says-under c k) e))

  -- a row behind one that is not under (n, k) is not under (n, k + 1)
  between : (a b c d : ℕ) → PairBefore a b c d → PairBefore c d n (k + 1) → PairBefore a b n k
  between a b c d (inl h) (inl i) = inl (omega arith)
  between a b c d (inl h) (inr i) = inl (omega (arith, i.0))
  between a b c d (inr h) (inl i) = inl (omega (arith, h.0))
  between a b c d (inr h) (inr i) = inr (h.0 ∙ i.0, omega (arith, h.1, i.1))

  after : (a b : ChunkRow) → chunk_before a b → chunk_under n k a ≡ false → chunk_under n (k + 1) b ≡ false
  after a b h e = false-says (says-under b (k + 1)) (λ z. says-false (says-under a k) e (between a.node a.index b.node b.index h z))

  -- the row of chunk k is not under (n, k) but is under (n, k + 1)
  apart : (a b : ℕ) → a ≡ n → b ≡ k → PairBefore a b n k → ⊥
  apart a b p q (inl h) = omega arith
  apart a b p q (inr h) = omega (arith, h.1)

  pub not-under : (c : ChunkRow) → chunk_under n k c ≡ true → is_chunk n k c ≡ false
  not-under c e = false-says (says-chunk c) (λ z. apart c.node c.index z.0 z.1 (says-true (says-under c k) e))

  here-under : (c : ChunkRow) → is_chunk n k c ≡ true → chunk_under n (k + 1) c ≡ true
  here-under c e = let h = says-true (says-chunk c) e in true-says (says-under c (k + 1)) (inr (h.0, omega (arith, h.1)))

  -- another row that is not under (n, k) is not under (n, k + 1)
  only : (a b : ℕ) → PairBefore a b n (k + 1) → (PairBefore a b n k → ⊥) → (a ≡ n) × (b ≡ k)
  only a b (inl h) z = absurd (z (inl h))
  only a b (inr h) z = (h.0, last (dec_lt b k))
    where
      last : Dec (b < k) → b ≡ k
      last (yes i) = absurd (z (inr (h.0, i)))
      last (no i) = omega (arith, h.1)

  other-not-under : (c : ChunkRow) → chunk_under n k c ≡ false → is_chunk n k c ≡ false → chunk_under n (k + 1) c ≡ false
  other-not-under c e h = false-says (says-under c (k + 1)) (λ z. says-false (says-chunk c) h (only c.node c.index z (says-false (says-under c k) e)))

  falls : (a b : ChunkRow) → chunk_before a b → chunk_under n k a ≡ false → chunk_under n k b ≡ false
  falls a b h e = pair-falls a.node a.index b.node b.index n k h e

  passes : (a b : ChunkRow) → chunk_before a b → chunk_under n k a ≡ false → is_chunk n k a ≡ false → is_chunk n k b ≡ false
  passes a b h e q = false-says (says-chunk b) (λ z. says-false (says-under a k) e (first a.node a.index b.node b.index z.0 z.1 h))
    where
      first : (a b c d : ℕ) → c ≡ n → d ≡ k → PairBefore a b c d → PairBefore a b n k
      first a b c d p q h = rw (← p, ← q) h

  -- ---- the first row at or above (n, k)

  module _ (cs : List ChunkRow) (asc : Asc chunk_before cs) {p : ℕ} (e : p ≡ lead (chunk_under n k) cs) where
    -- it is the row of chunk k
    pub row_here : p < length cs → is_chunk n k (chunk_at cs p) ≡ true → (chunk n k cs ≡ some (chunk_at cs p)) × (p + 1 ≡ lead (chunk_under n (k + 1)) cs)
    unfolding chunk
    row_here h q =
        rw e (
          find-found (chunk_under n k) (is_chunk n k) (read_chunk []) not-under cs (rw e at h) (rw e at q),
          sym (lead-next (chunk_under n k) (chunk_under n (k + 1)) (read_chunk []) wider chunk_before after cs asc (rw e at h) (here-under (chunk_at cs (lead (chunk_under n k) cs)) (rw e at q))),
        )

    first-not-under : (b : Bool) → chunk_under n k (chunk_at cs (lead (chunk_under n k) cs)) ≡ b → lead (chunk_under n k) cs < length cs → b ≡ false
    first-not-under true q h = absurd (omega (arith, lead-above (chunk_under n k) cs (lead (chunk_under n k) cs) (read_chunk []) (asc-falls chunk_before (chunk_under n k) falls cs asc) h q))
    first-not-under false q h = refl

    -- it is not, or there is none: chunk k has no row
    pub row-none : (p < length cs → is_chunk n k (chunk_at cs p) ≡ false) → (chunk n k cs ≡ none) × (p ≡ lead (chunk_under n (k + 1)) cs)
    unfolding chunk
    row-none q =
        let w : lead (chunk_under n k) cs < length cs → is_chunk n k (chunk_at cs (lead (chunk_under n k) cs)) ≡ false = rw e at q in (
          find-missing (chunk_under n k) (is_chunk n k) (read_chunk []) not-under cs (asc-falls chunk_before (chunk_under n k) falls cs asc)
              (asc-map chunk_before (λ x y. chunk_under n k x ≡ false → is_chunk n k x ≡ false → is_chunk n k y ≡ false) passes cs asc) w,
          e ∙ sym (lead-stays (chunk_under n k) (chunk_under n (k + 1)) (read_chunk []) wider cs (λ h. other-not-under (chunk_at cs (lead (chunk_under n k) cs)) (first-not-under _ refl h) (w h))),
        )

    -- the two by one test
    pub row-yes : both (ltb p (length cs)) (is_chunk n k (chunk_at cs p)) ≡ true → (p < length cs) × ((chunk n k cs ≡ some (chunk_at cs p)) × (p + 1 ≡ lead (chunk_under n (k + 1)) cs))
    row-yes q = let h = says-true (says_both (says-ltb p (length cs)) (says-itself (is_chunk n k (chunk_at cs p)))) q in (h.0, row_here h.0 h.1)

    pub row-no : both (ltb p (length cs)) (is_chunk n k (chunk_at cs p)) ≡ false → (chunk n k cs ≡ none) × (p ≡ lead (chunk_under n (k + 1)) cs)
    row-no q = row-none (λ h. false-says (says-itself (is_chunk n k (chunk_at cs p))) (λ z. says-false (says_both (says-ltb p (length cs)) (says-itself (is_chunk n k (chunk_at cs p)))) q (h, z)))
