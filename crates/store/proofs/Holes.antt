-- Indexes without a row, counted from the rows: c indexes less the rows between the first and the last of them.
-- Assumes nothing.
use mathlib.Core.Path.{◌≡◌, refl, sym, ap, ◌∙◌}
use mathlib.Core.Bool.{Bool, true, false}
use mathlib.Core.List.{List}
use mathlib.Core.Option.{Option, none, some}
use Prim.Native.Nat.{ℕ, zero, suc, ◌+◌, ◌-◌, ◌≤◌}
use native.Mathlib.Nat.{add-zero}
use native.Mathlib.Omega.{arith}
use lib.Dec.{ltb}
use lib.ListN.{length, drop}
use Rattle.words.specs.Rules.{both}
use Rattle.words.specs.Tables.{Asc, lead}
use Rattle.words.proofs.Search.{lead-from}
use Rattle.volume.specs.declared.ChunkRow.{ChunkRow}
use Rattle.volume.specs.Search.{chunk_under}
use Rattle.volume.specs.Sound.{chunk_before}
use Rattle.tables.specs.Tables.{chunk_at}
use Rattle.tables.specs.OneRow.{is_chunk, chunk}
use Rattle.store.specs.Room.{hole, missing}
use Rattle.tables.proofs.ChunkCursor.{row-yes, row-no}

hole-most : (o : Option ChunkRow) → hole o ≤ 1
hole-most none = omega arith
hole-most (some c) = omega arith

missing-most : (n c k : ℕ) (cs : List ChunkRow) → missing n c k cs ≤ c
unfolding missing
missing-most n zero k cs = omega arith
missing-most n (suc c) k cs = omega (arith, missing-most n c (suc k) cs, hole-most (chunk n k cs))

module _ (n : ℕ) (cs : List ChunkRow) (asc : Asc chunk_before cs) where
  -- one index: a hole, or one row
  pub hole-lead : (k : ℕ) → hole (chunk n k cs) + lead (chunk_under n (k + 1)) cs ≡ 1 + lead (chunk_under n k) cs
  hole-lead k = go (both (ltb p (length cs)) (is_chunk n k (chunk_at cs p))) refl
    where
      p : ℕ
      p = lead (chunk_under n k) cs

      go : (b : Bool) → both (ltb p (length cs)) (is_chunk n k (chunk_at cs p)) ≡ b → hole (chunk n k cs) + lead (chunk_under n (k + 1)) cs ≡ 1 + lead (chunk_under n k) cs
      go true e = let r = row-yes n k cs asc refl e in rw r.1.0 (omega (arith, r.1.1))
      go false e = let r = row-no n k cs asc refl e in rw r.0 (omega (arith, r.1))

  missing-sum : (c k : ℕ) → missing n c k cs + lead (chunk_under n (k + c)) cs ≡ c + lead (chunk_under n k) cs
  unfolding missing
  missing-sum zero k = rw add-zero
  missing-sum (suc c) k =
      let e : suc k + c ≡ k + suc c = omega arith in
      let f : suc k ≡ k + 1 = omega arith in
      let h : missing n c (suc k) cs + lead (chunk_under n (k + suc c)) cs ≡ c + lead (chunk_under n (k + 1)) cs = rw e at (missing-sum c (suc k)) ∙ ap (λ (x : ℕ). c + lead (chunk_under n x) cs) f in
      omega (arith, hole-lead k)

  -- the rows between the two places are counted from the first on, and are at most c
  module _ (c k : ℕ) {p m : ℕ} (e : p ≡ lead (chunk_under n k) cs) (f : m ≡ lead (chunk_under n (k + c)) (drop p cs)) where
    rows-between : lead (chunk_under n (k + c)) cs ≡ p + m
    rows-between = lead-from (chunk_under n (k + c)) cs p (omega (arith, missing-sum c k, missing-most n c k cs)) ∙ ap (λ (z : ℕ). p + z) (sym f)

    pub rows-most : m ≤ c
    rows-most = omega (arith, rows-between, missing-sum c k)

    pub holes-counted : c - m ≡ missing n c k cs
    holes-counted = omega (arith, rows-between, missing-sum c k)
