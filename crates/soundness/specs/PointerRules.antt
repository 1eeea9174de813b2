-- Inner: rules of the pointers as tests: word 3, and that each multiple of the chunk size below it stands exactly once among row pointers and free pointers.
-- Each multiple has a mark, which the pointer that stands there sets; if none is set twice, and there are as many pointers as multiples, all are set.
-- Assumes nothing.
use Rattle.std.specs.Prelude.{◌≡◌, ℕ, zero, suc, ◌+◌, ◌*◌, ◌/◌, ◌%◌, Bool, true, List, length, get_or, set, replicate, eqb, leb}
use Rattle.words.specs.Rules.{both, upto}
use Rattle.types.specs.Sizes.{most_rows}
use Rattle.allocator.specs.Opening.{lined}
use Rattle.volume.specs.declared.ChunkRow.{ChunkRow}
use Rattle.tables.specs.Tables.{chunk_at}

-- word 3 is a multiple of S, at most A and C × S
unfoldable pub next_fits : ℕ → ℕ → ℕ → ℕ → Bool
next_fits s next area c = both (eqb (next % s) 0) (both (leb next area) (leb next (c * s)))

-- ---- marks

-- one for each multiple, by pointer / S; as many as a volume may have chunks
abbrev pub unmarked : List ℕ
unmarked = replicate most_rows 0

-- that of a pointer, set
unfoldable pub with_mark : ℕ → ℕ → List ℕ → List ℕ
with_mark s p m = set m (p / s) 1

-- a pointer is aligned, below word 3, and not marked yet
unfoldable pub markable : ℕ → ℕ → ℕ → List ℕ → Bool
markable s next p m = both (lined s next p) (eqb (get_or m (p / s) 0) 0)

-- the marks after the first n of some pointers
unfoldable pub marks_after : ℕ → (ℕ → ℕ) → ℕ → List ℕ → List ℕ
marks_after s p zero m = m
marks_after s p (suc n) m = with_mark s (p n) (marks_after s p n m)

-- each of the first n can be marked in its turn
unfoldable pub all_markable : ℕ → ℕ → (ℕ → ℕ) → ℕ → List ℕ → Bool
all_markable s next p n m = upto n (λ i. markable s next (p i) (marks_after s p i m))

-- what a pass over the first n answers, and the marks that it leaves if it answers yes
abbrev pub Passed : ℕ → ℕ → (ℕ → ℕ) → ℕ → List ℕ → Bool → List ℕ → Type 0
Passed s next p n m r after = (r ≡ all_markable s next p n m) × (r ≡ true → after ≡ marks_after s p n m)

-- ---- row pointers, then free pointers

abbrev pub row_pointer : List ChunkRow → ℕ → ℕ
row_pointer cs i = (chunk_at cs i).pointer

abbrev pub free_pointer : List ℕ → ℕ → ℕ
free_pointer ws i = get_or ws i 0

unfoldable pub pointers_good : ℕ → ℕ → List ChunkRow → List ℕ → Bool
pointers_good s next cs ws =
    both (all_markable s next (row_pointer cs) (length cs) unmarked)
    (both (all_markable s next (free_pointer ws) (length ws) (marks_after s (row_pointer cs) (length cs) unmarked))
    (eqb (length cs + length ws) (next / s)))
