-- Believed: every pointer ever given out is live once or free once: by counting, over the chunk size.
-- Assumes nothing.
use Rattle.std.specs.Prelude.{◌≡◌, ℕ, zero, suc, ◌+◌, ◌%◌, ◌<◌, List, [], ◌∷◌, eqb, ltb}
use Rattle.words.specs.Rules.{both, bit, count}
use Rattle.allocator.specs.Allocator.{Allocator, free, allocate}

-- 1 at the multiples of S below the next new pointer, else 0
unfoldable pub due : ℕ → ℕ → ℕ → ℕ
due s next p = bit (both (ltb p next) (eqb (p % s) 0))

-- aligned, and below the next new pointer
pub record Due (s next p : ℕ) : Type 0 where
  pub lined : p % s ≡ 0
  pub low : p < next

-- live pointers and free pointers together are the due ones, each once
unfoldable pub Accounted : Allocator → List ℕ → Type 0
Accounted a live = (p : ℕ) → count p live + count p (free a) ≡ due a.chunk_size a.next_ptr p

-- the pointers that so many allocations give, the first first
unfoldable pub allocations : ℕ → Allocator → List ℕ
allocations zero a = []
allocations (suc n) a = (allocate a).pointer ∷ allocations n (allocate a).after
