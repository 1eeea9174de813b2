-- Inner: entry rows kept in an order of their names, by their numbers in an array: what the array holds, the place of another row, and that row put in.
-- Assumes nothing.
use Rattle.std.specs.Prelude.{◌≡◌, ℕ, ◌+◌, ◌≤◌, ◌<◌, Bool, true, false, List, length, get_or}
use Rattle.words.specs.Tests.{rank}
use Rattle.types.specs.Sizes.{most_rows}
use Rattle.volume.specs.Rows.{Entry}
use Rattle.volume.specs.Search.{pair_before}
use Rattle.tables.specs.Tables.{entry_at}

-- by directory, then by rank: equal names of one directory alone have one place
unfoldable pub name_before : Entry → Entry → Bool
name_before a b = pair_before a.parent (rank a.name) b.parent (rank b.name)

-- the row whose number stands at a place
abbrev pub row_at : List ℕ → ℕ → ℕ
row_at order p = get_or order p 0

-- the first n rows, each at one place, in that order
pub record InOrder (es : List Entry) (order : List ℕ) (n : ℕ) : Type 0 where
  pub long : length order ≡ most_rows
  pub rows : (p : ℕ) → p < n → row_at order p < n
  pub ascend : (p q : ℕ) → p < q → q < n → name_before (entry_at es (row_at order p)) (entry_at es (row_at order q)) ≡ true
  pub all : (k : ℕ) → k < n → (p : ℕ) × (p < n) × (row_at order p ≡ k)

-- where row n would stand: those before the place are before it, and no others
pub record PlaceOf (es : List Entry) (order : List ℕ) (n place : ℕ) : Type 0 where
  pub bound : place ≤ n
  pub before : (p : ℕ) → p < place → name_before (entry_at es (row_at order p)) (entry_at es n) ≡ true
  pub behind : (p : ℕ) → place ≤ p → p < n → name_before (entry_at es (row_at order p)) (entry_at es n) ≡ false

-- row n put in at a place, and those from there on moved up
pub record PutIn (order : List ℕ) (n place : ℕ) (after : List ℕ) : Type 0 where
  pub long : length after ≡ length order
  pub before : (p : ℕ) → p < place → row_at after p ≡ row_at order p
  pub there : row_at after place ≡ n
  pub behind : (p : ℕ) → place ≤ p → p < n → row_at after (p + 1) ≡ row_at order p
