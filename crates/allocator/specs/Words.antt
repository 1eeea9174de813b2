-- Inner: what the allocator's functions ask of its words, and what they read and write there.
-- Assumes nothing.
use Rattle.std.specs.Prelude.{◌≡◌, ℕ, ◌+◌, ◌-◌, ◌*◌, ◌%◌, ◌≤◌, ◌<◌, Bool, List, length, eqb, leb, Option, Some, None}
use Rattle.words.specs.Bytes.{word, over, spell}
use Rattle.words.specs.Rules.{pick, both}
use Rattle.allocator.specs.Sizes.{accepted_size}
use Rattle.allocator.specs.Allocator.{marker, free_room}

-- whole words, at least sixteen, and no more free pointers than words for them
pub record WordsFormed (l : List ℕ) : Type 0 where
  pub least : 128 ≤ length l
  pub whole : length l % 8 ≡ 0
  pub count : 128 + 8 * word l 16 ≤ length l

-- a free pointer, or a next new one that is a number
abbrev pub Takable : List ℕ → Type 0
Takable l = word l 16 ≡ 0 → word l 24 + word l 8 < 18446744073709551616

unfoldable pub last_free : List ℕ → Option ℕ
last_free l = pick (eqb (word l 16) 0) None (Some (word l (128 + 8 * (word l 16 - 1))))

unfoldable pub without_last : List ℕ → List ℕ
without_last l = pick (eqb (word l 16) 0) l (over l 16 (spell 8 (word l 16 - 1)))

-- the whole marker, an accepted size, and no more free pointers than words behind the first sixteen
unfoldable pub well_marked : List ℕ → Bool
well_marked l = both (eqb (word l 0) marker) (both (accepted_size (word l 8)) (leb (word l 16) (free_room l)))
