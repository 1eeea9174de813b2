-- Believed: tables: rows of one size, one behind another, in an area with room for more. `read` makes a row of its bytes, `lay` its bytes of a row.
-- Assumes nothing.
use Rattle.std.specs.Prelude.{ℕ, zero, suc, ◌+◌, ◌-◌, ◌*◌, Bool, true, false, List, [], ◌∷◌, ◌++◌, length, take, drop}
use Rattle.std.proofs.Math.Option.{Option, none, some}
use Rattle.words.specs.Bytes.{part, spell, zeros}
use Rattle.words.specs.Rules.{pick}

-- the n rows of s bytes from index at
unfoldable pub table : {R : Type 0} → (List ℕ → R) → ℕ → List ℕ → ℕ → ℕ → List R
table read s l at zero = []
table read s l at (suc n) = read (part l at s) ∷ table read s l (at + s) n

-- the bytes of rows
unfoldable pub lay_all : {R : Type 0} → (R → List ℕ) → List R → List ℕ
lay_all lay [] = []
lay_all lay (r ∷ rs) = lay r ++ lay_all lay rs

-- words of 8 bytes
abbrev pub lay_words : List ℕ → List ℕ
lay_words ws = lay_all (spell 8) ws

-- the bytes of a table with room for so many rows of s bytes: its rows, and zeros
unfoldable pub area : {R : Type 0} → (R → List ℕ) → ℕ → ℕ → List R → List ℕ
area lay s room rs = lay_all lay rs ++ zeros (s * (room - length rs))

-- areas, one behind another
unfoldable pub joined : List (List ℕ) → List ℕ
joined [] = []
joined (a ∷ ls) = a ++ joined ls

-- r at index p, and what stood there and behind it one place further
unfoldable pub insert_at : {R : Type 0} → ℕ → R → List R → List R
insert_at p r rs = take p rs ++ (r ∷ drop p rs)

-- rs without the row at index p
unfoldable pub remove_at : {R : Type 0} → ℕ → List R → List R
remove_at p rs = take p rs ++ drop (p + 1) rs

unfoldable pub lead_of : Bool → ℕ → ℕ
lead_of true k = suc k
lead_of false k = 0

-- how many rows at the front pass the test
unfoldable pub lead : {R : Type 0} → (R → Bool) → List R → ℕ
lead f [] = 0
lead f (r ∷ rs) = lead_of (f r) (lead f rs)

-- the first row that passes the test
unfoldable pub find : {R : Type 0} → (R → Bool) → List R → Option R
unfolding pick
find f [] = none
find f (r ∷ rs) = pick (f r) (some r) (find f rs)

-- P holds of every row
unfoldable pub Each : {R : Type 0} → (R → Type 0) → List R → Type 0
Each P [] = Unit {0}
Each P (r ∷ rs) = P r × Each P rs

-- each row stands in the relation to all behind it
unfoldable pub Asc : {R : Type 0} → (R → R → Type 0) → List R → Type 0
unfolding Each
Asc lt [] = Unit {0}
Asc lt (r ∷ rs) = Each (lt r) rs × Asc lt rs

-- rows that pass the test
unfoldable pub only : {R : Type 0} → (R → Bool) → List R → List R
unfolding pick
only f [] = []
only f (r ∷ rs) = pick (f r) (r ∷ only f rs) (only f rs)
