-- Believed: the scope's "Paths", over lists: a path is split at its slashes, and its pieces are folded into parts. Names that are allowed.
-- Assumes nothing.
use Rattle.std.specs.Prelude.{◌≡◌, ℕ, ◌-◌, ◌<◌, Bool, true, not, List, [], ◌∷◌, ◌++◌, length, take, get_or, eqb, leb, ltb}
use Rattle.words.specs.Rules.{pick, both, either, same}
use Rattle.types.specs.Sizes.{most_path, most_name}

abbrev pub slash : ℕ
slash = 47

abbrev pub dot : ℕ
dot = 46

-- a byte in front of the pieces of what follows it: a slash begins a piece of its own
unfoldable pub cons : ℕ → List (List ℕ) → List (List ℕ)
cons b [] = (b ∷ []) ∷ []
cons b (p ∷ ps) = pick (eqb b slash) ([] ∷ (p ∷ ps)) ((b ∷ p) ∷ ps)

-- the pieces between slashes: one more than there are slashes
unfoldable pub split : List ℕ → List (List ℕ)
split [] = [] ∷ []
split (b ∷ bs) = cons b (split bs)

-- an empty piece or `.`
unfoldable pub dropped : List ℕ → Bool
dropped p = either (same p []) (same p (dot ∷ []))

-- `..`
unfoldable pub upward : List ℕ → Bool
upward p = same p (dot ∷ dot ∷ [])

pub data Cutting : Type 0 where
  parts : List (List ℕ) → Cutting
  not_permitted : Cutting
  too_long : Cutting

-- the parts so far, and the pieces to come: `..` drops the part before it, and there must be one
unfoldable pub walk : List (List ℕ) → List (List ℕ) → Cutting
walk ps [] = parts ps
walk ps (p ∷ rest) =
    pick (dropped p) (walk ps rest)
    (pick (upward p) (pick (eqb (length ps) 0) not_permitted (walk (take (length ps - 1) ps) rest))
    (walk (ps ++ (p ∷ [])) rest))

unfoldable pub cut_path : List ℕ → Cutting
cut_path path = pick (ltb most_path (length path)) too_long (pick (eqb (get_or path 0 0) slash) not_permitted (walk [] (split path)))

-- the last piece is no name: empty, `.` or `..`
unfoldable pub ends_open : List ℕ → Bool
ends_open path = either (dropped (get_or (split path) (length (split path) - 1) [])) (upward (get_or (split path) (length (split path) - 1) []))

unfoldable pub no_slash : List ℕ → Bool
no_slash [] = true
no_slash (b ∷ bs) = both (not (eqb b slash)) (no_slash bs)

-- a name, but for its length
pub record IsPart (p : List ℕ) : Type 0 where
  pub some : 0 < length p
  pub whole : no_slash p ≡ true
  pub no_dot : p ≡ dot ∷ [] → ⊥
  pub no_dots : p ≡ dot ∷ dot ∷ [] → ⊥

-- 1 to 255 bytes, no slash, neither `.` nor `..`
unfoldable pub name_allowed : List ℕ → Bool
name_allowed n = both (leb 1 (length n)) (both (leb (length n) most_name) (both (no_slash n) (both (not (same n (dot ∷ []))) (not (same n (dot ∷ dot ∷ []))))))
