-- Inner: the walk of `cut_path` on bounds: where each part starts and how long it is, in two arrays. A part that `..` drops leaves its bounds behind, past the count.
-- Assumes nothing.
use Rattle.std.specs.Prelude.{ℕ, ◌+◌, ◌-◌, Bool, true, false, List, [], ◌∷◌, length, get_or, set, eqb, ltb, Ok, Err}
use Rattle.words.specs.Rules.{pick, both}
use Rattle.types.specs.Sizes.{most_path}
use Rattle.paths.specs.declared.PathError.TheVariants.{NotPermitted, TooLong}
use Rattle.paths.specs.Path.{slash, split, dropped, upward}
use Rattle.paths.specs.Shown.{Cutout, cutout}

-- the two arrays, how many parts they hold, and whether the last piece was no name
pub record Bounds : Type 0 where
  pub starts : List ℕ
  pub lengths : List ℕ
  pub count : ℕ
  pub opened : Bool

abbrev pub passed : Bounds → Bounds
passed b = record { starts = b.starts; lengths = b.lengths; count = b.count; opened = true }

abbrev pub less_one : Bounds → Bounds
less_one b = record { starts = b.starts; lengths = b.lengths; count = b.count - 1; opened = true }

abbrev pub kept : ℕ → ℕ → Bounds → Bounds
kept at n b = record { starts = set b.starts b.count at; lengths = set b.lengths b.count n; count = b.count + 1; opened = false }

-- the pieces to come, the first of which starts at index at
unfoldable pub walk_bounds : ℕ → Bounds → List (List ℕ) → Cutout
walk_bounds at b [] = cutout (Ok (record { count = b.count; opened = both b.opened (ltb 0 b.count) })) b.starts b.lengths
walk_bounds at b (p ∷ rest) =
    pick (dropped p) (walk_bounds (at + length p + 1) (passed b) rest)
    (pick (upward p) (pick (eqb b.count 0) (cutout (Err NotPermitted) b.starts b.lengths) (walk_bounds (at + length p + 1) (less_one b) rest))
    (walk_bounds (at + length p + 1) (kept at (length p) b) rest))

unfoldable pub cut_bounds : List ℕ → List ℕ → List ℕ → Cutout
cut_bounds path ss ls =
    pick (ltb most_path (length path)) (cutout (Err TooLong) ss ls)
    (pick (eqb (get_or path 0 0) slash) (cutout (Err NotPermitted) ss ls)
    (walk_bounds 0 (record { starts = ss; lengths = ls; count = 0; opened = true }) (split path)))
