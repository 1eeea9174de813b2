-- Inner: one turn of the walk, as the code takes it: of what sort a piece is, and what it makes of the bounds.
-- Assumes nothing.
use Rattle.std.specs.Prelude.{ℕ, ◌+◌, ◌-◌, true, false, List, set, eqb, Ok, Err}
use Rattle.words.specs.Rules.{pick}
use Rattle.paths.specs.declared.Sort.{Sort}
use Rattle.paths.specs.declared.Sort.TheVariants.{Dropped, Upward, Name}
use Rattle.paths.specs.declared.PathError.TheVariants.{NotPermitted}
use Rattle.paths.specs.Path.{dropped, upward}
use Rattle.paths.specs.Shown.{Cut, Cutout, cutout}

-- of what sort a piece is
unfoldable pub sort_of : List ℕ → Sort
sort_of p = pick (dropped p) Dropped (pick (upward p) Upward Name)

-- what a piece of n bytes from index at leaves, after so many parts
abbrev pub placed_as : Sort → ℕ → ℕ → ℕ → List ℕ → List ℕ → Cutout
placed_as Dropped at n parts ss ls = cutout (Ok (record { count = parts; opened = true })) ss ls
placed_as Upward at n parts ss ls = pick (eqb parts 0) (cutout (Err NotPermitted) ss ls) (cutout (Ok (record { count = parts - 1; opened = true })) ss ls)
placed_as Name at n parts ss ls = cutout (Ok (record { count = parts + 1; opened = false })) (set ss parts at) (set ls parts n)

-- the parts after a piece
abbrev pub parts_after : Cut → ℕ
parts_after (Ok p) = p.count
parts_after (Err e) = 0
