-- Believed: what the call that cuts a path leaves, and what its bounds show of the path.
-- Assumes nothing.
use Rattle.std.specs.Prelude.{◌≡◌, ℕ, zero, suc, ◌+◌, ◌≤◌, ◌<◌, Bool, List, [], ◌∷◌, length, get_or, ltb, Result, Ok, Err}
use Rattle.words.specs.Bytes.{part}
use Rattle.words.specs.Rules.{both}
use Rattle.types.specs.Sizes.{most_path, most_parts}
use Rattle.types.specs.declared.Error.{Error}
use Rattle.types.specs.declared.Error.TheVariants.{PathNotPermitted, InvalidArgument}
use Rattle.types.specs.Answers.{Answer, number}
use Rattle.paths.specs.declared.Parts.{Parts}
use Rattle.paths.specs.declared.PathError.{PathError}
use Rattle.paths.specs.declared.PathError.TheVariants.{NotPermitted, TooLong}
use Rattle.paths.specs.Path.{Cutting, parts, not_permitted, too_long}

-- how many parts, and whether the last piece was open and a part is left; or the refusal
abbrev pub Cut : Type 0
Cut = Result Parts PathError

-- what the call leaves: its answer and the two arrays
pub record Cutout : Type 0 where
  pub cut : Cut
  pub starts : List ℕ
  pub lengths : List ℕ

abbrev pub cutout : Cut → List ℕ → List ℕ → Cutout
cutout c ss ls = record { cut = c; starts = ss; lengths = ls }

-- the parts that bounds show of a path
unfoldable pub shown_from : List ℕ → List ℕ → List ℕ → ℕ → ℕ → List (List ℕ)
shown_from path ss ls i zero = []
shown_from path ss ls i (suc n) = part path (get_or ss i 0) (get_or ls i 0) ∷ shown_from path ss ls (i + 1) n

unfoldable pub shown_parts : List ℕ → List ℕ → List ℕ → ℕ → List (List ℕ)
shown_parts path ss ls n = shown_from path ss ls 0 n

abbrev pub shown_cut : List ℕ → Cut → List ℕ → List ℕ → Cutting
shown_cut path (Ok p) ss ls = parts (shown_parts path ss ls p.count)
shown_cut path (Err NotPermitted) ss ls = not_permitted
shown_cut path (Err TooLong) ss ls = too_long

-- the bounds of n parts lie in the path: none is empty, and a u16 holds each
pub record BoundsFit (path ss ls : List ℕ) (n : ℕ) : Type 0 where
  pub few : n ≤ most_parts
  pub short : length path ≤ most_path
  pub within : (i : ℕ) → i < n → get_or ss i 0 + get_or ls i 0 ≤ length path
  pub some : (i : ℕ) → i < n → 0 < get_or ls i 0

-- an outcome shows what the definition over lists gives, and its flag says whether the last piece was open and a part is left
pub record CutShows (path : List ℕ) (o : Cutout) (c : Cutting) (opened : Bool) : Type 0 where
  pub shows : shown_cut path o.cut o.starts o.lengths ≡ c
  pub fits : (p : Parts) → o.cut ≡ Ok p → BoundsFit path o.starts o.lengths p.count
  pub flag : (p : Parts) → o.cut ≡ Ok p → p.opened ≡ both opened (ltb 0 p.count)

-- the refusal of a path in the scope's words
abbrev pub path_refusal : PathError → Error
path_refusal NotPermitted = PathNotPermitted
path_refusal TooLong = InvalidArgument

abbrev pub RefusedAs : PathError → Error → Type 0
RefusedAs e r = r ≡ path_refusal e

-- what a cut answers in the scope's words: how many parts, or the refusal
abbrev pub cut_answer : Cut → Answer
cut_answer (Ok p) = Ok p.count
cut_answer (Err e) = Err (path_refusal e)

abbrev pub cut_number : Cut → ℕ
cut_number c = number (cut_answer c)
