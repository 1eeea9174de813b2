-- Believed: what rules ask of a node's kind and of its limit.
-- Assumes nothing.
use Rattle.std.specs.Prelude.{ℕ, Bool, true, false, Option, Some, None}
use Rattle.types.specs.declared.FileType.{FileType}
use Rattle.types.specs.declared.FileType.TheVariants.{Directory, RegularFile, SymbolicLink}
use Rattle.types.specs.Sizes.{most_size}

-- a node's own size limit, if it has one
abbrev pub Limit : Type 0
Limit = Option ℕ

abbrev pub is_directory : FileType → Bool
is_directory Directory = true
is_directory RegularFile = false
is_directory SymbolicLink = false

abbrev pub is_unlimited : Limit → Bool
is_unlimited None = true
is_unlimited (Some most) = false

-- the limit as a number, 0 where there is none
abbrev pub limit_word : Limit → ℕ
limit_word None = 0
limit_word (Some most) = most

-- the row's limit if flagged, else 2^40
abbrev pub file_limit : Limit → ℕ
file_limit None = most_size
file_limit (Some most) = most
