-- Believed: kinds as bytes. Of a node, in its row and in calls: 0 is a directory, 1 a regular file, 2 a symbolic link. Of what unlink is to expect: 0 any kind, 1 a directory, 2 a file.
-- Assumes nothing.
use Rattle.std.specs.Prelude.{◌≡◌, ℕ, ◌≤◌, Bool, true, false, eqb, Option, Some, None, Result}
use Rattle.std.specs.Option.{ok_or}
use Rattle.words.specs.Rules.{pick}
use Rattle.types.specs.declared.FileType.{FileType}
use Rattle.types.specs.declared.FileType.TheVariants.{Directory, RegularFile, SymbolicLink}
use Rattle.types.specs.declared.Expected.{Expected}
use Rattle.types.specs.declared.Expected.TheVariants as expected
use Rattle.types.specs.declared.Error.{Error}
use Rattle.types.specs.declared.Error.TheVariants.{InvalidArgument}

-- what a byte means, if anything
abbrev pub Kind : Type 0
Kind = Option FileType

unfoldable pub kind_of : ℕ → Kind
kind_of b = pick (eqb b 0) (Some Directory) (pick (eqb b 1) (Some RegularFile) (pick (eqb b 2) (Some SymbolicLink) None))

-- the byte means a kind
abbrev pub is_known : Kind → Bool
is_known (Some kind) = true
is_known None = false

abbrev pub kind_byte : FileType → ℕ
kind_byte Directory = 0
kind_byte RegularFile = 1
kind_byte SymbolicLink = 2

unfoldable pub wanted_of : ℕ → Option Expected
wanted_of b = pick (eqb b 0) (Some expected.Any) (pick (eqb b 1) (Some expected.Directory) (pick (eqb b 2) (Some expected.File) None))

-- ---- the conversions: a byte that means nothing is an invalid argument

abbrev pub MeansKind : ℕ → Result FileType Error → Type 0
MeansKind b r = r ≡ ok_or (kind_of b) InvalidArgument

abbrev pub SpelledAs : FileType → ℕ → Type 0
SpelledAs kind b = (b ≡ kind_byte kind) × (b ≤ 2)

abbrev pub MeansExpected : ℕ → Result Expected Error → Type 0
MeansExpected b r = r ≡ ok_or (wanted_of b) InvalidArgument
