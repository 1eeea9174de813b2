-- Laws of kinds and limits: what the tests mean, and how much a limit allows.
-- Assumes nothing.
use Rattle.std.specs.Prelude.{Some, None, is_some, not}
use mathlib.Core.Path.{◌≡◌, refl, sym, ap, ◌∙◌}
use mathlib.Core.Bool.{Bool, false, false≢true}
use Prim.Native.Nat.{◌≤◌}
use native.Mathlib.Omega.{arith}
use Rattle.words.specs.Rules.{Says, holds, fails}
use Rattle.words.proofs.Rules.{says-false}
use Rattle.types.specs.declared.FileType.{FileType}
use Rattle.types.specs.declared.FileType.TheVariants.{Directory, RegularFile, SymbolicLink}
use Rattle.types.specs.Nodes.{Limit}
use Rattle.types.specs.Nodes.{is_directory, is_unlimited, limit_word, file_limit}
use Rattle.types.specs.Sizes.{most_size}

pub says-directory : (k : FileType) → Says (k ≡ Directory) (is_directory k)
says-directory Directory = holds refl
says-directory RegularFile = fails (λ e. false≢true (ap is_directory e))
says-directory SymbolicLink = fails (λ e. false≢true (ap is_directory e))

pub no-directory : (k : FileType) → is_directory k ≡ false → k ≡ Directory → ⊥
no-directory k e = says-false (says-directory k) e

pub says-unlimited : (m : Limit) → Says (m ≡ None) (is_unlimited m)
says-unlimited None = holds refl
says-unlimited (Some most) = fails (λ e. false≢true (ap is_unlimited e))

-- no limit allows more than the most that a file can have
pub limit-most : (m : Limit) → limit_word m ≤ most_size → file_limit m ≤ most_size
limit-most None h = omega arith
limit-most (Some n) h = h

-- a limit that was tested
pub limit-told : (m : Limit) {b t : Bool} → b ≡ is_some m → b ≡ t → is_unlimited m ≡ not t
limit-told None e k = sym (ap not (sym k ∙ e))
limit-told (Some most) e k = sym (ap not (sym k ∙ e))
