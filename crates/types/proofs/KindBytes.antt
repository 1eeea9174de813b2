-- Laws of kinds as bytes: what each byte means.
-- Assumes nothing.
use Rattle.std.specs.Prelude.{Option, Some, None, Ok, Err, ok_or}
use mathlib.Core.Path.{◌≡◌, refl, sym, ap}
use Prim.Native.Nat.{ℕ, zero, suc, ◌≤◌}
use native.Mathlib.Omega.{arith}
use borrow.Author.Tests.{ne_eqb}
use Rattle.words.specs.Rules.{pick, Says, holds, fails}
use Rattle.types.specs.declared.FileType.{FileType}
use Rattle.types.specs.declared.FileType.TheVariants.{Directory, RegularFile, SymbolicLink}
use Rattle.types.specs.declared.Expected.{Expected}
use Rattle.types.specs.declared.Error.TheVariants.{InvalidArgument}
use Rattle.types.specs.Kinds.{kind_of, is_known, kind_byte, wanted_of, MeansKind, MeansExpected}

-- ---- the kind that a byte means

pub is_known_lem : (k : FileType) {b : ℕ} → b ≡ kind_byte k → Some k ≡ kind_of b
unfolding kind_of pick
is_known_lem Directory e = rw e
is_known_lem RegularFile e = rw e
is_known_lem SymbolicLink e = rw e

pub is-unknown : (b : ℕ) → (b ≡ 0 → ⊥) → (b ≡ 1 → ⊥) → (b ≡ 2 → ⊥) → None ≡ kind_of b
unfolding kind_of pick
is-unknown b p q r = rw (ne_eqb b 0 p, ne_eqb b 1 q, ne_eqb b 2 r)

-- types 0 to 2 are known
pub says-known : (b : ℕ) → Says (b ≤ 2) (is_known (kind_of b))
unfolding kind_of pick
says-known zero = holds (omega arith)
says-known (suc zero) = holds (omega arith)
says-known (suc (suc zero)) = holds (omega arith)
says-known (suc (suc (suc b))) = rw (← is-unknown (suc (suc (suc b))) (λ e. omega arith) (λ e. omega arith) (λ e. omega arith)) (fails (λ h. omega arith))

pub kind-of-byte : (k : FileType) → kind_of (kind_byte k) ≡ Some k
kind-of-byte k = sym (is_known_lem k refl)

pub means_kind : (k : FileType) {b : ℕ} → b ≡ kind_byte k → MeansKind b (Ok k)
means_kind k e = ap (λ (o : Option FileType). ok_or o InvalidArgument) (is_known_lem k e)

pub means-no-kind : (b : ℕ) → (b ≡ 0 → ⊥) → (b ≡ 1 → ⊥) → (b ≡ 2 → ⊥) → MeansKind b (Err InvalidArgument)
means-no-kind b p q r = ap (λ (o : Option FileType). ok_or o InvalidArgument) (is-unknown b p q r)

-- ---- what a byte expects

pub not-wanted : (b : ℕ) → (b ≡ 0 → ⊥) → (b ≡ 1 → ⊥) → (b ≡ 2 → ⊥) → None ≡ wanted_of b
unfolding wanted_of pick
not-wanted b p q r = rw (ne_eqb b 0 p, ne_eqb b 1 q, ne_eqb b 2 r)

pub is-wanted : (want : Expected) {b n : ℕ} → b ≡ n → Some want ≡ wanted_of n → Some want ≡ wanted_of b
is-wanted want e h = rw e h

pub means_wanted : (want : Expected) {b n : ℕ} → b ≡ n → Some want ≡ wanted_of n → MeansExpected b (Ok want)
means_wanted want e h = ap (λ (o : Option Expected). ok_or o InvalidArgument) (is-wanted want e h)

pub means-not-wanted : (b : ℕ) → (b ≡ 0 → ⊥) → (b ≡ 1 → ⊥) → (b ≡ 2 → ⊥) → MeansExpected b (Err InvalidArgument)
means-not-wanted b p q r = ap (λ (o : Option Expected). ok_or o InvalidArgument) (not-wanted b p q r)
