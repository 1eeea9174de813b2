-- Laws of kinds and limits as bytes: the test of a kind's byte, the case that a limit's flag means, and that nothing is lost from a case to its bytes and back.
-- Assumes nothing.
use Rattle.std.specs.Prelude.{Some, None}
use mathlib.Core.Path.{◌≡◌, refl, sym}
use mathlib.Core.Logic.{◌⊎◌, inl, inr}
use Prim.Native.Nat.{ℕ, ◌≤◌}
use native.Mathlib.Omega.{arith}
use borrow.Author.Tests.{ne_eqb}
use Rattle.words.specs.Rules.{pick}
use Rattle.types.specs.Kinds.{Kind, kind_of, is_known}
use Rattle.types.specs.Nodes.{Limit}
use Rattle.types.specs.Nodes.{limit_word}
use Rattle.volume.specs.Kinds.{limit_of, limit_flag}

-- ---- a kind's byte

-- the test of a byte that was read, by the case that it means
pub known_as : {n b : ℕ} {kind case : Kind} → b ≡ n → kind ≡ kind_of b → kind ≡ case → is_known (kind_of n) ≡ is_known case
known_as read means is = rw (← read, ← means, is)

-- ---- the limit that bytes mean

pub no-limit : {flag : ℕ} (word : ℕ) → flag ≡ 0 → None ≡ limit_of flag word
unfolding limit_of pick
no-limit word e = rw e

pub one-limit : (flag word : ℕ) → (flag ≡ 0 → ⊥) → Some word ≡ limit_of flag word
unfolding limit_of pick
one-limit flag word h = rw (ne_eqb flag 0 h)

-- ---- there and back

pub limit-of-bytes : (m : Limit) → limit_of (limit_flag m) (limit_word m) ≡ m
limit-of-bytes None = sym (no-limit 0 refl)
limit-of-bytes (Some most) = sym (one-limit 1 most (λ e. omega arith))

-- a flag is 0 or 1, and without it the word is 0
pub bytes-of-limit : (flag word : ℕ) {most : ℕ} → ((flag ≡ 0) × (word ≡ 0)) ⊎ ((flag ≡ 1) × (word ≤ most)) → (limit_flag (limit_of flag word) ≡ flag) × (limit_word (limit_of flag word) ≡ word) × (word ≤ most)
bytes-of-limit flag word (inl h) = rw (← no-limit word h.0) (sym h.0, sym h.1, omega (arith, h.1))
bytes-of-limit flag word (inr h) = rw (← one-limit flag word (λ e. omega (arith, h.0))) (sym h.0, refl, h.1)
