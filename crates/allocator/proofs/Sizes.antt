-- Laws of the accepted sizes, and of setting one.
-- Assumes nothing.
use Rattle.std.specs.Prelude.{Ok, Err}
use mathlib.Core.Path.{◌≡◌, refl, ap, ◌∙◌}
use mathlib.Core.Bool.{Bool, true, false}
use Prim.Native.Nat.{ℕ, ◌^◌, ◌≤◌}
use native.Mathlib.Omega.{arith}
use lib.Count.{ones, count_trailing_zeros}
use lib.Dec.{eqb}
use lib.Pow.{pow_mono}
use Rattle.words.specs.Rules.{pick, Says, holds}
use Rattle.words.proofs.Rules.{says_map, says_both, says-eqb, says-leb, says-true, true-says}
use Rattle.words.proofs.Powers.{one_set, power-ones, power-zeros}
use Rattle.types.specs.declared.Error.{Error}
use Rattle.types.specs.declared.Error.TheVariants.{InvalidArgument}
use Rattle.allocator.specs.Sizes.{least_shift, most_shift, accepted_size}
use Rattle.allocator.specs.Allocator.{Allocator, AllocatorStep, with_size, set_chunk_size}

-- ---- what is accepted: the powers of two whose exponent is 12 to 16

pub record Exponent (s k : ℕ) : Type 0 where
  pub least : least_shift ≤ k
  pub most : k ≤ most_shift
  pub power : s ≡ 2 ^ k

-- the exponent is the number of trailing zeros, and no other is
pub exponent-zeros : {s k : ℕ} → Exponent s k → count_trailing_zeros 64 s ≡ k
exponent-zeros {s} {k} x = rw x.power (power-zeros 64 k (omega (arith, x.most)))

exponent-one : {s k : ℕ} → Exponent s k → ones s ≡ 1
exponent-one {s} {k} x = ap ones x.power ∙ power-ones k

pub says-accepted : (s : ℕ) → Says (Exponent s (count_trailing_zeros 64 s)) (accepted_size s)
unfolding accepted_size
says-accepted s =
    says_map to from (says_both (says-eqb (ones s) 1) (says_both (says-leb least_shift (count_trailing_zeros 64 s)) (says-leb (count_trailing_zeros 64 s) most_shift)))
  where
    to : (ones s ≡ 1) × ((least_shift ≤ count_trailing_zeros 64 s) × (count_trailing_zeros 64 s ≤ most_shift)) → Exponent s (count_trailing_zeros 64 s)
    to h = record { least = h.1.0; most = h.1.1; power = one_set 64 s h.0 (omega (arith, h.1.1)) }

    from : Exponent s (count_trailing_zeros 64 s) → (ones s ≡ 1) × ((least_shift ≤ count_trailing_zeros 64 s) × (count_trailing_zeros 64 s ≤ most_shift))
    from x = (exponent-one x, (x.least, x.most))

pub accepted-exponent : (s : ℕ) → accepted_size s ≡ true → Exponent s (count_trailing_zeros 64 s)
accepted-exponent s e = says-true (says-accepted s) e

-- it has one bit set, so that code divides by it with a shift
pub accepted-one : (s : ℕ) → accepted_size s ≡ true → ones s ≡ 1
accepted-one s e = exponent-one (accepted-exponent s e)

pub exponent-accepted : (k : ℕ) → least_shift ≤ k → k ≤ most_shift → accepted_size (2 ^ k) ≡ true
exponent-accepted k l m =
    let x : Exponent (2 ^ k) k = record { least = l; most = m; power = refl } in
    true-says (says-accepted (2 ^ k)) (rw (exponent-zeros x) x)

-- an accepted size lies between the least and the greatest
pub accepted-bounds : (s : ℕ) → accepted_size s ≡ true → (4096 ≤ s) × (s ≤ 65536)
accepted-bounds s e =
    let x = accepted-exponent s e in
    let l : 2 ^ least_shift ≤ 2 ^ count_trailing_zeros 64 s = pow_mono x.least in
    let m : 2 ^ count_trailing_zeros 64 s ≤ 2 ^ most_shift = pow_mono x.most in
    (omega (arith, x.power), omega (arith, x.power))

-- ---- a size set

-- what holds of a refusal, of the size that is set already, and of another accepted one while word 3 is 0, holds of the call
pub size-cases : (P : AllocatorStep → Type 0) (s : ℕ) (a : Allocator) → ((e : Error) → P (record { answer = Err e; after = a })) → P (record { answer = Ok 0; after = a })
    → (accepted_size s ≡ true → a.next_ptr ≡ 0 → P (record { answer = Ok 0; after = with_size s a })) → P (set_chunk_size s a)
unfolding set_chunk_size pick
size-cases P s a refusal same other = go (accepted_size s) refl (eqb a.chunk_size s) (eqb a.next_ptr 0) (says-eqb a.next_ptr 0)
  where
    go : (b : Bool) → accepted_size s ≡ b → (c d : Bool) → Says (a.next_ptr ≡ 0) d
        → P (pick b (pick c (record { answer = Ok 0; after = a }) (pick d (record { answer = Ok 0; after = with_size s a }) (record { answer = Err InvalidArgument; after = a }))) (record { answer = Err InvalidArgument; after = a }))
    go true e true d z = same
    go true e false true (holds z) = other e z
    go true e false false z = refusal InvalidArgument
    go false e c d z = refusal InvalidArgument
