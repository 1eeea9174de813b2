-- Every pointer ever given out is live once or free once, under allocate and free, for any list of live ones and over the chunk size.
-- Assumes nothing.
use mathlib.Core.Path.{◌≡◌, refl, ap, ◌∙◌}
use mathlib.Core.Bool.{Bool, true, false}
use mathlib.Core.List.{List, [], ◌∷◌, ◌++◌}
use Prim.Native.Nat.{ℕ, zero, suc, ◌+◌, ◌-◌, ◌*◌, ◌%◌, ◌≤◌, ◌<◌}
use native.Mathlib.Nat.{zero-mul, suc-mul, add-zero}
use native.Mathlib.Numerals.{add-one}
use native.Mathlib.Omega.{arith}
use native.Mathlib.Decide.{dec_lt}
use lib.Dec.{eqb, ltb}
use lib.ListN.{length, take, get_or}
use lib.Seq.{take-suc, take-suc-set, get_or-set_same, take-set-le}
use Rattle.words.specs.Rules.{both, bit, count, Says, holds, fails}
use Rattle.words.proofs.Rules.{says-eqb, says-ltb}
use Rattle.words.proofs.Counting.{count-cons, count-snoc, bit-most}
use Rattle.words.proofs.Multiples.{gap, lined-next}
use Rattle.allocator.specs.Allocator.{Allocator, free, allocate, release, reused, grown, Allocation}
use Rattle.allocator.specs.Pointers.{due, Due, Accounted, allocations}
use Rattle.allocator.proofs.AllocateCases.{Way, new, last, way, takes-new, takes-last}

-- ---- the pointers due

pub due-none : (s next p : ℕ) → next ≤ p → due s next p ≡ 0
unfolding due both bit
due-none s next p h = go (ltb p next) (says-ltb p next)
  where
    go : (t : Bool) → Says (p < next) t → bit (both t (eqb (p % s) 0)) ≡ 0
    go true (holds x) = absurd (omega arith)
    go false (fails x) = refl

pub due-most : (s next p : ℕ) → due s next p ≤ 1
unfolding due
due-most s next p = bit-most (both (ltb p next) (eqb (p % s) 0))

pub due-facts : (s next p : ℕ) → 1 ≤ due s next p → Due s next p
unfolding due both bit
due-facts s next p h = go (ltb p next) (says-ltb p next) (eqb (p % s) 0) (says-eqb (p % s) 0) h
  where
    go : (a : Bool) → Says (p < next) a → (b : Bool) → Says (p % s ≡ 0) b → 1 ≤ bit (both a b) → Due s next p
    go true (holds x) true (holds y) z = record { lined = y; low = x }
    go true (holds x) false (fails y) z = absurd (omega arith)
    go false (fails x) b y z = absurd (omega arith)

pub due-one : (s next p : ℕ) → p % s ≡ 0 → p < next → due s next p ≡ 1
unfolding due both bit
due-one s next p l h = go (ltb p next) (says-ltb p next) (eqb (p % s) 0) (says-eqb (p % s) 0)
  where
    go : (a : Bool) → Says (p < next) a → (b : Bool) → Says (p % s ≡ 0) b → bit (both a b) ≡ 1
    go true (holds x) true (holds y) = refl
    go true (holds x) false (fails y) = absurd (y l)
    go false (fails x) b y = absurd (x h)

-- word 3 grows by a chunk: one pointer more is due
pub due-next : (s next p : ℕ) → 0 < s → next % s ≡ 0 → due s (next + s) p ≡ bit (eqb next p) + due s next p
unfolding due both bit
due-next s next p pos h = go (ltb p next) (says-ltb p next) (ltb p (next + s)) (says-ltb p (next + s)) (eqb (p % s) 0) (says-eqb (p % s) 0) (eqb next p) (says-eqb next p)
  where
    go : (a : Bool) → Says (p < next) a → (b : Bool) → Says (p < next + s) b → (c : Bool) → Says (p % s ≡ 0) c → (d : Bool) → Says (next ≡ p) d
        → bit (both b c) ≡ bit d + bit (both a c)
    go true (holds x) true (holds y) c l true (holds e) = absurd (omega arith)
    go true (holds x) true (holds y) true (holds l) false (fails e) = refl
    go true (holds x) true (holds y) false (fails l) false (fails e) = refl
    go true (holds x) false (fails y) c l d e = absurd (y (omega arith))
    go false (fails x) true (holds y) true (holds l) true (holds e) = refl
    go false (fails x) true (holds y) true (holds l) false (fails e) = absurd (wide (dec_lt next p))
      where
        wide : Dec (next < p) → ⊥
        wide (yes k) = omega (arith, gap s next p pos h l k)
        wide (no k) = e (let q : next ≡ p = omega arith in q)
    go false (fails x) true (holds y) false (fails l) true (holds e) = absurd (l (rw (← e) h))
    go false (fails x) true (holds y) false (fails l) false (fails e) = refl
    go false (fails x) false (fails y) c l true (holds e) = absurd (y (omega arith))
    go false (fails x) false (fails y) c l false (fails e) = refl

-- ---- the account is kept

-- the free pointers, the last of them apart
last-free : (a : Allocator) → (a.free_count ≡ 0 → ⊥) → a.free_count ≤ length a.words → free a ≡ take (a.free_count - 1) a.words ++ (get_or a.words (a.free_count - 1) 0 ∷ [])
unfolding free
last-free a e h =
    let n : a.free_count ≡ suc (a.free_count - 1) = omega arith in
    ap (λ (k : ℕ). take k a.words) n ∙ take-suc a.words (a.free_count - 1) 0 (omega arith)

pub allocate-accounts : (a : Allocator) (live : List ℕ) → 0 < a.chunk_size → a.next_ptr % a.chunk_size ≡ 0 → a.free_count ≤ length a.words → Accounted a live
    → Accounted (allocate a).after ((allocate a).pointer ∷ live)
unfolding Accounted free
allocate-accounts a live pos l h acc = go (allocate a) (way a)
  where
    grows : Accounted (grown a).after ((grown a).pointer ∷ live)
    grows p = omega (arith, acc p, count-cons p a.next_ptr live, due-next a.chunk_size a.next_ptr p pos l)

    pops : (a.free_count ≡ 0 → ⊥) → Accounted (reused a).after ((reused a).pointer ∷ live)
    pops e p =
        let q = get_or a.words (a.free_count - 1) 0 in
        let c : count p (free a) ≡ bit (eqb q p) + count p (take (a.free_count - 1) a.words) = ap (count p) (last-free a e h) ∙ count-snoc p q (take (a.free_count - 1) a.words) in
        omega (arith, acc p, count-cons p q live)

    go : (t : Allocation) → Way a t → Accounted t.after (t.pointer ∷ live)
    go t (new e) = grows
    go t (last e) = pops e

-- word 3 stays a multiple of the chunk size
pub allocate-lined : (a : Allocator) → a.next_ptr % a.chunk_size ≡ 0 → (allocate a).after.next_ptr % (allocate a).after.chunk_size ≡ 0
allocate-lined a l = go (allocate a) (way a)
  where
    go : (t : Allocation) → Way a t → t.after.next_ptr % t.after.chunk_size ≡ 0
    go t (new e) = lined-next a.chunk_size a.next_ptr l
    go t (last e) = l

-- a pointer freed comes behind the others
pub freed-words : (a : Allocator) (p : ℕ) → a.free_count < length a.words → free (release p a) ≡ free a ++ (p ∷ [])
unfolding free release
freed-words a p h = rw (add-one a.free_count) (take-suc-set a.words a.free_count p h)

-- ---- what the account says: once each, aligned, below word 3

pub live-once : (a : Allocator) (live : List ℕ) (p : ℕ) → Accounted a live → 1 ≤ count p live → (count p live ≡ 1) × (count p (free a) ≡ 0) × Due a.chunk_size a.next_ptr p
unfolding Accounted
live-once a live p acc h =
    let m = due-most a.chunk_size a.next_ptr p in
    (omega (arith, acc p), omega (arith, acc p), due-facts a.chunk_size a.next_ptr p (omega (arith, acc p)))

pub free-once : (a : Allocator) (live : List ℕ) (p : ℕ) → Accounted a live → 1 ≤ count p (free a) → (count p (free a) ≡ 1) × (count p live ≡ 0) × Due a.chunk_size a.next_ptr p
unfolding Accounted
free-once a live p acc h =
    let m = due-most a.chunk_size a.next_ptr p in
    (omega (arith, acc p), omega (arith, acc p), due-facts a.chunk_size a.next_ptr p (omega (arith, acc p)))

-- ---- in which order pointers come

-- the pointer last freed comes first, and the free pointers are as before
pub last-freed : (a : Allocator) (p : ℕ) → a.free_count < length a.words → ((allocate (release p a)).pointer ≡ p) × (free (allocate (release p a)).after ≡ free a)
unfolding free release
last-freed a p h =
    let e : a.free_count + 1 - 1 ≡ a.free_count = omega arith in
    rw (takes-last (release p a) (λ z. omega arith), e) (get_or-set_same a.words a.free_count p 0 h, take-set-le a.free_count a.words a.free_count p (omega arith))

-- with none free they are word 3, one chunk further, two chunks ..: from a new allocator 0, S, 2S
pub new-pointers : (n : ℕ) (a : Allocator) → a.free_count ≡ 0 → (k : ℕ) → k < n → get_or (allocations n a) k 0 ≡ a.next_ptr + k * a.chunk_size
unfolding allocations
new-pointers zero a e k h = absurd (omega arith)
new-pointers (suc n) a e zero h = rw (takes-new a e, zero-mul, add-zero)
new-pointers (suc n) a e (suc k) h =
    rw (takes-new a e, suc-mul) (new-pointers n (grown a).after e k (omega arith) ∙ omega arith)
