-- How many pointers an account has: the live and the free ones together are as many as were ever given out. Over the chunk size.
-- Assumes nothing.
use mathlib.Core.Path.{◌≡◌, refl, sym, ◌∙◌}
use mathlib.Core.Bool.{Bool, true, false}
use mathlib.Core.List.{List, [], ◌∷◌, ◌++◌}
use Prim.Native.Nat.{ℕ, zero, suc, ◌+◌, ◌*◌, ◌/◌, ◌%◌, ◌≤◌, ◌<◌}
use native.Mathlib.Nat.{zero-mul, suc-mul, mul-mod_left}
use native.Mathlib.Omega.{arith}
use lib.Dec.{eqb}
use lib.ListN.{length, length-append}
use Rattle.words.specs.Rules.{pick, bit, times, count, Says, holds, fails}
use Rattle.words.proofs.Rules.{says-eqb}
use Rattle.words.proofs.Counting.{bit-same, bit-apart, count-cons, count-append}
use Rattle.words.proofs.Multiples.{whole}
use Rattle.allocator.specs.Allocator.{Allocator, free}
use Rattle.allocator.specs.Pointers.{due, Accounted}
use Rattle.allocator.proofs.Accounts.{due-none, due-next}

-- ---- a list without the first x in it

erase : ℕ → List ℕ → List ℕ
erase x [] = []
erase x (y ∷ ys) = pick (eqb y x) ys (y ∷ erase x ys)

count-erase : (x p : ℕ) (l : List ℕ) → 1 ≤ count x l → count p l ≡ bit (eqb x p) + count p (erase x l)
unfolding count times erase pick
count-erase x p [] h = absurd (omega arith)
count-erase x p (y ∷ ys) h = go (eqb y x) (says-eqb y x) (count-erase x p ys)
  where
    go : (b : Bool) → Says (y ≡ x) b → (1 ≤ count x ys → count p ys ≡ bit (eqb x p) + count p (erase x ys)) → bit (eqb y p) + count p ys ≡ bit (eqb x p) + count p (pick b ys (y ∷ erase x ys))
    go true (holds e) ih = rw e
    go false (fails e) ih = omega (arith, ih (omega (arith, bit-apart y x e)))

length-erase : (x : ℕ) (l : List ℕ) → 1 ≤ count x l → length l ≡ suc (length (erase x l))
unfolding count times erase pick
length-erase x [] h = absurd (omega arith)
length-erase x (y ∷ ys) h = go (eqb y x) (says-eqb y x) (length-erase x ys)
  where
    go : (b : Bool) → Says (y ≡ x) b → (1 ≤ count x ys → length ys ≡ suc (length (erase x ys))) → suc (length ys) ≡ suc (length (pick b ys (y ∷ erase x ys)))
    go true (holds e) ih = refl
    go false (fails e) ih = omega (arith, ih (omega (arith, bit-apart y x e)))

-- ---- a list that has each multiple of S below q × S once, and nothing else

none_in : (l : List ℕ) → ((p : ℕ) → count p l ≡ 0) → length l ≡ 0
none_in [] k = refl
none_in (x ∷ l) k = absurd (omega (arith, k x, count-cons x x l, bit-same x))

due-length : (S : ℕ) → 0 < S → (q : ℕ) (l : List ℕ) → ((p : ℕ) → count p l ≡ due S (q * S) p) → length l ≡ q
due-length S pos zero l h = none_in l (λ p. h p ∙ due-none S (0 * S) p (omega (arith, zero-mul S)))
due-length S pos (suc q) l h =
    let d : (p : ℕ) → due S (suc q * S) p ≡ bit (eqb (q * S) p) + due S (q * S) p = λ p. rw (suc-mul q S) (due-next S (q * S) p pos (mul-mod_left q S)) in
    let c : 1 ≤ count (q * S) l = omega (arith, h (q * S), d (q * S), bit-same (q * S)) in
    let r : length (erase (q * S) l) ≡ q = due-length S pos q (erase (q * S) l) (λ p. omega (arith, h p, d p, count-erase (q * S) p l c)) in
    omega (arith, length-erase (q * S) l c)

-- live and free pointers are as many as were given out
pub all-pointers : (a : Allocator) (live : List ℕ) → 0 < a.chunk_size → a.next_ptr % a.chunk_size ≡ 0 → Accounted a live → length live + length (free a) ≡ a.next_ptr / a.chunk_size
unfolding Accounted
all-pointers a live pos l acc =
    let e = whole a.chunk_size a.next_ptr l in
    sym (length-append live (free a)) ∙ due-length a.chunk_size pos (a.next_ptr / a.chunk_size) (live ++ free a) (λ p. rw e (count-append p live (free a) ∙ acc p))
