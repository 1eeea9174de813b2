-- Laws of `little_endian`, `spell` and `num`; what is read of bytes is what is laid out again.
-- Assumes nothing.
use mathlib.Core.Path.{◌≡◌, refl, sym, ap, ◌∙◌}
use mathlib.Core.List.{List, [], ◌∷◌, ◌++◌}
use Prim.Native.Nat.{ℕ, zero, suc, ◌+◌, ◌-◌, ◌*◌, ◌/◌, ◌%◌, ◌^◌, ◌≤◌, ◌<◌}
use native.Mathlib.Nat.{zero-add, suc-add, pow-suc, pow-succ', mul_assoc, mul-add, div-div-eq-div-mul, div-one}
use native.Mathlib.Omega.{arith}
use native.Mathlib.Decide.{dec_lt}
use lib.ListN.{length, take, drop, get_or, length-append, length-take, length-drop, get_or-eq_default}
use lib.Seq.{get_or-take, get_or-drop, drop-cons, take-suc, take_at, take_all, length-take-le}
use mir.Syntax.{w64}
use Rattle.std.specs.Int.{to_le_bytes, from_le_bytes, bytes_low_first, byte_at, byte_worth, sum_through}
use Rattle.words.specs.Bytes.{part, over, zeros, little_endian, spell, num, Bytes}
use Rattle.words.proofs.Parts.{length_part, length_over, part-add, part-mid, part-over-before, part-over-after, part-part, length-zeros}

pub little-endian-append : (a b : List ℕ) → little_endian (a ++ b) ≡ little_endian a + 256 ^ length a * little_endian b
unfolding little_endian
little-endian-append [] b = omega arith
little-endian-append (x ∷ a) b = rw (little-endian-append a b, pow-succ', mul_assoc, mul-add) (omega arith)

pub length-spell : (n x : ℕ) → length (spell n x) ≡ n
unfolding spell
length-spell zero x = refl
length-spell (suc n) x = ap suc (length-spell n (x / 256))

pub spell-add : (m n x : ℕ) → spell (m + n) x ≡ spell m x ++ spell n (x / 256 ^ m)
unfolding spell
spell-add zero n x = rw (zero-add, div-one)
spell-add (suc m) n x = rw (suc-add, spell-add m n (x / 256), div-div-eq-div-mul, pow-succ')

pub little-endian-spell : (n x : ℕ) → x < 256 ^ n → little_endian (spell n x) ≡ x
unfolding little_endian spell
little-endian-spell zero x h = omega arith
little-endian-spell (suc n) x h = rw (little-endian-spell n (x / 256) (omega (arith, pow-succ' 256 n))) (omega arith)

pub num-add : (m n : ℕ) (l : List ℕ) (at : ℕ) → at + m ≤ length l → num (m + n) l at ≡ num m l at + 256 ^ m * num n l (at + m)
unfolding num
num-add m n l at h = rw (part-add, little-endian-append, length_part l at m h)

pub num-one : (l : List ℕ) (at : ℕ) → at < length l → num 1 l at ≡ get_or l at 0
unfolding num part little_endian
num-one l at h = rw (drop-cons l at 0 h) (omega arith)

pub num-mid : (n : ℕ) (A C : List ℕ) (at x : ℕ) → length A ≡ at → x < 256 ^ n → num n (A ++ (spell n x ++ C)) at ≡ x
unfolding num
num-mid n A C at x ha hx = ap little_endian (part-mid A (spell n x) C at n ha (length-spell n x)) ∙ little-endian-spell n x hx

pub num-over-before : (n : ℕ) (l : List ℕ) (at : ℕ) (bs : List ℕ) (i : ℕ) → at ≤ length l → i + n ≤ at → num n (over l at bs) i ≡ num n l i
unfolding num
num-over-before n l at bs i h e = ap little_endian (part-over-before l at bs i n h e)

pub num-over-after : (n : ℕ) (l : List ℕ) (at : ℕ) (bs : List ℕ) (i : ℕ) → at + length bs ≤ i → at ≤ length l → num n (over l at bs) i ≡ num n l i
unfolding num
num-over-after n l at bs i h e = ap little_endian (part-over-after l at bs i n h e)

pub get_or-over-before : (l : List ℕ) (at : ℕ) (bs : List ℕ) (i : ℕ) → at + length bs ≤ length l → i < at → get_or (over l at bs) i 0 ≡ get_or l i 0
get_or-over-before l at bs i h e =
    sym (num-one (over l at bs) i (rw (length_over l at bs h) (omega arith)))
    ∙ num-over-before 1 l at bs i (omega arith) (omega arith) ∙ num-one l i (omega arith)

pub get_or-over-after : (l : List ℕ) (at : ℕ) (bs : List ℕ) (i : ℕ) → at + length bs ≤ i → i < length l → get_or (over l at bs) i 0 ≡ get_or l i 0
get_or-over-after l at bs i h e =
    sym (num-one (over l at bs) i (rw (length_over l at bs (omega arith)) (omega arith)))
    ∙ num-over-after 1 l at bs i h (omega arith) ∙ num-one l i (omega arith)

pub num-part : (n : ℕ) (l : List ℕ) (at m i : ℕ) → i + n ≤ m → num n (part l at m) i ≡ num n l (at + i)
unfolding num
num-part n l at m i h = ap little_endian (part-part l at m i n h)

-- ---- bytes: what is read is what is laid out again

pub bytes-tail : (x : ℕ) (l : List ℕ) → Bytes (x ∷ l) → Bytes l
unfolding Bytes
bytes-tail x l h i = h (suc i)

bytes-part-of : (l : List ℕ) (at n i : ℕ) → Bytes l → at + n ≤ length l → Dec (i < n) → get_or (part l at n) i 0 < 256
unfolding Bytes part
bytes-part-of l at n i h k (yes b) = rw (get_or-take n (drop at l) i 0 b, get_or-drop) (h (at + i))
bytes-part-of l at n i h k (no b) =
    let e : length (take n (drop at l)) ≤ i = simp (length-take, length-drop) (omega arith) in
    rw (get_or-eq_default (take n (drop at l)) 0 e) (omega arith)

pub bytes-part : (l : List ℕ) (at n : ℕ) → Bytes l → at + n ≤ length l → Bytes (part l at n)
unfolding Bytes
bytes-part l at n h k i = bytes-part-of l at n i h k (dec_lt i n)

pub spell-value : (l : List ℕ) → Bytes l → spell (length l) (little_endian l) ≡ l
unfolding spell little_endian
spell-value [] h = refl
spell-value (x ∷ l) h =
    let b : x < 256 = unfold Bytes in h 0 in
    let m : (x + 256 * little_endian l) % 256 ≡ x = omega arith in
    let d : (x + 256 * little_endian l) / 256 ≡ little_endian l = omega arith in
    rw (m, d, spell-value l (bytes-tail x l h))

pub spell-num : (n : ℕ) (l : List ℕ) (at : ℕ) → Bytes l → at + n ≤ length l → spell n (num n l at) ≡ part l at n
unfolding num
spell-num n l at h k = rw (length_part l at n k) at (spell-value (part l at n) (bytes-part l at n h k))

-- ---- how large a number is

pub little-endian-below : (l : List ℕ) → Bytes l → little_endian l < 256 ^ length l
unfolding little_endian
little-endian-below [] h = omega arith
little-endian-below (x ∷ l) h =
    let b : x < 256 = unfold Bytes in h 0 in
    rw pow-succ' (omega (arith, little-endian-below l (bytes-tail x l h)))

pub num-below : (n : ℕ) (l : List ℕ) (at : ℕ) → Bytes l → at + n ≤ length l → num n l at < 256 ^ n
unfolding num
num-below n l at b h = rw (length_part l at n h) at (little-endian-below (part l at n) (bytes-part l at n b h))

-- ---- the bytes of a u64, as std speaks of them

byte-at : (i x : ℕ) → byte_at i x ≡ x / 256 ^ i % 256
byte-at zero x = rw div-one
byte-at (suc i) x = refl

bytes-low : (i k x : ℕ) → bytes_low_first i k x ≡ spell k (x / 256 ^ i)
unfolding spell
bytes-low i zero x = refl
bytes-low i (suc k) x = rw (byte-at, bytes-low (suc i) k x, div-div-eq-div-mul, pow-suc)

pub to-bytes : (x : ℕ) → to_le_bytes w64 x ≡ spell 8 x
to-bytes x = rw div-one at (bytes-low 0 8 x)

bytes-sum : (l : List ℕ) (k : ℕ) → k < length l → sum_through (λ i. byte_worth i (get_or l i 0)) k ≡ little_endian (take (suc k) l)
unfolding little_endian
bytes-sum l zero h = rw (take-suc l 0 0 h) (omega arith)
bytes-sum l (suc k) h =
    let n : length (take (suc k) l) ≡ suc k = length-take-le (suc k) l (omega arith) in
    let x = get_or l (suc k) 0 in
    rw (take-suc l (suc k) 0 h, little-endian-append, n, bytes-sum l k (omega arith)) (omega arith)

little-endian-zeros : (n m : ℕ) → little_endian (drop n (zeros m)) ≡ 0
unfolding little_endian zeros
little-endian-zeros zero zero = refl
little-endian-zeros zero (suc m) = omega (arith, little-endian-zeros zero m)
little-endian-zeros (suc n) zero = refl
little-endian-zeros (suc n) (suc m) = little-endian-zeros n m

-- a part of at most 8 bytes, filled up with zeros
pub from-bytes : (l : List ℕ) (at n : ℕ) {p : List ℕ} → p ≡ part l at n → n ≤ 8 → at + n ≤ length l → from_le_bytes w64 (p ++ drop n (zeros 8)) ≡ num n l at
unfolding num
from-bytes l at n {p} e h k =
    let m : length p ≡ n = rw e (length_part l at n k) in
    let w : length (p ++ drop n (zeros 8)) ≡ 8 = simp (length-append, length-drop, length-zeros) (omega arith) in
    bytes-sum (p ++ drop n (zeros 8)) 7 (omega arith)
    ∙ rw (take_all 8 (p ++ drop n (zeros 8)) (omega arith), little-endian-append, little-endian-zeros, m, e) (omega arith)

-- the n least bytes of a u64
pub least-bytes : (n x : ℕ) → n ≤ 8 → take n (to_le_bytes w64 x) ≡ spell n x
least-bytes n x h =
    let k : 8 ≡ n + (8 - n) = omega arith in
    rw (to-bytes, k, spell-add) (take_at (spell n x) (spell (8 - n) (x / 256 ^ n)) n (length-spell n x))
