-- Laws of the scan: where digits start and end, what they spell, and how far a number reaches.
-- Assumes nothing.
use Rattle.std.proofs.Common.{◌≡◌, refl, sym, ap, ◌∙◌, Bool, true, false, cond, not, List, [], ◌∷◌, ◌++◌, ℕ, zero, suc, ◌+◌, ◌-◌, ◌*◌, ◌%◌, ◌≤◌, ◌<◌, map, length, take, drop, get_or, set, arith, add-one, length-drop, nat_le}
use Rattle.std.specs.List.{position_or_len, prefix_len}
use Rattle.std.proofs.Math.ListN.{drop_of_length-le}
use Rattle.std.proofs.Math.Seq.{drop-cons, drop-length, take-suc-set}
use Rattle.std.proofs.lemmas.List.{drop-drop, map-append}
use borrow.Author.Tests.{lt-ltb, le-ltb}
use Rattle.vectors.specs.Scan.{digit, is_digit, from_digit, past_digits, spelled, held, number_at, next_at, numbers_at, after_at}

-- ---- one step of two definitions

module _ (b : ℕ) (bs : List ℕ) where
  pub from_next : 16 ≤ digit b → from_digit (b ∷ bs) ≡ from_digit bs
  unfolding from_digit
  from_next h = rw (le-ltb (digit b) 16 h)

  pub past_next : digit b < 16 → past_digits (b ∷ bs) ≡ past_digits bs
  unfolding past_digits
  past_next h = rw (lt-ltb (digit b) 16 h)

-- ---- the first digit

from-first : (l : List ℕ) → drop (position_or_len is_digit l) l ≡ from_digit l
unfolding from_digit
from-first [] = refl
from-first (b ∷ bs) = go (is_digit b) (from-first bs)
  where
    go : (t : Bool) → drop (position_or_len is_digit bs) bs ≡ from_digit bs → drop (cond (not t) (1 + position_or_len is_digit bs) 0) (b ∷ bs) ≡ cond t (b ∷ bs) (from_digit bs)
    go true e = refl
    go false e = let k : 1 + position_or_len is_digit bs ≡ suc (position_or_len is_digit bs) = omega arith in rw k e

-- a turn of the loop that looks for it, where l is left of the text and starts with b
module _ (b : ℕ) (bs : List ℕ) {l t : List ℕ} (e : l ≡ b ∷ bs) (p : from_digit l ≡ t) where
  pub first-here : is_digit b ≡ true → l ≡ t
  unfolding from_digit
  first-here k = e ∙ sym (ap from_digit e ∙ ap (λ (c : Bool). cond c (b ∷ bs) (from_digit bs)) k) ∙ p

  pub first-behind : is_digit b ≡ false → from_digit bs ≡ t
  unfolding from_digit
  first-behind k = sym (ap from_digit e ∙ ap (λ (c : Bool). cond c (b ∷ bs) (from_digit bs)) k) ∙ p

pub first_end : (l : List ℕ) {t : List ℕ} → length l ≡ 0 → from_digit l ≡ t → l ≡ t
unfolding from_digit
first_end [] h p = p
first_end (b ∷ bs) h p = absurd (omega arith)

-- a digit at index i, where d is its value: the digits start there
pub skip_stop : (l : List ℕ) (i : ℕ) {d : ℕ} → d ≡ digit (get_or l i 0) → i < length l → d < 16 → {t : List ℕ} → from_digit (drop i l) ≡ t → drop i l ≡ t
unfolding from_digit
skip_stop l i e h k p =
    let m : digit (get_or l i 0) < 16 = omega arith in
    drop-cons l i 0 h ∙ (rw (drop-cons l i 0 h, lt-ltb (digit (get_or l i 0)) 16 m) at p)

-- ---- the digits in front, at index i of a text

module _ (l : List ℕ) (i : ℕ) (h : i < length l) where
  pub past-turn : digit (get_or l i 0) < 16 → past_digits (drop (i + 1) l) ≡ past_digits (drop i l)
  unfolding past_digits
  past-turn k = rw (drop-cons l i 0 h, lt-ltb (digit (get_or l i 0)) 16 k, add-one i)

  pub past_stop : 16 ≤ digit (get_or l i 0) → past_digits (drop i l) ≡ drop i l
  unfolding past_digits
  past_stop k = rw (drop-cons l i 0 h, le-ltb (digit (get_or l i 0)) 16 k)

  spelled-next : (x : ℕ) → digit (get_or l i 0) < 16 → spelled x (drop i l) ≡ spelled (x * 16 + digit (get_or l i 0)) (drop (i + 1) l)
  unfolding spelled
  spelled-next x k = rw (drop-cons l i 0 h, lt-ltb (digit (get_or l i 0)) 16 k, add-one i)

  pub spelled-stop : (x : ℕ) → 16 ≤ digit (get_or l i 0) → spelled x (drop i l) ≡ x
  unfolding spelled
  spelled-stop x k = rw (drop-cons l i 0 h, le-ltb (digit (get_or l i 0)) 16 k)

pub past_end : (l : List ℕ) → past_digits (drop (length l) l) ≡ []
unfolding past_digits
past_end l = rw (drop-length l)

pub spelled-end : (x : ℕ) (l : List ℕ) → spelled x (drop (length l) l) ≡ x
unfolding spelled
spelled-end x l = rw (drop-length l)

-- ---- the number so far, modulo 2^64

held-turn : (x y d : ℕ) → held x ≡ held y → held (x * 16 + d) ≡ held (y * 16 + d)
held-turn x y d e = omega arith

spelled-held : (x y : ℕ) (l : List ℕ) → held x ≡ held y → held (spelled x l) ≡ held (spelled y l)
unfolding spelled
spelled-held x y [] e = e
spelled-held x y (b ∷ bs) e = go (is_digit b) (spelled-held (x * 16 + digit b) (y * 16 + digit b) bs (held-turn x y (digit b) e))
  where
    go : (t : Bool) → held (spelled (x * 16 + digit b) bs) ≡ held (spelled (y * 16 + digit b) bs) → held (cond t (spelled (x * 16 + digit b) bs) x) ≡ held (cond t (spelled (y * 16 + digit b) bs) y)
    go true k = k
    go false k = e

wrapped-held : (v d m w : ℕ) → m ≡ held (v * 16) → w ≡ held (m + d) → held w ≡ held (v * 16 + d)
wrapped-held v d m w e f = omega arith

-- the digit at index i read, with wrapping: m is what the product gives, w the sum
pub value-turn : (l : List ℕ) (i v : ℕ) {d m w : ℕ} → i < length l → digit (get_or l i 0) < 16 → d ≡ digit (get_or l i 0) → m ≡ held (v * 16) → w ≡ held (m + d) → held (spelled w (drop (i + 1) l)) ≡ held (spelled v (drop i l))
value-turn l i v {d} {m} {w} h k e f g =
    spelled-held w (v * 16 + digit (get_or l i 0)) (drop (i + 1) l) (wrapped-held v d m w f g ∙ ap (λ (x : ℕ). held (v * 16 + x)) e) ∙ ap held (sym (spelled-next l i h v k))

-- a turn of the loop that reads the digits, where l is left of the text and starts with b
module _ (b : ℕ) (bs : List ℕ) {l : List ℕ} (e : l ≡ b ∷ bs) where
  pub left-turn : digit b < 16 → past_digits bs ≡ past_digits l
  left-turn k = past-turn (b ∷ bs) 0 (omega arith) k ∙ ap past_digits (sym e)

  pub left-stop : 16 ≤ digit b → l ≡ past_digits l
  left-stop k = e ∙ sym (past_stop (b ∷ bs) 0 (omega arith) k) ∙ ap past_digits (sym e)

  pub so-far-turn : (v : ℕ) {d m w : ℕ} → digit b < 16 → d ≡ digit b → m ≡ held (v * 16) → w ≡ held (m + d) → held (spelled w bs) ≡ held (spelled v l)
  so-far-turn v k f g h = value-turn (b ∷ bs) 0 v (omega arith) k f g h ∙ ap (λ (m : List ℕ). held (spelled v m)) (sym e)

  pub so-far-stop : (v : ℕ) → 16 ≤ digit b → spelled v l ≡ v
  so-far-stop v k = ap (spelled v) e ∙ spelled-stop (b ∷ bs) 0 (omega arith) v k

pub left_end : (l : List ℕ) → length l ≡ 0 → l ≡ past_digits l
left_end [] h = sym (past_end [])
left_end (b ∷ bs) h = absurd (omega arith)

pub so-far-end : (v : ℕ) (l : List ℕ) → length l ≡ 0 → spelled v l ≡ v
so-far-end v [] h = spelled-end v []
so-far-end v (b ∷ bs) h = absurd (omega arith)

-- ---- how far a number reaches

past-le : (l : List ℕ) → length (past_digits l) ≤ length l
unfolding past_digits
past-le [] = omega arith
past-le (b ∷ bs) = go (is_digit b) (past-le bs)
  where
    go : (t : Bool) → length (past_digits bs) ≤ length bs → length (cond t (past_digits bs) (b ∷ bs)) ≤ suc (length bs)
    go true k = omega arith
    go false k = omega arith

from_le : (l : List ℕ) → length (from_digit l) ≤ length l
unfolding from_digit
from_le [] = omega arith
from_le (b ∷ bs) = go (is_digit b) (from_le bs)
  where
    go : (t : Bool) → length (from_digit bs) ≤ length bs → length (cond t (b ∷ bs) (from_digit bs)) ≤ suc (length bs)
    go true k = omega arith
    go false k = omega arith

-- a text that is not empty loses a byte
pub less : (l : List ℕ) → length (past_digits (from_digit l)) ≤ length l - 1
unfolding from_digit past_digits
less [] = omega arith
less (b ∷ bs) = go (is_digit b) refl (past-le bs) (past-le (from_digit bs)) (from_le bs)
  where
    go : (t : Bool) → is_digit b ≡ t → length (past_digits bs) ≤ length bs → length (past_digits (from_digit bs)) ≤ length (from_digit bs) → length (from_digit bs) ≤ length bs → length (past_digits (cond t (b ∷ bs) (from_digit bs))) ≤ suc (length bs) - 1
    go true e j k m = rw e (omega arith)
    go false e j k m = omega arith

-- the index r behind the digits that start at index s
pub next_of : (l : List ℕ) (at s r : ℕ) → r ≤ length l → drop s l ≡ from_digit (drop at l) → drop r l ≡ past_digits (drop s l) → r ≡ next_at l at
unfolding next_at
next_of l at s r h p q =
    let e = ap length (q ∙ ap past_digits p) in
    omega (arith, length-drop r l)

-- what they spell
pub number_of : (l : List ℕ) (at s : ℕ) {v : ℕ} → drop s l ≡ from_digit (drop at l) → v ≡ held (spelled 0 (drop s l)) → v ≡ number_at l at
unfolding number_at
number_of l at s p q = q ∙ ap (λ (m : List ℕ). held (spelled 0 m)) p

-- what is left is the end of the text
past-first : (l : List ℕ) → past_digits l ≡ drop (prefix_len is_digit l) l
unfolding past_digits
past-first [] = refl
past-first (b ∷ bs) = go (is_digit b) (past-first bs)
  where
    go : (t : Bool) → past_digits bs ≡ drop (prefix_len is_digit bs) bs → cond t (past_digits bs) (b ∷ bs) ≡ drop (cond t (1 + prefix_len is_digit bs) 0) (b ∷ bs)
    go true e = let k : 1 + prefix_len is_digit bs ≡ suc (prefix_len is_digit bs) = omega arith in rw k e
    go false e = refl

end-of : (l s : List ℕ) (k : ℕ) → s ≡ drop k l → drop (length l - length s) l ≡ s
end-of l s k e = go (nat_le k (length l)) refl
  where
    go : (t : Bool) → nat_le k (length l) ≡ t → drop (length l - length s) l ≡ s
    go true h =
        let g : k ≤ length l = grind arith in
        let m : length l - length s ≡ k = omega (arith, ap length e, length-drop k l) in
        rw m (sym e)
    go false h =
        let g : length l ≤ k = grind arith in
        let m : length l - length s ≡ length l = omega (arith, ap length e, length-drop k l) in
        rw m (drop-length l ∙ sym (drop_of_length-le l g) ∙ sym e)

pub next-left : (l : List ℕ) (at : ℕ) → drop (next_at l at) l ≡ past_digits (from_digit (drop at l))
unfolding next_at
next-left l at =
    let i = position_or_len is_digit (drop at l) in
    let j = prefix_len is_digit (from_digit (drop at l)) in
    let e : from_digit (drop at l) ≡ drop (at + i) l = sym (from-first (drop at l)) ∙ drop-drop i at l in
    end-of l (past_digits (from_digit (drop at l))) (at + i + j) (past-first (from_digit (drop at l)) ∙ ap (drop j) e ∙ drop-drop j (at + i) l)

-- past the last number
pub number-past : (l : List ℕ) → length l ≡ 0 → number_at l 0 ≡ 0
unfolding number_at from_digit spelled
number-past [] h = refl
number-past (b ∷ bs) h = absurd (omega arith)

-- what a reader sees, where d is its text from the first digit on
module _ (l d : List ℕ) {v : ℕ} (p : d ≡ from_digit l) (q : v ≡ held (spelled 0 d)) where
  pub seen : v ≡ number_at l 0
  unfolding number_at
  seen = q ∙ ap (λ (m : List ℕ). held (spelled 0 m)) p

  pub unseen : length l ≡ 0 → v ≡ 0
  unseen h = seen ∙ number-past l h

-- ---- several numbers

pub numbers_more : (l : List ℕ) (at n : ℕ) → numbers_at l at (suc n) ≡ numbers_at l at n ++ (number_at l (after_at l at n) ∷ [])
unfolding numbers_at after_at
numbers_more l at zero = refl
numbers_more l at (suc n) = ap (λ (r : List ℕ). number_at l at ∷ r) (numbers_more l (next_at l at) n)

pub after_more : (l : List ℕ) (at n : ℕ) → after_at l at (suc n) ≡ next_at l (after_at l at n)
unfolding after_at
after_more l at zero = refl
after_more l at (suc n) = after_more l (next_at l at) n

-- one more
pub after_turn : (l : List ℕ) (at i : ℕ) {next : ℕ} → next ≡ after_at l at i → {r : ℕ} → r ≡ next_at l next → r ≡ after_at l at (i + 1)
after_turn l at i p e = rw (add-one i) (e ∙ ap (next_at l) p ∙ sym (after_more l at i))

-- a reader that has the text from an index on
pub number_from : (l : List ℕ) (at : ℕ) → number_at (drop at l) 0 ≡ number_at l at
unfolding number_at
number_from l at = refl

pub next_from : (l : List ℕ) (at : ℕ) → drop (next_at (drop at l) 0) (drop at l) ≡ drop (next_at l at) l
next_from l at = next-left (drop at l) 0 ∙ sym (next-left l at)

-- a turn of the loop that reads several numbers: t is what the reader has left, u what it has left behind the next number v
module _ (l : List ℕ) (i : ℕ) {t : List ℕ} (p : t ≡ drop (after_at l 0 i) l) where
  pub numbers-turn : (out : List ℕ) {v : ℕ} → v ≡ number_at t 0 → i < length out → take i out ≡ numbers_at l 0 i → take (i + 1) (set out i v) ≡ numbers_at l 0 (i + 1)
  numbers-turn out {v} e h q =
      let f : v ≡ number_at l (after_at l 0 i) = e ∙ ap (λ (m : List ℕ). number_at m 0) p ∙ number_from l (after_at l 0 i) in
      rw (add-one i) (take-suc-set out i v h ∙ rw (q, f) (sym (numbers_more l 0 i)))

  -- as bytes
  pub bytes-turn : (out : List ℕ) {v b : ℕ} → v ≡ number_at t 0 → b ≡ v % 256 → i < length out → take i out ≡ map (λ n. n % 256) (numbers_at l 0 i) → take (i + 1) (set out i b) ≡ map (λ n. n % 256) (numbers_at l 0 (i + 1))
  bytes-turn out {v} {b} e m h q =
      let f : v ≡ number_at l (after_at l 0 i) = e ∙ ap (λ (m : List ℕ). number_at m 0) p ∙ number_from l (after_at l 0 i) in
      rw (add-one i) (take-suc-set out i b h ∙ rw (q, m, f) (sym (ap (map (λ n. n % 256)) (numbers_more l 0 i) ∙ map-append (λ n. n % 256) (numbers_at l 0 i) (number_at l (after_at l 0 i) ∷ []))))

  pub after-turn : {u : List ℕ} → u ≡ drop (next_at t 0) t → u ≡ drop (after_at l 0 (i + 1)) l
  after-turn e = rw (add-one i) (e ∙ ap (λ (m : List ℕ). drop (next_at m 0) m) p ∙ next_from l (after_at l 0 i) ∙ sym (ap (λ (n : ℕ). drop n l) (after_more l 0 i)))
