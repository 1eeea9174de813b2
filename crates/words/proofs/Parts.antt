-- Laws of `part`, `over` and `zeros`.
-- Assumes nothing.
use mathlib.Core.Path.{◌≡◌, refl, sym, ap, ◌∙◌, subst}
use mathlib.Core.List.{List, [], ◌∷◌, ◌++◌, append_assoc}
use Prim.Native.Nat.{ℕ, zero, suc, ◌+◌, ◌-◌, ◌≤◌, ◌<◌}
use native.Mathlib.Nat.{add-zero, add_assoc, sub_self, sub-zero, zero-sub, suc-sub-suc}
use native.Mathlib.Numerals.{add-one}
use native.Mathlib.Omega.{arith}
use lib.ListN.{length, take, drop, get_or, set, length-replicate, replicate-append-replicate, length-append, length-take, length-drop, take-append-drop}
use lib.Seq.{take-take, take-nil, drop-nil, take-append-add, take_at, drop_at, length-take-le, drop-append-add, drop-drop, take-add, take-append-le, drop-append-le, set_split, drop-cons}
use Rattle.words.specs.Bytes.{part, over, zeros}

-- ---- zeros

pub length-zeros : (n : ℕ) → length (zeros n) ≡ n
unfolding zeros
length-zeros n = length-replicate n 0

pub zeros-add : (m n : ℕ) → zeros m ++ zeros n ≡ zeros (m + n)
unfolding zeros
zeros-add m n = replicate-append-replicate m n 0

-- ---- over, at the seams of a concatenation

-- bs in the place of the middle of three
pub over-mid : (A B C bs : List ℕ) (at : ℕ) → length A ≡ at → length B ≡ length bs → over (A ++ (B ++ C)) at bs ≡ A ++ (bs ++ C)
unfolding over
over-mid A B C bs at ha hb =
    let d : drop (at + length bs) (A ++ (B ++ C)) ≡ C = rw (← append_assoc, drop_at (A ++ B) C (at + length bs) (simp length-append (omega arith))) in
    rw (take_at A (B ++ C) at ha, d)

-- a list, cut in three
pub cut : (l : List ℕ) (at n : ℕ) → l ≡ take at l ++ (part l at n ++ drop (at + n) l)
unfolding part
cut l at n = sym (rw (← drop-drop, take-append-drop, take-append-drop))

pub length_part : (l : List ℕ) (at n : ℕ) → at + n ≤ length l → length (part l at n) ≡ n
unfolding part
length_part l at n h = simp (length-take, length-drop) (omega arith)

pub length_over : (l : List ℕ) (at : ℕ) (bs : List ℕ) → at + length bs ≤ length l → length (over l at bs) ≡ length l
unfolding over
length_over l at bs h = simp (length-append, length-take, length-drop) (omega arith)

-- a store is a replacement of one
pub set-over : (l : List ℕ) (i x : ℕ) → i < length l → set l i x ≡ over l i (x ∷ [])
unfolding over
set-over l i x h = rw (add-one, set_split l i x h)

-- the law of two replacements that meet, at lists in four
over-over₄ : (T P Q D a b : List ℕ) (at : ℕ) → length T ≡ at → length P ≡ length a → length Q ≡ length b
    → over (over (T ++ (P ++ (Q ++ D))) at a) (at + length a) b ≡ over (T ++ (P ++ (Q ++ D))) at (a ++ b)
over-over₄ T P Q D a b at ht hp hq =
    let i : over (T ++ (P ++ (Q ++ D))) at a ≡ T ++ (a ++ (Q ++ D)) = over-mid T P (Q ++ D) a at ht hp in
    let j : over ((T ++ a) ++ (Q ++ D)) (at + length a) b ≡ (T ++ a) ++ (b ++ D) = over-mid (T ++ a) Q D b (at + length a) (simp length-append (omega arith)) hq in
    let k : over (T ++ ((P ++ Q) ++ D)) at (a ++ b) ≡ T ++ ((a ++ b) ++ D) = over-mid T (P ++ Q) D (a ++ b) at ht (simp length-append (omega arith)) in
    rw i (simp append_assoc at j ∙ sym (simp append_assoc at k))

over-before₄ : (T P Q D a b : List ℕ) (at : ℕ) → length T ≡ at → length P ≡ length a → length Q ≡ length b
    → over (over (T ++ (P ++ (Q ++ D))) (at + length a) b) at a ≡ over (T ++ (P ++ (Q ++ D))) at (a ++ b)
over-before₄ T P Q D a b at ht hp hq =
    let i : over (T ++ (P ++ (b ++ D))) at a ≡ T ++ (a ++ (b ++ D)) = over-mid T P (b ++ D) a at ht hp in
    let j : over ((T ++ P) ++ (Q ++ D)) (at + length a) b ≡ (T ++ P) ++ (b ++ D) = over-mid (T ++ P) Q D b (at + length a) (simp length-append (omega arith)) hq in
    let k : over (T ++ ((P ++ Q) ++ D)) at (a ++ b) ≡ T ++ ((a ++ b) ++ D) = over-mid T (P ++ Q) D (a ++ b) at ht (simp length-append (omega arith)) in
    rw (simp append_assoc at j, i) (sym (simp append_assoc at k))

-- the rest of a list, cut in two
pub cut-drop : (l : List ℕ) (at n : ℕ) → drop at l ≡ part l at n ++ drop (at + n) l
unfolding part
cut-drop l at n = sym (rw (← drop-drop, take-append-drop))

cut₄ : (l : List ℕ) (at m n : ℕ) → l ≡ take at l ++ (part l at m ++ (part l (at + m) n ++ drop (at + m + n) l))
cut₄ l at m n = cut l at m ∙ ap (λ (r : List ℕ). take at l ++ (part l at m ++ r)) (cut-drop l (at + m) n)

-- a replacement, and one right behind it
pub over-over : (l : List ℕ) (at : ℕ) (a b : List ℕ) → at + length a + length b ≤ length l → over (over l at a) (at + length a) b ≡ over l at (a ++ b)
over-over l at a b h =
    subst (λ (m : List ℕ). over (over m at a) (at + length a) b ≡ over m at (a ++ b)) (sym (cut₄ l at (length a) (length b)))
    (over-over₄ (take at l) (part l at (length a)) (part l (at + length a) (length b)) (drop (at + length a + length b) l) a b at (length-take-le at l (omega arith)) (length_part l at (length a) (omega arith)) (length_part l (at + length a) (length b) h))

-- a replacement, and one right before it
pub over-before : (l : List ℕ) (at : ℕ) (a b : List ℕ) → at + length a + length b ≤ length l → over (over l (at + length a) b) at a ≡ over l at (a ++ b)
over-before l at a b h =
    subst (λ (m : List ℕ). over (over m (at + length a) b) at a ≡ over m at (a ++ b)) (sym (cut₄ l at (length a) (length b)))
    (over-before₄ (take at l) (part l at (length a)) (part l (at + length a) (length b)) (drop (at + length a + length b) l) a b at (length-take-le at l (omega arith)) (length_part l at (length a) (omega arith)) (length_part l (at + length a) (length b) h))

-- nothing replaced
pub over-nil : (l : List ℕ) (at : ℕ) → over l at [] ≡ l
unfolding over
over-nil l at = rw (add-zero, take-append-drop)

pub part-add : (l : List ℕ) (at m n : ℕ) → part l at (m + n) ≡ part l at m ++ part l (at + m) n
unfolding part
part-add l at m n = rw (take-add, drop-drop)

-- ---- parts of a concatenation

pub part-mid : (A B C : List ℕ) (at n : ℕ) → length A ≡ at → length B ≡ n → part (A ++ (B ++ C)) at n ≡ B
unfolding part
part-mid A B C at n ha hb = rw (drop_at A (B ++ C) at ha, take_at B C n hb)

-- what lies inside the middle of three
pub part_in : (A B C : List ℕ) (at i n : ℕ) → at ≡ length A + i → i + n ≤ length B → part (A ++ (B ++ C)) at n ≡ part B i n
unfolding part
part_in A B C at i n ha hb =
    let h : i ≤ length B = omega arith in
    let k : n ≤ length (drop i B) = simp length-drop (omega arith) in
    rw (ha, drop-append-add, drop-append-le i B C h, take-append-le n (drop i B) C k)

pub over-in : (A B C : List ℕ) (at i : ℕ) (bs : List ℕ) → at ≡ length A + i → i + length bs ≤ length B → over (A ++ (B ++ C)) at bs ≡ A ++ (over B i bs ++ C)
unfolding over
over-in A B C at i bs ha hb =
    let h : i ≤ length B = omega arith in
    rw (ha, add_assoc, take-append-add, drop-append-add, take-append-le i B C h, drop-append-le (i + length bs) B C hb) (simp append_assoc)

-- ---- parts of what was written over

pub part-over-before : (l : List ℕ) (at : ℕ) (bs : List ℕ) (i n : ℕ) → at ≤ length l → i + n ≤ at → part (over l at bs) i n ≡ part l i n
unfolding over
part-over-before l at bs i n h e =
    let k : i + n ≤ length (take at l) = rw (length-take-le at l h) e in
    let z : i ≡ 0 + i = omega arith in
    part_in [] (take at l) (bs ++ drop (at + length bs) l) i i n z k
    ∙ sym (rw take-append-drop at (part_in [] (take at l) (drop at l) i i n z k))

drop-over : (l : List ℕ) (at : ℕ) (bs : List ℕ) (k : ℕ) → at ≤ length l → drop (at + length bs + k) (over l at bs) ≡ drop (at + length bs + k) l
unfolding over
drop-over l at bs k h =
    let e : length (take at l ++ bs) ≡ at + length bs = simp (length-append, length-take-le at l h) in
    rw (append_assoc, e) at (drop-append-add (take at l ++ bs) (drop (at + length bs) l) k) ∙ drop-drop k (at + length bs) l

pub part-over-after : (l : List ℕ) (at : ℕ) (bs : List ℕ) (i n : ℕ) → at + length bs ≤ i → at ≤ length l → part (over l at bs) i n ≡ part l i n
unfolding part
part-over-after l at bs i n h e =
    let k : i ≡ at + length bs + (i - (at + length bs)) = omega arith in
    ap (take n) (subst (λ (j : ℕ). drop j (over l at bs) ≡ drop j l) (sym k) (drop-over l at bs (i - (at + length bs)) e))

-- ---- two writes that meet

-- b right behind a
pub two : (l : List ℕ) (at : ℕ) (a b : List ℕ) (n : ℕ) {m r : List ℕ} → m ≡ over l at a → r ≡ over m n b → n ≡ at + length a → at + length a + length b ≤ length l → r ≡ over l at (a ++ b)
two l at a b n p q e h = q ∙ rw (p, e) (over-over l at a b h)

-- a right before b
pub before : (l : List ℕ) (at : ℕ) (a b : List ℕ) (n : ℕ) {m r : List ℕ} → m ≡ over l n b → r ≡ over m at a → n ≡ at + length a → at + length a + length b ≤ length l → r ≡ over l at (a ++ b)
before l at a b n p q e h = q ∙ rw (p, e) (over-before l at a b h)

-- ---- one byte more, as a turn of a loop writes it

pub over-snoc : (l : List ℕ) (at : ℕ) (bs : List ℕ) (x : ℕ) → at + length bs < length l → set (over l at bs) (at + length bs) x ≡ over l at (bs ++ (x ∷ []))
over-snoc l at bs x h =
    set-over (over l at bs) (at + length bs) x (rw (length_over l at bs (omega arith)) h)
    ∙ over-over l at bs (x ∷ []) (omega arith)

pub over-cons : (l : List ℕ) (at : ℕ) (bs : List ℕ) (x : ℕ) → at + 1 + length bs ≤ length l → set (over l (at + 1) bs) at x ≡ over l at (x ∷ bs)
over-cons l at bs x h =
    set-over (over l (at + 1) bs) at x (rw (length_over l (at + 1) bs h) (omega arith))
    ∙ over-before l at (x ∷ []) bs (omega arith)

pub part-cons : (l : List ℕ) (at n : ℕ) → at < length l → part l at (n + 1) ≡ get_or l at 0 ∷ part l (at + 1) n
unfolding part
part-cons l at n h = rw (add-one n, add-one at, drop-cons l at 0 h)

pub part-one : (l : List ℕ) (at : ℕ) → at < length l → part l at 1 ≡ get_or l at 0 ∷ []
unfolding part
part-one l at h = rw (drop-cons l at 0 h)

pub part-snoc : (l : List ℕ) (at n : ℕ) → at + n < length l → part l at (n + 1) ≡ part l at n ++ (get_or l (at + n) 0 ∷ [])
part-snoc l at n h = part-add l at n 1 ∙ ap (λ (r : List ℕ). part l at n ++ r) (part-one l (at + n) h)

pub part_none : (l : List ℕ) (at n : ℕ) → part l at (n - n) ≡ []
unfolding part
part_none l at n = rw sub_self

-- ---- a part of a part

drop-take : (i m : ℕ) (l : List ℕ) → drop i (take m l) ≡ take (m - i) (drop i l)
drop-take zero m l = rw sub-zero
drop-take (suc i) zero l = rw (zero-sub, drop-nil)
drop-take (suc i) (suc m) [] = sym (take-nil (suc m - suc i))
drop-take (suc i) (suc m) (x ∷ l) = rw suc-sub-suc (drop-take i m l)

pub part-part : (l : List ℕ) (at m i n : ℕ) → i + n ≤ m → part (part l at m) i n ≡ part l (at + i) n
unfolding part
part-part l at m i n h =
    let d : drop i (take m (drop at l)) ≡ take (m - i) (drop (at + i) l) = drop-take i m (drop at l) ∙ ap (take (m - i)) (drop-drop i at l) in
    let k : n ≤ m - i = omega arith in
    rw d (take-take n (m - i) (drop (at + i) l) k)

pub part-zero : (l : List ℕ) (at : ℕ) → part l at 0 ≡ []
unfolding part
part-zero l at = refl

-- what a loan of the n bytes from index at leaves, where the callee says what they became
pub lent_at : (l : List ℕ) (at n : ℕ) (ys bs : List ℕ) → ys ≡ bs → length bs ≡ n → take at l ++ (ys ++ drop (at + n - at) (drop at l)) ≡ over l at bs
unfolding over
lent_at l at n ys bs e h =
    let k : at + n - at ≡ length bs = omega arith in
    rw (e, k, drop-drop (length bs) at l)

-- a part of a list, pasted into it
pub pasted : (l : List ℕ) (from at n : ℕ) → from + n ≤ length l → (take at l ++ part l from n) ++ drop (at + n) l ≡ over l at (part l from n)
unfolding over
pasted l from at n h = rw (length_part l from n h, append_assoc)
