-- Bytes written over all of a list or over a part of it, and each byte of what comes of it.
-- Assumes nothing.
use mathlib.Core.Path.{◌≡◌, refl, sym, ap, ◌∙◌}
use mathlib.Core.List.{List, [], ◌++◌, append-nil}
use Prim.Native.Nat.{ℕ, ◌+◌, ◌-◌, ◌≤◌, ◌<◌}
use native.Mathlib.Omega.{arith}
use lib.ListN.{length, take, drop, get_or, get_or-append}
use lib.Seq.{take_all, length-take-le, get_or-append-add, get_or-take, get_or-drop}
use Rattle.words.specs.Bytes.{part, over}
use Rattle.words.proofs.Parts.{length_over, length_part, over-mid, over-in, cut}

-- ---- all of a list

pub over-all : (l bs : List ℕ) → length l ≡ length bs → over l 0 bs ≡ bs
over-all l bs e = simp append-nil at (over-mid [] l [] bs 0 refl e)

pub part-all : (l : List ℕ) (at n : ℕ) → at ≡ 0 → n ≡ length l → part l at n ≡ l
unfolding part
part-all l at n a e = rw (a, e) (take_all (length l) l (omega arith))

-- ---- a part of it

over-as : (l : List ℕ) (p : ℕ) (ys zs : List ℕ) → length ys ≡ length zs → over l p ys ≡ take p l ++ (ys ++ drop (p + length zs) l)
unfolding over
over-as l p ys zs e = rw e

-- a write inside what was written before
pub over-within : (l : List ℕ) (p : ℕ) (zs : List ℕ) (i : ℕ) (bs : List ℕ) → p ≤ length l → i + length bs ≤ length zs → over (over l p zs) (p + i) bs ≡ over l p (over zs i bs)
over-within l p zs i bs h k =
    let n : p + i ≡ length (take p l) + i = rw (length-take-le p l h) in
    ap (λ (m : List ℕ). over m (p + i) bs) (over-as l p zs zs refl)
    ∙ over-in (take p l) zs (drop (p + length zs) l) (p + i) i bs n k
    ∙ sym (over-as l p (over zs i bs) zs (length_over zs i bs k))

-- a part put back where it was
over-part : (l : List ℕ) (at n : ℕ) → at + n ≤ length l → over l at (part l at n) ≡ l
unfolding over
over-part l at n h = rw (length_part l at n h) (sym (cut l at n))

-- a write inside a part, and the part put back
pub part-written : (l : List ℕ) (at n i : ℕ) (bs : List ℕ) → at + n ≤ length l → i + length bs ≤ n → over l at (over (part l at n) i bs) ≡ over l (at + i) bs
part-written l at n i bs h k =
    let e = length_part l at n h in
    sym (over-within l at (part l at n) i bs (omega arith) (omega arith)) ∙ ap (λ (m : List ℕ). over m (at + i) bs) (over-part l at n h)

-- the part of a list that is lent
pub length-lent : (l : List ℕ) (at n : ℕ) → at + n ≤ length l → length (take (at + n - at) (drop at l)) ≡ n
length-lent l at n h =
    let w : at + n - at ≡ n = omega arith in
    rw w (unfold part in length_part l at n h)

-- ---- each byte

pub part_at : (l : List ℕ) (at n i : ℕ) → i < n → get_or (part l at n) i 0 ≡ get_or l (at + i) 0
unfolding part
part_at l at n i h = get_or-take n (drop at l) i 0 h ∙ get_or-drop at l i 0

pub over-at : (l : List ℕ) (at : ℕ) (bs : List ℕ) (i : ℕ) → at ≤ length l → i < length bs → get_or (over l at bs) (at + i) 0 ≡ get_or bs i 0
unfolding over
over-at l at bs i h k =
    let e : at + i ≡ length (take at l) + i = rw (length-take-le at l h) in
    ap (λ (j : ℕ). get_or (take at l ++ (bs ++ drop (at + length bs) l)) j 0) e ∙ get_or-append-add (take at l) (bs ++ drop (at + length bs) l) i 0 ∙ get_or-append bs (drop (at + length bs) l) 0 i k
