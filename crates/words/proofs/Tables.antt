-- Laws of `table`, `lay_all`, `area` and `joined`: rows that are laid out are read back, and what an insert, a removal or a write of one row does to the bytes.
-- Assumes nothing.
use mathlib.Core.Path.{◌≡◌, refl, sym, ap, ◌∙◌, subst}
use mathlib.Core.List.{List, [], ◌∷◌, ◌++◌, append_assoc, append-nil}
use Prim.Native.Nat.{ℕ, zero, suc, ◌+◌, ◌-◌, ◌*◌, ◌^◌, ◌≤◌, ◌<◌}
use native.Mathlib.Nat.{suc-add, add-zero, zero-add, add_comm, mul-add, mul-zero, mul-suc, sub_self, sub-zero, not-suc-le-zero, le_of_suc-le-suc}
use native.Mathlib.Omega.{arith}
use lib.ListN.{length, take, drop, get_or, set, replicate, length-append, length-drop, length-set, take-append-drop}
use lib.Seq.{take-append-add, take_at, drop_at, length-take-le, set_split, split_at, take-length, drop-length}
use Rattle.words.specs.Bytes.{part, over, zeros, padded, little_endian, spell, num}
use Rattle.words.specs.Tables.{lay_all, table, insert_at, joined, area, lay_words, Each}
use Rattle.words.proofs.Parts.{length-zeros, zeros-add, over-mid, part-mid, part_in, over-in, part-zero}
use Rattle.words.proofs.Numbers.{length-spell, little-endian-spell}
use Rattle.words.proofs.Order.{each_at}

module _ {R : Type 0} (lay : R → List ℕ) where
  pub lay_all-append : (a b : List R) → lay_all lay (a ++ b) ≡ lay_all lay a ++ lay_all lay b
  unfolding lay_all
  lay_all-append [] b = refl
  lay_all-append (r ∷ a) b = rw (lay_all-append a b, append_assoc)

  pub lay_all-one : (r : R) → lay_all lay (r ∷ []) ≡ lay r
  unfolding lay_all
  lay_all-one r = append-nil (lay r)

module _ {R : Type 0} (lay : R → List ℕ) (s : ℕ) (sized : (r : R) → length (lay r) ≡ s) where
  pub length-lay_all : (rs : List R) → length (lay_all lay rs) ≡ s * length rs
  unfolding lay_all
  length-lay_all [] = sym (mul-zero s)
  length-lay_all (r ∷ rs) = rw (length-append, sized r, length-lay_all rs, mul-suc) (omega arith)

module _ {R : Type 0} (read : List ℕ → R) (lay : R → List ℕ) (s : ℕ) (sized : (r : R) → length (lay r) ≡ s) where
  -- rows that are laid out are read back
  pub table-lay : (A : List ℕ) (rs : List R) (C : List ℕ) (at : ℕ) → length A ≡ at → Each (λ r. read (lay r) ≡ r) rs
      → table read s (A ++ (lay_all lay rs ++ C)) at (length rs) ≡ rs
  unfolding table lay_all Each
  table-lay A [] C at e h = refl
  table-lay A (r ∷ rs) C at e h =
      let p : part (A ++ ((lay r ++ lay_all lay rs) ++ C)) at s ≡ lay r = rw append_assoc (part-mid A (lay r) (lay_all lay rs ++ C) at s e (sized r)) in
      let q : length (A ++ lay r) ≡ at + s = rw (length-append, e, sized r) in
      let k : table read s ((A ++ lay r) ++ (lay_all lay rs ++ C)) (at + s) (length rs) ≡ rs = table-lay (A ++ lay r) rs C (at + s) q h.1 in
      let m : (A ++ lay r) ++ (lay_all lay rs ++ C) ≡ A ++ ((lay r ++ lay_all lay rs) ++ C) = simp append_assoc in
      let P : List ℕ → Type 0 = λ l. table read s l (at + s) (length rs) ≡ rs in
      rw (p, h.0) (ap (λ (t : List R). r ∷ t) (subst P m k))

module _ {R : Type 0} (lay : R → List ℕ) (s : ℕ) (sized : (r : R) → length (lay r) ≡ s) where
  -- at the rows before the new ones and those behind them
  insert₃ : (A : List ℕ) (a qs b : List R) (Z C : List ℕ) (at n : ℕ) → length A + length (lay_all lay a) ≡ at → length (lay_all lay b) ≡ n → length Z ≡ s * length qs
      → over (A ++ (lay_all lay (a ++ b) ++ (Z ++ C))) at (lay_all lay qs ++ part (A ++ (lay_all lay (a ++ b) ++ (Z ++ C))) at n) ≡ A ++ (lay_all lay (a ++ (qs ++ b)) ++ C)
  insert₃ A a qs b Z C at n e h z =
      let T = lay_all lay a in
      let Q = lay_all lay qs in
      let D = lay_all lay b in
      let g : A ++ (lay_all lay (a ++ b) ++ (Z ++ C)) ≡ (A ++ T) ++ ((D ++ Z) ++ C) = simp (lay_all-append lay a b, append_assoc) in
      let q : length (A ++ T) ≡ at = length-append A T ∙ e in
      let p : part ((A ++ T) ++ ((D ++ Z) ++ C)) at n ≡ D = rw (append_assoc D Z C) (part-mid (A ++ T) D (Z ++ C) at n q h) in
      let w : length (D ++ Z) ≡ length (Q ++ D) = simp (length-append, length-lay_all lay s sized qs, z) (omega arith) in
      let y : lay_all lay (a ++ (qs ++ b)) ≡ T ++ (Q ++ D) = lay_all-append lay a (qs ++ b) ∙ ap (λ (t : List ℕ). T ++ t) (lay_all-append lay qs b) in
      rw (g, p, over-mid (A ++ T) (D ++ Z) C (Q ++ D) at q w, y) (simp append_assoc)

  -- rows put in, and what stands behind them moved up over as many bytes Z
  insert-lay : (A : List ℕ) (rs qs : List R) (Z C : List ℕ) (at p : ℕ) → length A + s * p ≡ at → p ≤ length rs → length Z ≡ s * length qs
      → over (A ++ (lay_all lay rs ++ (Z ++ C))) at (lay_all lay qs ++ part (A ++ (lay_all lay rs ++ (Z ++ C))) at (s * (length rs - p))) ≡ A ++ (lay_all lay (take p rs ++ (qs ++ drop p rs)) ++ C)
  insert-lay A rs qs Z C at p e h z =
      let q : length (lay_all lay (take p rs)) ≡ s * p = length-lay_all lay s sized (take p rs) ∙ ap (λ (k : ℕ). s * k) (length-take-le p rs h) in
      let d : length (lay_all lay (drop p rs)) ≡ s * (length rs - p) = length-lay_all lay s sized (drop p rs) ∙ ap (λ (k : ℕ). s * k) (length-drop p rs) in
      rw take-append-drop at (insert₃ A (take p rs) qs (drop p rs) Z C at (s * (length rs - p)) (omega arith) d z)

-- ---- areas

pub joined-append : (ls bs : List (List ℕ)) → joined (ls ++ bs) ≡ joined ls ++ joined bs
unfolding joined
joined-append [] bs = refl
joined-append (a ∷ ls) bs = rw (joined-append ls bs, append_assoc)

-- the areas before k, area k, and the areas after it
pub joined-cut : (ls : List (List ℕ)) (k : ℕ) → k < length ls → joined ls ≡ joined (take k ls) ++ (get_or ls k [] ++ joined (drop (suc k) ls))
unfolding joined
joined-cut ls k h = ap joined (split_at ls k [] h) ∙ joined-append (take k ls) (get_or ls k [] ∷ drop (suc k) ls)

module _ (ls : List (List ℕ)) (k at i : ℕ) (h : k < length ls) (e : at ≡ length (joined (take k ls)) + i) where
  pub part-joined : (n : ℕ) → i + n ≤ length (get_or ls k []) → part (joined ls) at n ≡ part (get_or ls k []) i n
  part-joined n b = rw (joined-cut ls k h) (part_in (joined (take k ls)) (get_or ls k []) (joined (drop (suc k) ls)) at i n e b)

  pub over-joined : (bs : List ℕ) → i + length bs ≤ length (get_or ls k []) → over (joined ls) at bs ≡ joined (set ls k (over (get_or ls k []) i bs))
  unfolding joined
  over-joined bs b =
      ap (λ (l : List ℕ). over l at bs) (joined-cut ls k h) ∙ over-in (joined (take k ls)) (get_or ls k []) (joined (drop (suc k) ls)) at i bs e b
      ∙ sym (ap joined (set_split ls k (over (get_or ls k []) i bs) h) ∙ joined-append (take k ls) (over (get_or ls k []) i bs ∷ drop (suc k) ls))

-- ---- one row written over

pub length_inserted : {R : Type 0} (p : ℕ) (qs rs : List R) → p ≤ length rs → length (take p rs ++ (qs ++ drop p rs)) ≡ length rs + length qs
length_inserted p qs rs h = simp (length-append, length-take-le p rs h, length-drop) (omega arith)

pub length-insert_at : {R : Type 0} (p : ℕ) (r : R) (rs : List R) → p ≤ length rs → length (insert_at p r rs) ≡ length rs + 1
unfolding insert_at
length-insert_at p r rs h = length_inserted p (r ∷ []) rs h

module _ {R : Type 0} (lay : R → List ℕ) (s : ℕ) (sized : (r : R) → length (lay r) ≡ s) where
  pub lay_all-cut : (rs : List R) (k : ℕ) (d : R) → k < length rs → lay_all lay rs ≡ lay_all lay (take k rs) ++ (lay (get_or rs k d) ++ lay_all lay (drop (suc k) rs))
  unfolding lay_all
  lay_all-cut rs k d h = ap (lay_all lay) (split_at rs k d h) ∙ lay_all-append lay (take k rs) (get_or rs k d ∷ drop (suc k) rs)

  pub length_front : (rs : List R) (k : ℕ) → k ≤ length rs → length (lay_all lay (take k rs)) ≡ s * k
  length_front rs k h = length-lay_all lay s sized (take k rs) ∙ ap (λ (n : ℕ). s * n) (length-take-le k rs h)

  pub set-lay : (rs : List R) (C : List ℕ) (k : ℕ) (r : R) → k < length rs → over (lay_all lay rs ++ C) (s * k) (lay r) ≡ lay_all lay (set rs k r) ++ C
  unfolding lay_all
  set-lay rs C k r h =
      let f : length (lay_all lay (take k rs)) ≡ s * k = length_front rs k (omega arith) in
      let g : lay_all lay rs ++ C ≡ lay_all lay (take k rs) ++ (lay (get_or rs k r) ++ (lay_all lay (drop (suc k) rs) ++ C)) =
      rw (lay_all-cut rs k r h) (simp append_assoc) in
      let m : lay_all lay (set rs k r) ≡ lay_all lay (take k rs) ++ (lay r ++ lay_all lay (drop (suc k) rs)) =
      ap (lay_all lay) (set_split rs k r h) ∙ lay_all-append lay (take k rs) (r ∷ drop (suc k) rs) in
      rw (g, m) (over-mid (lay_all lay (take k rs)) (lay (get_or rs k r)) (lay_all lay (drop (suc k) rs) ++ C) (lay r) (s * k) f (sized (get_or rs k r) ∙ sym (sized r)) ∙ simp append_assoc)

  -- the bytes of row k
  pub part-lay : (rs : List R) (C : List ℕ) (k : ℕ) (d : R) → k < length rs → part (lay_all lay rs ++ C) (s * k) s ≡ lay (get_or rs k d)
  part-lay rs C k d h =
      rw (lay_all-cut rs k d h) (simp append_assoc
      (part-mid (lay_all lay (take k rs)) (lay (get_or rs k d)) (lay_all lay (drop (suc k) rs) ++ C) (s * k) s (length_front rs k (omega arith)) (sized (get_or rs k d))))

  pub length-area : (room : ℕ) (rs : List R) → length rs ≤ room → length (area lay s room rs) ≡ s * room
  unfolding area
  length-area room rs h =
      rw (length-append, length-zeros, length-lay_all lay s sized rs, ← mul-add)
      (ap (λ (n : ℕ). s * n) (omega arith))

  -- rows put into a table that has room
  pub insert-area : (room : ℕ) (rs : List R) (p : ℕ) (qs : List R) → p ≤ length rs → length rs + length qs ≤ room
      → over (area lay s room rs) (s * p) (lay_all lay qs ++ part (area lay s room rs) (s * p) (s * (length rs - p))) ≡ area lay s room (take p rs ++ (qs ++ drop p rs))
  unfolding area
  insert-area room rs p qs h k =
      let n = length (take p rs ++ (qs ++ drop p rs)) in
      let z : zeros (s * (room - length rs)) ≡ zeros (s * length qs) ++ zeros (s * (room - n)) =
      let m : room - length rs ≡ length qs + (room - n) = omega (arith, length_inserted p qs rs h) in
      ap (λ (x : ℕ). zeros (s * x)) m ∙ ap zeros (mul-add s (length qs) (room - n)) ∙ sym (zeros-add (s * length qs) (s * (room - n))) in
      rw z (insert-lay lay s sized [] rs qs (zeros (s * length qs)) (zeros (s * (room - n))) (s * p) p (zero-add (s * p)) h (length-zeros (s * length qs)))

-- word i of words
pub num-words : (ws : List ℕ) (C : List ℕ) (i : ℕ) → Each (λ w. w < 2 ^ 64) ws → i < length ws → num 8 (lay_words ws ++ C) (8 * i) ≡ get_or ws i 0
unfolding num
num-words ws C i h b = ap little_endian (part-lay (spell 8) 8 (length-spell 8) ws C i 0 b) ∙ little-endian-spell 8 (get_or ws i 0) (each_at (λ w. w < 2 ^ 64) ws i 0 h b)

pub length-table : {R : Type 0} (read : List ℕ → R) (s : ℕ) (l : List ℕ) (at n : ℕ) → length (table read s l at n) ≡ n
unfolding table
length-table read s l at zero = refl
length-table read s l at (suc n) = ap suc (length-table read s l (at + s) n)

pub length-padded : (n : ℕ) (bs : List ℕ) → length (padded n bs) ≡ n
unfolding padded
length-padded n bs = length-take-le n (bs ++ zeros n) (rw (length-append, length-zeros) (omega arith))

pub padded-short : (n : ℕ) (bs : List ℕ) → length bs ≤ n → padded n bs ≡ bs ++ zeros (n - length bs)
unfolding padded
padded-short n bs h =
    let e : n ≡ length bs + (n - length bs) = omega arith in
    let z : zeros n ≡ zeros (n - length bs) ++ zeros (length bs) = let w : n ≡ n - length bs + length bs = omega arith in ap zeros w ∙ sym (zeros-add (n - length bs) (length bs)) in
    ap (λ (k : ℕ). take k (bs ++ zeros n)) e ∙ take-append-add bs (zeros n) (n - length bs)
    ∙ ap (λ (l : List ℕ). bs ++ l) (ap (take (n - length bs)) z ∙ take_at (zeros (n - length bs)) (zeros (length bs)) (n - length bs) (length-zeros (n - length bs)))

pub part-padded : (A : List ℕ) (n : ℕ) (bs : List ℕ) (at : ℕ) → length A ≡ at → length bs ≤ n → part (A ++ padded n bs) at (length bs) ≡ bs
part-padded A n bs at e h = rw (padded-short n bs h) (part-mid A bs (zeros (n - length bs)) at (length bs) e refl)

-- the rows of the table that is area k
pub table-area : {R : Type 0} (read : List ℕ → R) (lay : R → List ℕ) (s : ℕ) (sized : (r : R) → length (lay r) ≡ s)
    (ls : List (List ℕ)) (k room : ℕ) (rs : List R) (at : ℕ) → k < length ls → get_or ls k [] ≡ area lay s room rs → length (joined (take k ls)) ≡ at
    → Each (λ r. read (lay r) ≡ r) rs → table read s (joined ls) at (length rs) ≡ rs
unfolding area
table-area read lay s sized ls k room rs at h e a g =
    rw (joined-cut ls k h, e, append_assoc) (table-lay read lay s sized (joined (take k ls)) rs (zeros (s * (room - length rs)) ++ joined (drop (suc k) ls)) at a g)

pub drop-joined : (ls : List (List ℕ)) (k at : ℕ) → length (joined (take k ls)) ≡ at → drop at (joined ls) ≡ joined (drop k ls)
drop-joined ls k at e =
    let c : joined ls ≡ joined (take k ls) ++ joined (drop k ls) = rw take-append-drop at (joined-append (take k ls) (drop k ls)) in
    rw c (drop_at (joined (take k ls)) (joined (drop k ls)) at e)

-- word k of the first area written over
pub put_word : (ws : List ℕ) (ls : List (List ℕ)) (k x : ℕ) → k < length ws → over (joined (lay_words ws ∷ ls)) (8 * k) (spell 8 x) ≡ joined (lay_words (set ws k x) ∷ ls)
unfolding joined
put_word ws ls k x h = set-lay (spell 8) 8 (length-spell 8) ws (joined ls) k x h

-- rows of zeros
pub lay-blank : {R : Type 0} (lay : R → List ℕ) (s : ℕ) (r : R) → lay r ≡ zeros s → (n : ℕ) → lay_all lay (replicate n r) ≡ zeros (s * n)
unfolding lay_all
lay-blank lay s r e zero = unfold zeros in rw mul-zero
lay-blank lay s r e (suc n) = rw (e, lay-blank lay s r e n, mul-suc, zeros-add) (ap zeros (add_comm s (s * n)))

pub words-zero : (k : ℕ) → lay_words (zeros k) ≡ zeros (8 * k)
unfolding spell zeros
words-zero k = lay-blank (spell 8) 8 0 refl k

pub area-nil : {R : Type 0} (lay : R → List ℕ) (s room : ℕ) → area lay s room [] ≡ zeros (s * room)
unfolding area lay_all
area-nil lay s room = rw sub-zero

-- zeros written over all
pub cleared : (l : List ℕ) → over l 0 (zeros (length l)) ≡ zeros (length l)
unfolding over
cleared l = rw (length-zeros, zero-add, drop-length, append-nil)

-- a row added behind the others
pub append-area : {R : Type 0} (lay : R → List ℕ) (s : ℕ) (sized : (r : R) → length (lay r) ≡ s) (room : ℕ) (rs : List R) (r : R) → length rs < room
    → over (area lay s room rs) (s * length rs) (lay r) ≡ area lay s room (rs ++ (r ∷ []))
append-area lay s sized room rs r h =
    rw (sub_self, mul-zero, part-zero, append-nil, take-length, drop-length, lay_all-one) at (insert-area lay s sized room rs (length rs) (r ∷ []) (omega arith) (omega arith))

pub table_at : {R : Type 0} (read : List ℕ → R) (s : ℕ) (l : List ℕ) (at n k : ℕ) (d : R) → k < n → get_or (table read s l at n) k d ≡ read (part l (at + s * k) s)
unfolding table
table_at read s l at zero k d h = absurd (not-suc-le-zero h)
table_at read s l at (suc n) zero d h = rw (mul-zero, add-zero)
table_at read s l at (suc n) (suc k) d h = rw (mul-suc) (table_at read s l (at + s) n k d (le_of_suc-le-suc h) ∙ ap (λ (j : ℕ). read (part l j s)) (omega arith))

-- a row of a table written over
pub set-area : {R : Type 0} (lay : R → List ℕ) (s : ℕ) (sized : (r : R) → length (lay r) ≡ s) (room : ℕ) (rs : List R) (k : ℕ) (r : R) → k < length rs
    → over (area lay s room rs) (s * k) (lay r) ≡ area lay s room (set rs k r)
unfolding area
set-area lay s sized room rs k r h = rw (length-set rs k r) (set-lay lay s sized rs (zeros (s * (room - length rs))) k r h)

-- a table, cut in two
pub table-add : {R : Type 0} (read : List ℕ → R) (s : ℕ) (l : List ℕ) (at m n : ℕ) → table read s l at (m + n) ≡ table read s l at m ++ table read s l (at + s * m) n
unfolding table
table-add read s l at zero n = rw (zero-add, mul-zero, add-zero)
table-add {R = R} read s l at (suc m) n =
    let e : at + s + s * m ≡ at + s * suc m = omega (arith, mul-suc s m) in
    rw (suc-add) (ap (λ (t : List R). read (part l at s) ∷ t) (table-add read s l (at + s) m n ∙ ap (λ (k : ℕ). table read s l (at + s) m ++ table read s l k n) e))
