-- Laws of a table that is one of several areas: where its rows stand, and what the writes of an insert, a removal or a change of one row make of the whole.
-- Assumes nothing.
use mathlib.Core.Path.{◌≡◌, refl, sym, ap, ◌∙◌}
use mathlib.Core.List.{List, [], ◌∷◌, ◌++◌, append_assoc}
use Prim.Native.Nat.{ℕ, suc, ◌+◌, ◌-◌, ◌*◌, ◌≤◌, ◌<◌}
use native.Mathlib.Nat.{mul-suc, mul-add}
use native.Mathlib.Omega.{arith}
use lib.ListN.{length-set, length, take, drop, get_or, set, length-append, length-drop, take-append-drop}
use lib.Seq.{set-get_or, length-take-le, drop-drop}
use Rattle.words.specs.Bytes.{part, over, zeros, spell}
use Rattle.words.specs.Tables.{lay_all, lay_words, area, joined}
use Rattle.words.proofs.Parts.{length-zeros, zeros-add, length_part, over-mid, part-mid, two, before}
use Rattle.words.proofs.Tables.{put_word, length_inserted, lay_all-append, length-lay_all, length-area, part-lay, set-area, insert-area, append-area, joined-cut, part-joined, over-joined}
use Rattle.words.proofs.Pieces.{unused-area}

-- so many rows, and so many more
rows-add : (s a b : ℕ) → a ≤ b → s * b ≡ s * a + s * (b - a)
rows-add s a b h =
    let q : b ≡ a + (b - a) = omega arith in
    ap (λ (k : ℕ). s * k) q ∙ mul-add s a (b - a)

-- ---- n rows removed from p on

-- how many are left
pub length_rest : {R : Type 0} (p n : ℕ) (rs : List R) → p + n ≤ length rs → length (take p rs ++ drop (p + n) rs) ≡ length rs - n
length_rest p n rs b =
    let k : p ≤ length rs = omega arith in
    simp (length-append, length-take-le p rs k, length-drop) (omega arith)

module _ {R : Type 0} (lay : R → List ℕ) (s : ℕ) (sized : (r : R) → length (lay r) ≡ s) where
  -- at the rows before those that go, those that go, and those behind them
  removed₃ : (a b c : List R) (room at from size gone : ℕ) → length (a ++ (b ++ c)) ≤ room → at ≡ s * length a → from ≡ s * length a + s * length b → size ≡ s * length c → gone ≡ s * length b
      → over (area lay s room (a ++ (b ++ c))) at (part (area lay s room (a ++ (b ++ c))) from size ++ zeros gone) ≡ area lay s room (a ++ c)
  unfolding area
  removed₃ a b c room at from size gone h ea ef es eg =
      let T = lay_all lay a in
      let M = lay_all lay b in
      let D = lay_all lay c in
      let Z = zeros (s * (room - length (a ++ (b ++ c)))) in
      let t : length T ≡ s * length a = length-lay_all lay s sized a in
      let m : length M ≡ s * length b = length-lay_all lay s sized b in
      let d : length D ≡ s * length c = length-lay_all lay s sized c in
      let g : lay_all lay (a ++ (b ++ c)) ++ Z ≡ T ++ ((M ++ D) ++ Z) = simp (lay_all-append lay a (b ++ c), lay_all-append lay b c, append_assoc) in
      let x : T ++ ((M ++ D) ++ Z) ≡ (T ++ M) ++ (D ++ Z) = simp append_assoc in
      let p : part (T ++ ((M ++ D) ++ Z)) from size ≡ D = rw x (part-mid (T ++ M) D Z from size (rw length-append (omega arith)) (omega arith)) in
      let w : length (M ++ D) ≡ length (D ++ zeros gone) = simp (length-append, length-zeros) (omega arith) in
      let n : length (a ++ (b ++ c)) ≡ length a + (length b + length c) = simp length-append in
      let o : length (a ++ c) ≡ length a + length c = length-append a c in
      let q : gone + s * (room - length (a ++ (b ++ c))) ≡ s * (room - length (a ++ c)) =
      let r : room - length (a ++ c) ≡ length b + (room - length (a ++ (b ++ c))) = omega arith in
      rw (r, mul-add) (omega arith) in
      rw (g, p, over-mid T (M ++ D) Z (D ++ zeros gone) at (omega arith) w, lay_all-append lay a c)
      (simp append_assoc (ap (λ (z : List ℕ). T ++ (D ++ z)) (zeros-add gone (s * (room - length (a ++ (b ++ c)))) ∙ ap zeros q)))

  removed-area : (room : ℕ) (rs : List R) (p n at from size gone : ℕ) → p + n ≤ length rs → length rs ≤ room → at ≡ s * p → from ≡ s * (p + n) → size ≡ s * (length rs - (p + n)) → gone ≡ s * n
      → over (area lay s room rs) at (part (area lay s room rs) from size ++ zeros gone) ≡ area lay s room (take p rs ++ drop (p + n) rs)
  removed-area room rs p n at from size gone h k ea ef es eg =
      let a = take p rs in
      let b = take n (drop p rs) in
      let c = drop (p + n) rs in
      let g : a ++ (b ++ c) ≡ rs = rw (← drop-drop n p rs, take-append-drop, take-append-drop) in
      let x : length a ≡ p = length-take-le p rs (omega arith) in
      let y : length b ≡ n = length-take-le n (drop p rs) (rw length-drop (omega arith)) in
      let z : length c ≡ length rs - (p + n) = length-drop (p + n) rs in
      rw g at (removed₃ a b c room at from size gone (rw g k) (rw x ea) (rw (x, y, ← mul-add) ef) (rw z es) (rw y eg))

-- ---- a table that is area k, from index base on

module _ {R : Type 0} (lay : R → List ℕ) (s : ℕ) (sized : (r : R) → length (lay r) ≡ s) (ls : List (List ℕ)) (k base room : ℕ) (rs : List R)
    (h : k < length ls) (e : get_or ls k [] ≡ area lay s room rs) (a : length (joined (take k ls)) ≡ base) (f : length rs ≤ room) where
  size : length (get_or ls k []) ≡ s * room
  size = rw e (length-area lay s sized room rs f)

  inside : (i : ℕ) → i < room → s * i + s ≤ length (get_or ls k [])
  inside i b = rw size (omega (arith, rows-add s (suc i) room b, mul-suc s i))

  whole : base + s * room ≤ length (joined ls)
  whole =
      let c : length (joined ls) ≡ length (joined (take k ls)) + (length (get_or ls k []) + length (joined (drop (suc k) ls))) = rw (joined-cut ls k h) (simp length-append) in
      omega (arith, size)

  -- row i
  pub row-joined : (i at : ℕ) (d : R) → i < length rs → at ≡ base + s * i → part (joined ls) at s ≡ lay (get_or rs i d)
  row-joined i at d b q =
      part-joined ls k at (s * i) h (omega arith) s (inside i (omega arith))
      ∙ rw e (unfold area in part-lay lay s sized rs (zeros (s * (room - length rs))) i d b)

  -- the zeros behind the rows
  pub unused-joined : (at : ℕ) → at ≡ base + s * length rs → part (joined ls) at (s * (room - length rs)) ≡ zeros (s * (room - length rs))
  unused-joined at q =
      part-joined ls k at (s * length rs) h (omega arith) (s * (room - length rs)) (rw size (omega (arith, rows-add s (length rs) room f)))
      ∙ rw e (unused-area lay s sized room rs)

  -- row i written
  pub set-joined : (i at : ℕ) (r : R) → i < length rs → at ≡ base + s * i → over (joined ls) at (lay r) ≡ joined (set ls k (area lay s room (set rs i r)))
  set-joined i at r b q =
      over-joined ls k at (s * i) h (omega arith) (lay r) (rw (sized r) (inside i (omega arith)))
      ∙ ap (λ (t : List ℕ). joined (set ls k t)) (rw e (set-area lay s sized room rs i r b))

  -- a row written behind the others
  pub append-joined : (at : ℕ) (r : R) → length rs < room → at ≡ base + s * length rs → over (joined ls) at (lay r) ≡ joined (set ls k (area lay s room (rs ++ (r ∷ []))))
  append-joined at r b q =
      over-joined ls k at (s * length rs) h (omega arith) (lay r) (rw (sized r) (inside (length rs) b))
      ∙ ap (λ (t : List ℕ). joined (set ls k t)) (rw e (append-area lay s sized room rs r b))

  -- the rows from p on moved up by so many rows, and these written at p
  pub insert-joined : (p at to n : ℕ) (qs : List R) {m o : List ℕ} → p ≤ length rs → length rs + length qs ≤ room → at ≡ base + s * p → to ≡ at + s * length qs → n ≡ s * (length rs - p)
      → m ≡ over (joined ls) to (part (joined ls) at n) → o ≡ over m at (lay_all lay qs) → o ≡ joined (set ls k (area lay s room (take p rs ++ (qs ++ drop p rs))))
  insert-joined p at to n qs b c ea et en em eo =
      let A = get_or ls k [] in
      let u = rows-add s p (length rs) b in
      let w = rows-add s (length rs + length qs) room c in
      let i : s * (length rs + length qs) ≡ s * length rs + s * length qs = mul-add s (length rs) (length qs) in
      let j : length (lay_all lay qs) ≡ s * length qs = length-lay_all lay s sized qs in
      let q : part (joined ls) at n ≡ part A (s * p) n = part-joined ls k at (s * p) h (omega arith) n (omega (arith, size)) in
      let z : length (part A (s * p) n) ≡ n = length_part A (s * p) n (omega (arith, size)) in
      let y : length (lay_all lay qs ++ part A (s * p) n) ≡ s * length qs + n = rw (length-append, j, z) in
      let x : over A (s * p) (lay_all lay qs ++ part A (s * p) n) ≡ area lay s room (take p rs ++ (qs ++ drop p rs)) = rw (e, en) (insert-area lay s sized room rs p qs b c) in
      before (joined ls) at (lay_all lay qs) (part (joined ls) at n) to em eo (rw j (omega arith)) (rw (q, z, j) (omega (arith, whole)))
      ∙ rw q (over-joined ls k at (s * p) h (omega arith) (lay_all lay qs ++ part A (s * p) n) (rw y (omega (arith, size))))
      ∙ ap (λ (t : List ℕ). joined (set ls k t)) x

  -- the rows behind n rows from p on moved down over them, and the rows that the last of them leave cleared
  pub remove-joined : (p n at from len last gone : ℕ) {m o : List ℕ} → p + n ≤ length rs → at ≡ base + s * p → from ≡ base + s * (p + n) → len ≡ s * (length rs - (p + n)) → last ≡ base + s * (length rs - n) → gone ≡ s * n
      → m ≡ over (joined ls) at (part (joined ls) from len) → o ≡ over m last (zeros gone) → o ≡ joined (set ls k (area lay s room (take p rs ++ drop (p + n) rs)))
  remove-joined p n at from len last gone b ea ef el et eg em eo =
      let A = get_or ls k [] in
      let u = rows-add s (p + n) (length rs) b in
      let w = rows-add s (length rs) room f in
      let i : s * (p + n) ≡ s * p + s * n = mul-add s p n in
      let j : s * (length rs - n) ≡ s * p + len =
      let r : length rs - n ≡ p + (length rs - (p + n)) = omega arith in
      rw (r, mul-add, el) in
      let q : part (joined ls) from len ≡ part A (s * (p + n)) len = part-joined ls k from (s * (p + n)) h (omega arith) len (rw size (omega arith)) in
      let z : length (part A (s * (p + n)) len) ≡ len = length_part A (s * (p + n)) len (rw size (omega arith)) in
      let y : length (part A (s * (p + n)) len ++ zeros gone) ≡ len + gone = rw (length-append, z, length-zeros) in
      let x : over A (s * p) (part A (s * (p + n)) len ++ zeros gone) ≡ area lay s room (take p rs ++ drop (p + n) rs) =
      rw e (removed-area lay s sized room rs p n (s * p) (s * (p + n)) len gone b f refl refl el eg) in
      two (joined ls) at (part (joined ls) from len) (zeros gone) last em eo (rw (q, z) (omega arith)) (rw (q, z, length-zeros) (omega (arith, whole)))
      ∙ rw q (over-joined ls k at (s * p) h (omega arith) (part A (s * (p + n)) len ++ zeros gone) (rw (y, size) (omega arith)))
      ∙ ap (λ (t : List ℕ). joined (set ls k t)) x

-- ---- the same where a word of the first area counts the rows

-- word k of the first area written
write_word : (ws : List ℕ) (ls : List (List ℕ)) (k at x y : ℕ) {o q : List ℕ} → at ≡ 8 * k → x ≡ y → k < length ws → o ≡ joined (lay_words ws ∷ ls) → q ≡ over o at (spell 8 x) → q ≡ joined (lay_words (set ws k y) ∷ ls)
write_word ws ls k at x y ea ex h eo eq = eq ∙ rw (eo, ea, ex) (put_word ws ls k y h)

-- a table of rows of s bytes, with room for so many from index base on, counted by the word at index head; put makes the whole of any rows
pub record Counted {R : Type 0} (lay : R → List ℕ) (s base room head : ℕ) (rs : List R) (put : List R → List ℕ) : Type 0 where
  pub heads : List ℕ
  pub others : List (List ℕ)
  pub counter : ℕ
  pub which : ℕ
  pub sized : (r : R) → length (lay r) ≡ s
  pub in_heads : counter < length heads
  pub in_others : which < length others
  pub place : head ≡ 8 * counter
  pub start : length (joined (lay_words heads ∷ take which others)) ≡ base
  pub fits : length rs ≤ room
  pub counts : get_or heads counter 0 ≡ length rs
  pub stands : get_or others which [] ≡ area lay s room rs
  pub whole : (qs : List R) → put qs ≡ joined (lay_words (set heads counter (length qs)) ∷ set others which (area lay s room qs))

module _ {R : Type 0} {lay : R → List ℕ} {s base room head : ℕ} {rs : List R} {put : List R → List ℕ} (t : Counted lay s base room head rs put) where
  abbrev ws : List ℕ
  ws = t.heads

  abbrev ls : List (List ℕ)
  ls = t.others

  here : put rs ≡ joined (lay_words ws ∷ ls)
  here =
      let x : set ws t.counter (length rs) ≡ ws = rw (← t.counts) (set-get_or ws t.counter 0) in
      let y : set ls t.which (area lay s room rs) ≡ ls = rw (← t.stands) (set-get_or ls t.which []) in
      t.whole rs ∙ rw (x, y)

  -- the count written, where the rows are already
  count-rows : (qs : List R) (x : ℕ) {o q : List ℕ} → x ≡ length qs → o ≡ joined (lay_words ws ∷ set ls t.which (area lay s room qs)) → q ≡ over o head (spell 8 x) → q ≡ put qs
  count-rows qs x ex eo eq =
      write_word ws (set ls t.which (area lay s room qs)) t.counter head x (length qs) t.place ex t.in_heads eo eq ∙ sym (t.whole qs)

  -- row i written
  pub write-row : (i at : ℕ) (r : R) → i < length rs → at ≡ base + s * i → over (put rs) at (lay r) ≡ put (set rs i r)
  write-row i at r b q =
      let x : set ws t.counter (length (set rs i r)) ≡ ws = rw (length-set rs i r, ← t.counts) (set-get_or ws t.counter 0) in
      ap (λ (m : List ℕ). over m at (lay r)) here
      ∙ set-joined lay s t.sized (lay_words ws ∷ ls) (suc t.which) base room rs (omega arith) t.stands t.start t.fits i at r b q
      ∙ sym (t.whole (set rs i r) ∙ rw x)

  -- a row written behind the others, and counted
  pub append-row : (used at x : ℕ) (r : R) {l m o : List ℕ} → l ≡ put rs → used ≡ length rs → used < room → at ≡ base + s * used → x ≡ used + 1
      → m ≡ over l at (lay r) → o ≡ over m head (spell 8 x) → o ≡ put (rs ++ (r ∷ []))
  append-row used at x r {l} {m} el eu b ea ex em eo =
      let j : m ≡ joined (lay_words ws ∷ set ls t.which (area lay s room (rs ++ (r ∷ [])))) =
      em ∙ rw (el, here) (append-joined lay s t.sized (lay_words ws ∷ ls) (suc t.which) base room rs (omega arith) t.stands t.start t.fits at r (omega arith) (rw (← eu) ea)) in
      count-rows (rs ++ (r ∷ [])) x (ex ∙ rw (length-append, eu)) j eo

  -- rows put in at p, and counted
  pub insert-rows : (p used at to n x : ℕ) (qs : List R) {l m o q : List ℕ} → l ≡ put rs → used ≡ length rs → p ≤ used → used + length qs ≤ room → at ≡ base + s * p → to ≡ at + s * length qs → n ≡ s * (used - p) → x ≡ used + length qs
      → m ≡ over l to (part l at n) → o ≡ over m at (lay_all lay qs) → q ≡ over o head (spell 8 x) → q ≡ put (take p rs ++ (qs ++ drop p rs))
  insert-rows p used at to n x qs {l} {m} {o} el eu b c ea et en ex em eo eq =
      let h : m ≡ over (joined (lay_words ws ∷ ls)) to (part (joined (lay_words ws ∷ ls)) at n) = em ∙ rw (el, here) in
      let j : o ≡ joined (lay_words ws ∷ set ls t.which (area lay s room (take p rs ++ (qs ++ drop p rs)))) =
      insert-joined lay s t.sized (lay_words ws ∷ ls) (suc t.which) base room rs (omega arith) t.stands t.start t.fits p at to n qs (omega arith) (omega arith) ea et (rw (← eu) en) h eo in
      count-rows (take p rs ++ (qs ++ drop p rs)) x (omega (arith, length_inserted p qs rs (omega arith))) j eq

  -- n rows taken out from p on, and counted
  pub remove-rows : (p n used at from len last gone x : ℕ) {l m o q : List ℕ} → l ≡ put rs → used ≡ length rs → p + n ≤ used → at ≡ base + s * p → from ≡ at + s * n → len ≡ s * (used - (p + n)) → last ≡ base + s * (used - n) → gone ≡ s * n → x ≡ used - n
      → m ≡ over l at (part l from len) → o ≡ over m last (zeros gone) → q ≡ over o head (spell 8 x) → q ≡ put (take p rs ++ drop (p + n) rs)
  remove-rows p n used at from len last gone x {l} {m} {o} el eu b ea ef en et eg ex em eo eq =
      let i : s * (p + n) ≡ s * p + s * n = mul-add s p n in
      let h : m ≡ over (joined (lay_words ws ∷ ls)) at (part (joined (lay_words ws ∷ ls)) from len) = em ∙ rw (el, here) in
      let j : o ≡ joined (lay_words ws ∷ set ls t.which (area lay s room (take p rs ++ drop (p + n) rs))) =
      remove-joined lay s t.sized (lay_words ws ∷ ls) (suc t.which) base room rs (omega arith) t.stands t.start t.fits p n at from len last gone (omega arith) ea (omega arith) (rw (← eu) en) (rw (← eu) et) eg h eo in
      count-rows (take p rs ++ drop (p + n) rs) x (omega (arith, length_rest p n rs (omega arith))) j eq
