-- Laws of lists made of pieces: parts that meet, numbers spelled in a piece, and tables with room behind them.
-- Assumes nothing.
use mathlib.Core.Path.{◌≡◌, refl, sym, ap, ◌∙◌}
use mathlib.Core.List.{List, [], ◌∷◌, ◌++◌, append-nil}
use Prim.Native.Nat.{ℕ, zero, suc, ◌+◌, ◌-◌, ◌*◌, ◌^◌, ◌≤◌, ◌<◌}
use native.Mathlib.Nat.{add-zero, mul-zero, mul-suc, mul-add, add_comm}
use native.Mathlib.Omega.{arith}
use lib.ListN.{length, take, drop, get_or}
use Rattle.words.specs.Bytes.{part, zeros, spell, num, word, Bytes}
use Rattle.words.specs.Tables.{table, lay_all, lay_words, area, joined, Each}
use Rattle.words.proofs.Parts.{part-add, part-zero, part-mid, length-zeros}
use Rattle.words.proofs.Numbers.{num-mid, spell-num}
use Rattle.words.proofs.Tables.{joined-cut, length-table, length-lay_all}

-- ---- parts that meet

-- two parts, one right behind the other, are one part
pub glue : (l : List ℕ) (at m n k to : ℕ) {a b : List ℕ} → to ≡ at + m → k ≡ m + n → a ≡ part l at m → b ≡ part l to n → a ++ b ≡ part l at k
glue l at m n k to e f p q = rw (p, q, e, f, part-add l at m n)

-- the last of parts that meet
pub last-part : (l : List ℕ) (at n : ℕ) {a : List ℕ} → a ≡ part l at n → a ++ [] ≡ part l at n
last-part l at n p = append-nil _ ∙ p

-- words that are those of a list from an index on
unfoldable pub Read : List ℕ → ℕ → List ℕ → Type 0
Read l at [] = Unit {0}
Read l at (w ∷ ws) = (w ≡ word l at) × Read l (at + 8) ws

-- words that are read are laid out as they stand
pub words-again : (l : List ℕ) (at : ℕ) (ws : List ℕ) → Bytes l → Read l at ws → at + 8 * length ws ≤ length l → lay_words ws ≡ part l at (8 * length ws)
unfolding Read lay_all
words-again l at [] y t h = sym (part-zero l at)
words-again l at (w ∷ ws) y t h =
    glue l at 8 (8 * length ws) (8 * suc (length ws)) (at + 8) refl (omega arith) (ap (spell 8) t.0 ∙ spell-num 8 l at y (omega arith)) (words-again l (at + 8) ws y t.1 (omega arith))

-- ---- numbers spelled in a piece

-- the number that piece k spells
pub spelled : (ls : List (List ℕ)) (k at n x : ℕ) → k < length ls → length (joined (take k ls)) ≡ at → get_or ls k [] ≡ spell n x → x < 256 ^ n → num n (joined ls) at ≡ x
spelled ls k at n x h a e b = rw (joined-cut ls k h, e) (num-mid n (joined (take k ls)) (joined (drop (suc k) ls)) at x a b)

-- ---- tables with room behind them

-- rows that are read, each of them laid out as it stands, are laid out as they stand
pub rows-again : {R : Type 0} (read : List ℕ → R) (lay : R → List ℕ) (s : ℕ) (l : List ℕ) (at n : ℕ) → ((i : ℕ) → i < n → lay (read (part l (at + s * i) s)) ≡ part l (at + s * i) s)
    → lay_all lay (table read s l at n) ≡ part l at (s * n)
unfolding lay_all table
rows-again read lay s l at zero h = rw mul-zero (sym (part-zero l at))
rows-again read lay s l at (suc n) h =
    let e : s * suc n ≡ s + s * n = mul-suc s n ∙ add_comm (s * n) s in
    let a : lay (read (part l at s)) ≡ part l at s = let z : at + s * 0 ≡ at = rw (mul-zero, add-zero) in rw z at (h 0 (omega arith)) in
    let r : lay_all lay (table read s l (at + s) n) ≡ part l (at + s) (s * n) =
    rows-again read lay s l (at + s) n (λ i b. let z : at + s + s * i ≡ at + s * suc i = rw mul-suc (omega arith) in rw z (h (suc i) (omega arith))) in
    glue l at s (s * n) (s * suc n) (at + s) refl e a r

-- and so is a table with zeros behind its rows
pub area-again : {R : Type 0} (read : List ℕ → R) (lay : R → List ℕ) (s : ℕ) (l : List ℕ) (at used room : ℕ) → used ≤ room
    → ((i : ℕ) → i < used → lay (read (part l (at + s * i) s)) ≡ part l (at + s * i) s) → part l (at + s * used) (s * (room - used)) ≡ zeros (s * (room - used))
    → area lay s room (table read s l at used) ≡ part l at (s * room)
unfolding area
area-again read lay s l at used room h r z =
    let e : s * room ≡ s * used + s * (room - used) = let q : room ≡ used + (room - used) = omega arith in ap (λ (k : ℕ). s * k) q ∙ mul-add s used (room - used) in
    rw length-table (glue l at (s * used) (s * (room - used)) (s * room) (at + s * used) refl e (rows-again read lay s l at used r) (sym z))

-- every row of a table, by what holds of the bytes of each
pub each_rows : {R : Type 0} (P : R → Type 0) (read : List ℕ → R) (s : ℕ) (l : List ℕ) (at n : ℕ) → ((i : ℕ) → i < n → P (read (part l (at + s * i) s))) → Each P (table read s l at n)
unfolding Each table
each_rows P read s l at zero h = tt
each_rows P read s l at (suc n) h =
    let z : at + s * 0 ≡ at = rw (mul-zero, add-zero) in
    (rw z at (h 0 (omega arith)), each_rows P read s l (at + s) n (λ i b. let e : at + s + s * i ≡ at + s * suc i = rw mul-suc (omega arith) in rw e (h (suc i) (omega arith))))

-- the zeros behind the rows of a table
pub unused-area : {R : Type 0} (lay : R → List ℕ) (s : ℕ) (sized : (r : R) → length (lay r) ≡ s) (room : ℕ) (rs : List R) → part (area lay s room rs) (s * length rs) (s * (room - length rs)) ≡ zeros (s * (room - length rs))
unfolding area
unused-area lay s sized room rs =
    rw append-nil at (part-mid (lay_all lay rs) (zeros (s * (room - length rs))) [] (s * length rs) (s * (room - length rs)) (length-lay_all lay s sized rs) (length-zeros (s * (room - length rs))))
