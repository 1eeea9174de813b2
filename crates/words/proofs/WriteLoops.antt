-- One turn of a loop that writes a copy or zeros, or moves bytes up or down.
-- Assumes nothing.
use mathlib.Core.Path.{◌≡◌}
use mathlib.Core.List.{List, [], ◌∷◌, ◌++◌}
use Prim.Native.Nat.{ℕ, ◌+◌, ◌-◌, ◌≤◌, ◌<◌}
use native.Mathlib.Numerals.{add-one}
use native.Mathlib.Omega.{arith}
use lib.ListN.{length, take, get_or, set}
use lib.Seq.{length-take-le, take-suc}
use Rattle.words.specs.Bytes.{part, over, zeros}
use Rattle.words.proofs.Parts.{length-zeros, zeros-add, length_part, over-snoc, over-cons, part-cons, part-snoc}
use Rattle.words.proofs.Numbers.{get_or-over-before, get_or-over-after}

pub copy-turn : (l : List ℕ) (at : ℕ) (s : List ℕ) (i : ℕ) {v : List ℕ} → v ≡ over l at (take i s) → i < length s → at + length s ≤ length l
    → set v (at + i) (get_or s i 0) ≡ over l at (take (i + 1) s)
copy-turn l at s i e h k =
    let n : length (take i s) ≡ i = length-take-le i s (omega arith) in
    rw (e, add-one, take-suc s i 0 h) (rw n at (over-snoc l at (take i s) (get_or s i 0) (omega arith)))

pub clear-turn : (l : List ℕ) (at i : ℕ) {v : List ℕ} → v ≡ over l at (zeros i) → at + i < length l
    → set v (at + i) 0 ≡ over l at (zeros (i + 1))
unfolding zeros
clear-turn l at i e h =
    let n : length (zeros i) ≡ i = length-zeros i in
    rw (e, ← zeros-add i 1) (rw n at (over-snoc l at (zeros i) 0 (omega arith)))

pub up_turn : (l : List ℕ) (to by k j : ℕ) {v : List ℕ} → j ≡ k + 1 → j ≤ to → to + by ≤ length l → v ≡ over l (j + by) (part l j (to - j))
    → set v (k + by) (get_or v k 0) ≡ over l (k + by) (part l k (to - k))
up_turn l to by k j {v} ej h b e =
    let n : length (part l j (to - j)) ≡ to - j = length_part l j (to - j) (omega arith) in
    let g : get_or v k 0 ≡ get_or l k 0 = rw e (get_or-over-before l (j + by) (part l j (to - j)) k (omega arith) (omega arith)) in
    let a : j + by ≡ k + by + 1 = omega arith in
    let p : part l k (to - k) ≡ get_or l k 0 ∷ part l j (to - j) =
    let m : to - k ≡ to - j + 1 = omega arith in rw (m, part-cons l k (to - j) (omega arith), ← ej) in
    rw (g, p, e, a) (over-cons l (k + by) (part l j (to - j)) (get_or l k 0) (omega arith))

pub down_turn : (l : List ℕ) (from by k : ℕ) {v : List ℕ} → by ≤ from → from ≤ k → k < length l → v ≡ over l (from - by) (part l from (k - from))
    → set v (k - by) (get_or v k 0) ≡ over l (from - by) (part l from (k + 1 - from))
down_turn l from by k {v} b h t e =
    let n : length (part l from (k - from)) ≡ k - from = length_part l from (k - from) (omega arith) in
    let g : get_or v k 0 ≡ get_or l k 0 = rw e (get_or-over-after l (from - by) (part l from (k - from)) k (omega arith) t) in
    let f : from + (k - from) ≡ k = omega arith in
    let a : k - by ≡ from - by + length (part l from (k - from)) = omega arith in
    let p : part l from (k + 1 - from) ≡ part l from (k - from) ++ (get_or l k 0 ∷ []) =
    let m : k + 1 - from ≡ k - from + 1 = omega arith in rw (m, part-snoc l from (k - from) (omega arith), f) in
    rw (g, p, a, e) (over-snoc l (from - by) (part l from (k - from)) (get_or l k 0) (omega arith))
