-- Numbers in decimal, digit by digit, and three runs of bytes put one behind another, as a line and the report's text are.
-- Assumes nothing.
use mathlib.Core.Path.{◌≡◌, refl}
use mathlib.Core.List.{List, [], ◌∷◌, ◌++◌, append_assoc, append-nil}
use Prim.Native.Nat.{ℕ, zero, suc, ◌+◌, ◌-◌, ◌/◌, ◌%◌, ◌^◌, ◌≤◌, ◌<◌}
use native.Mathlib.Nat.{pow-succ'}
use native.Mathlib.Numerals.{add-one}
use native.Mathlib.Omega.{arith}
use borrow.Author.Tests.{lt-ltb, le-ltb}
use lib.ListN.{length, set, length-append}
use Rattle.words.specs.Bytes.{over, spell}
use Rattle.words.specs.Tables.{joined}
use Rattle.words.proofs.Parts.{set-over, over-before, over-nil, two}
use Rattle.words.proofs.Rules.{pick_true, pick-false}
use Rattle.volume.specs.Volume.{Volume}
use Rattle.lentilraft.specs.Report.{digits, width, decimal, line, size_lines, row_lines, next_lines, text}

-- ---- how many digits

width_one : (m n : ℕ) → 0 < m → n < 10 → 1 ≡ width m n
unfolding width
width_one zero n p h = absurd (omega arith)
width_one (suc m) n p h = pick_true _ _ _ _ (lt-ltb _ _ h) refl

pub width-more : (m n : ℕ) → 10 ≤ n → 1 + width m (n / 10) ≡ width (suc m) n
unfolding width
width-more m n h = pick-false _ _ _ _ (le-ltb _ _ h) refl

-- of w digits, at most 20, k - 1 are cut off, and rest has the others
pub record Seen (w k rest : ℕ) : Type 0 where
  pub least : 1 ≤ k
  pub most : k ≤ 20
  pub width : w ≡ k - 1 + width (21 - k) rest
  pub below : rest < 10 ^ (21 - k)

pub seen_first : (n : ℕ) → n < 2 ^ 64 → Seen (width 20 n) 1 n
seen_first n h = record { least = omega arith; most = omega arith; width = omega arith; below = omega arith }

pub seen_next : (w k n : ℕ) → Seen w k n → 10 ≤ n → Seen w (k + 1) (n / 10)
seen_next w k n s h = go (20 - k) refl
  where
    go : (m : ℕ) → 20 - k ≡ m → Seen w (k + 1) (n / 10)
    go zero e =
        let a : 21 - k ≡ 1 = omega arith in
        absurd (omega (arith, rw a at s.below))
    go (suc m) e =
        let a : 21 - k ≡ suc (suc m) = omega arith in
        let b : 21 - (k + 1) ≡ suc m = omega arith in
        record {
          least = omega arith;
          most = omega arith;
          width = rw b (omega (arith, rw a at s.width, width-more (suc m) n h));
          below = rw b (omega (arith, rw (a, pow-succ') at s.below));
        }

pub seen_last : (w k n : ℕ) → Seen w k n → n < 10 → (k ≡ w) × (1 ≤ k) × (k ≤ 20)
seen_last w k n s h = (omega (arith, width_one (21 - k) n (omega (arith, s.most)) h, s.width, s.least), s.least, s.most)

-- ---- digits

pub length_digits : (k n : ℕ) → length (digits k n) ≡ k
unfolding digits
length_digits zero n = refl
length_digits (suc k) n = rw (length-append, length_digits k (n / 10)) (omega arith)

-- the last digit is put, and the others are still to be put before it
pub digit-turn : (l : List ℕ) (at i j n : ℕ) → j ≡ i + 1 → at + j ≤ length l → over (set l (at + i) (48 + n % 10)) at (digits i (n / 10)) ≡ over l at (digits j n)
unfolding digits
digit-turn l at i j n e h =
    let k = length_digits i (n / 10) in
    rw (e, add-one, set-over l (at + i) (48 + n % 10) (omega arith))
    (rw k at (over-before l at (digits i (n / 10)) ((48 + n % 10) ∷ []) (omega arith)))

pub digits-put : (l : List ℕ) (at i n : ℕ) → i ≡ 0 → over l at (digits i n) ≡ l
unfolding digits
digits-put l at i n e = rw e (over-nil l at)

-- ---- three runs of bytes, one behind another

length_three : (a b c : List ℕ) → length (joined (a ∷ b ∷ c ∷ [])) ≡ length a + length b + length c
unfolding joined
length_three a b c = simp length-append (omega arith)

over-three : (l : List ℕ) (at : ℕ) (a b c : List ℕ) (i j : ℕ) {m n o : List ℕ} → i ≡ at + length a → j ≡ i + length b → j + length c ≤ length l
    → m ≡ over l at a → n ≡ over m i b → o ≡ over n j c → o ≡ over l at (joined (a ∷ b ∷ c ∷ []))
unfolding joined
over-three l at a b c i j e f h p q t =
    let k : length (a ++ b) ≡ length a + length b = length-append a b in
    let u = two l at (a ++ b) c j (two l at a b i p q e (omega arith)) t (omega arith) (omega arith) in
    rw (append-nil, ← append_assoc) u

-- a from at up to i, b up to j, c up to r, which is at most end
pub three : (l : List ℕ) (at end : ℕ) (a b c : List ℕ) (i j r : ℕ) {m n o : List ℕ} → i ≡ at + length a → j ≡ i + length b → r ≡ j + length c
    → r ≤ end → end ≤ length l → m ≡ over l at a → n ≡ over m i b → o ≡ over n j c
    → (r ≡ at + length (joined (a ∷ b ∷ c ∷ []))) × (r ≤ end) × (o ≡ over l at (joined (a ∷ b ∷ c ∷ [])))
three l at end a b c i j r e f g h k p q t = (omega (arith, length_three a b c), h, over-three l at a b c i j e f (omega arith) p q t)

-- the same at the front
pub three-first : (l : List ℕ) (end : ℕ) (a b c : List ℕ) (i j r : ℕ) {m n o : List ℕ} → i ≡ length a → j ≡ i + length b → r ≡ j + length c
    → r ≤ end → end ≤ length l → m ≡ over l 0 a → n ≡ over m i b → o ≡ over n j c
    → (r ≡ length (joined (a ∷ b ∷ c ∷ []))) × (r ≤ end) × (o ≡ over l 0 (joined (a ∷ b ∷ c ∷ [])))
three-first l end a b c i j r e f g h k p q t =
    let u = three l 0 end a b c i j r (omega arith) f g h k p q t in
    (omega (arith, u.0), u.1, u.2)

-- the key, the digits and the newline are a line
pub line-put : (l : List ℕ) (at : ℕ) (key : List ℕ) (n k : ℕ) {m o r : List ℕ} → k ≡ width 20 n → k ≤ 20 → at + length key + 21 ≤ length l
    → m ≡ over l at key → o ≡ over m (at + length key) (digits k n) → r ≡ over o (at + length key + k) (spell 1 10)
    → (at + length key + k + 1 ≡ at + length (line key n)) × (at + length key + k + 1 ≤ at + length key + 21) × (r ≡ over l at (line key n))
unfolding line decimal joined spell
line-put l at key n k e h s p q t =
    let d = length_digits k n in
    rw (← e) (three l at (at + length key + 21) key (digits k n) (10 ∷ []) (at + length key) (at + length key + k) (at + length key + k + 1) refl (omega arith) refl (omega arith) s p q t)

-- the three groups of lines are the text, where the numbers are the volume's
pub text-put : (v : Volume) (l : List ℕ) {size nodes entries chunks free pointer node : ℕ} (i j r : ℕ) {m n o : List ℕ}
    → size ≡ v.store.allocator.chunk_size → nodes ≡ length v.names.nodes → entries ≡ length v.names.entries → chunks ≡ length v.store.chunks
    → free ≡ v.store.allocator.free_count → pointer ≡ v.store.allocator.next_ptr → node ≡ v.names.next_node
    → i ≡ length (size_lines size) → j ≡ i + length (row_lines nodes entries chunks) → r ≡ j + length (next_lines free pointer node)
    → r ≤ 512 → 512 ≤ length l → m ≡ over l 0 (size_lines size) → n ≡ over m i (row_lines nodes entries chunks) → o ≡ over n j (next_lines free pointer node)
    → (r ≡ length (text v)) × (r ≤ 512) × (o ≡ over l 0 (text v))
unfolding text
text-put v l {size} {nodes} {entries} {chunks} {free} {pointer} {node} i j r s a b c f g h e k u y z p q t =
    rw (← s, ← a, ← b, ← c, ← f, ← g, ← h) (three-first l 512 (size_lines size) (row_lines nodes entries chunks) (next_lines free pointer node) i j r e k u y z p q t)
