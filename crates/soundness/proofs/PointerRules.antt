-- Laws of the pointers: what their tests mean, the account of the pointers, both ways; and the free pointers as the allocator's words have them.
-- Assumes nothing.
use mathlib.Core.Path.{◌≡◌, refl, sym, ap, ◌∙◌}
use mathlib.Core.Bool.{Bool, true, false}
use mathlib.Core.List.{List, [], map}
use Prim.Native.Nat.{ℕ, zero, suc, ◌+◌, ◌*◌, ◌/◌, ◌%◌, ◌≤◌, ◌<◌}
use native.Mathlib.Nat.{mul-le-mul, mul-le-mul_right, mul-mod_left, le-div_iff_mul-le, suc-mul}
use native.Mathlib.Omega.{arith}
use lib.Dec.{eqb, ltb}
use lib.ListN.{length, get_or}
use borrow.Author.Tests.{eq-eqb, ne_eqb}
use Rattle.words.specs.Rules.{count, Says, holds, fails}
use Rattle.words.specs.Tests.{tally}
use Rattle.words.specs.Bytes.{word}
use Rattle.words.proofs.Counting.{tally-some, count_map, tally-none}
use Rattle.words.proofs.Rules.{says_map, says-true, says_both, says-eqb, says-ltb, says-leb, tally-times}
use Rattle.words.proofs.Multiples.{whole}
use Rattle.allocator.specs.Opening.{free_word}
use Rattle.allocator.specs.Pointers.{due}
use Rattle.allocator.specs.Allocator.{Allocator, free, read_allocator}
use Rattle.allocator.proofs.Accounts.{due-facts, due-one, due-none, due-most}
use Rattle.allocator.specs.Words.{WordsFormed}
use Rattle.allocator.proofs.OpenWords as OpenWords
use Rattle.volume.specs.Header.{at_chunk_room}
use Rattle.volume.specs.declared.ChunkRow.{ChunkRow}
use Rattle.volume.specs.declared.Layout.{Layout}
use Rattle.volume.specs.Rows.{read_chunk}
use Rattle.volume.specs.Volume.{shown}
use Rattle.tables.specs.Tables.{Ready}
use Rattle.soundness.specs.PointerRules.{next_fits, unmarked, marks_after, all_markable, row_pointer, free_pointer, pointers_good}
use Rattle.soundness.proofs.Marks.{Lined, Markable, Shows, shows-as, shows-none, place-due, all-met, met_all, says_all, shows-pass, all_first, markable-same}

-- ---- what the tests mean

pub says-next : (s next area c : ℕ) → Says ((next % s ≡ 0) × ((next ≤ area) × (next ≤ c * s))) (next_fits s next area c)
unfolding next_fits
says-next s next area c = says_both (says-eqb (next % s) 0) (says_both (says-leb next area) (says-leb next (c * s)))

-- word 3 leaves a mark for each multiple
pub next_low : (s next c : ℕ) → c ≤ 4096 → next ≤ c * s → next ≤ 4096 * s
next_low s next c h k = omega (arith, mul-le-mul_right s h)

-- how often a pointer stands among row pointers, and among free pointers
abbrev rows_standing : List ChunkRow → ℕ → ℕ
rows_standing cs p = tally (length cs) (λ i. eqb (row_pointer cs i) p)

abbrev free_standing : List ℕ → ℕ → ℕ
free_standing ws p = tally (length ws) (λ i. eqb (free_pointer ws i) p)

-- tallies over places are counts over lists
rows-counted : (cs : List ChunkRow) (p : ℕ) → rows_standing cs p ≡ count p (map (λ c. c.pointer) cs)
unfolding count
rows-counted cs p = tally-times (λ c. eqb c.pointer p) (read_chunk []) cs ∙ count_map (λ c. c.pointer) p cs

free-counted : (ws : List ℕ) (p : ℕ) → free_standing ws p ≡ count p ws
unfolding count
free-counted ws p = tally-times (λ m. eqb m p) 0 ws

-- the chunk at a multiple below word 3 ends at it or before
turn-fits : (q s next : ℕ) → 0 < s → q < next / s → q * s + s ≤ next
turn-fits q s next h k =
    let e : suc q * s ≤ next = (le-div_iff_mul-le {k = s} {x = suc q} {y = next} h).0 k in
    rw suc-mul at e

module _ (s next : ℕ) (pos : 0 < s) (room : next ≤ 4096 * s) (al : next % s ≡ 0) (cs : List ChunkRow) (ws : List ℕ) where
  abbrev Tests : Type 0
  Tests = ((i : ℕ) → i < length cs → Lined s next (row_pointer cs i)) × (((i : ℕ) → i < length ws → Lined s next (free_pointer ws i)) × ((q : ℕ) → q < next / s → rows_standing cs (q * s) + free_standing ws (q * s) ≡ 1))

  unlike : (p q : ℕ) → Lined s next q → (Lined s next p → ⊥) → eqb q p ≡ false
  unlike p q h k = ne_eqb q p (λ e. k (rw (← e) h))

  none-standing : Tests → (p : ℕ) → (Lined s next p → ⊥) → rows_standing cs p + free_standing ws p ≡ 0
  none-standing t p k =
      rw (tally-none (λ i. eqb (row_pointer cs i) p) (length cs) (λ i h. unlike p (row_pointer cs i) (t.0 i h) k), tally-none (λ i. eqb (free_pointer ws i) p) (length ws) (λ i h. unlike p (free_pointer ws i) (t.1.0 i h) k))

  account-of : Tests → (p : ℕ) → rows_standing cs p + free_standing ws p ≡ due s next p
  account-of t p = case (ltb p next) (says-ltb p next) (eqb (p % s) 0) (says-eqb (p % s) 0)
    where
      case : (a : Bool) → Says (p < next) a → (b : Bool) → Says (p % s ≡ 0) b → rows_standing cs p + free_standing ws p ≡ due s next p
      case true (holds h) true (holds g) =
          let w = whole s p g in
          let m = place-due s next pos room al p (g, h) in
          rw w at (t.1.1 (p / s) m) ∙ sym (due-one s next p g h)
      case true (holds h) false (fails g) = none-standing t p (λ k. g k.0) ∙ sym (not-due g)
        where
          not-due : (p % s ≡ 0 → ⊥) → due s next p ≡ 0
          not-due k = small (due s next p) refl
            where
              small : (d : ℕ) → due s next p ≡ d → due s next p ≡ 0
              small zero e = e
              small (suc d) e = absurd (k (due-facts s next p (omega (arith, e))).lined)
      case false (fails h) b g = none-standing t p (λ k. h k.1) ∙ sym (due-none s next p (omega arith))

  of-account : ((p : ℕ) → rows_standing cs p + free_standing ws p ≡ due s next p) → Tests
  of-account a = (
    (λ i h. let p = row_pointer cs i in let d = due-facts s next p (omega (arith, a p, tally-some (λ j. eqb (row_pointer cs j) p) (length cs) i h (eq-eqb p p refl))) in (d.lined, d.low)),
    (
      (λ i h. let p = free_pointer ws i in let d = due-facts s next p (omega (arith, a p, tally-some (λ j. eqb (free_pointer ws j) p) (length ws) i h (eq-eqb p p refl))) in (d.lined, d.low)),
      (λ q h. a (q * s) ∙ due-one s next (q * s) (mul-mod_left q s) (omega (arith, turn-fits q s next pos h))),
    ),
  )

  -- ---- by the marks

  abbrev rows_marked : List ℕ
  rows_marked = marks_after s (row_pointer cs) (length cs) unmarked

  abbrev Marks : Type 0
  Marks =
      ((i : ℕ) → i < length cs → Markable s next (row_pointer cs) unmarked i) × (((i : ℕ) → i < length ws → Markable s next (free_pointer ws) rows_marked i) × (length cs + length ws ≡ next / s))

  rows-shown : ((i : ℕ) → i < length cs → Markable s next (row_pointer cs) unmarked i) → Shows s next (rows_standing cs) (length cs) rows_marked
  rows-shown h = shows-as (λ p. omega arith) (omega arith) (shows-pass s next pos room al (shows-none s next pos room) (row_pointer cs) (length cs) h)

  tests-of : Marks → Tests
  tests-of t = (
    (λ i h. (t.0 i h).0),
    (
      (λ i h. (t.1.0 i h).0),
      all-met s next pos room al (shows-pass s next pos room al (rows-shown t.0) (free_pointer ws) (length ws) t.1.0) t.1.1,
    ),
  )

  -- an account lets no pointer stand twice
  marks-of : ((p : ℕ) → rows_standing cs p + free_standing ws p ≡ due s next p) → Marks
  marks-of a =
      let t = of-account a in
      let r = all_first s next pos room al (shows-none s next pos room) (row_pointer cs) (length cs) t.0 (λ i h. omega (arith, a (row_pointer cs i), due-most s next (row_pointer cs i))) in
      let w = rows-shown r in
      let f = all_first s next pos room al w (free_pointer ws) (length ws) t.1.0 (λ i h. omega (arith, a (free_pointer ws i), due-most s next (free_pointer ws i))) in
      (r, (f, met_all s next pos room al (shows-pass s next pos room al w (free_pointer ws) (length ws) f) t.1.1))

  -- the tests say exactly that every pointer ever given out is live once or free once
  pub says-pointers : Says ((p : ℕ) → count p (map (λ c. c.pointer) cs) + count p ws ≡ due s next p) (pointers_good s next cs ws)
  unfolding pointers_good
  says-pointers =
      says_map (λ t p. rw (← rows-counted cs p, ← free-counted ws p) (account-of (tests-of t) p)) (λ a. marks-of (λ p. rw (rows-counted cs p, free-counted ws p) (a p)))
      (says_both (says_all s next (row_pointer cs) unmarked (length cs)) (says_both (says_all s next (free_pointer ws) rows_marked (length ws)) (says-eqb (length cs + length ws) (next / s))))

-- ---- the free pointers of an allocator, in the words that it was read from

module _ {a : Allocator} {w : List ℕ} (e : read_allocator w ≡ a) (f : WordsFormed w) where
  count-read : a.free_count ≡ word w 16
  count-read = unfold read_allocator in ap (λ b. b.free_count) (sym e)

  pub count_room : 128 + 8 * a.free_count ≤ length w
  count_room = omega (arith, f.count, count-read)

  free-length : length (free a) ≡ a.free_count
  unfolding read_allocator
  free-length = rw (count-read, ← e) (OpenWords.free-length w f)

  free-at : (i : ℕ) → i < a.free_count → get_or (free a) i 0 ≡ free_word w i
  free-at i h = rw (← e) (OpenWords.free-at w f i (omega (arith, count-read)))

  pub free-marked : (s next : ℕ) (m : List ℕ) {k : List ℕ} {count : ℕ} {b : Bool} → k ≡ m → count ≡ a.free_count → b ≡ all_markable s next (free_word w) count k → b ≡ all_markable s next (free_pointer (free a)) (length (free a)) m
  free-marked s next m h e q = q ∙ rw (h, e, free-length) (markable-same s (free_word w) (free_pointer (free a)) m next a.free_count (λ i h. sym (free-at i h)))

  -- as many as there are
  pub as_many : (q : ℕ) {used n count t : ℕ} → used ≡ n → count ≡ a.free_count → t ≡ q → eqb (used + count) t ≡ eqb (n + length (free a)) q
  as_many q h e f = rw (h, e, f, free-length)

-- the free pointers of a volume: there is room for them
count_fits : (l : List ℕ) (y : Layout) (r : Ready l y) → (shown l).store.allocator.free_count ≤ word l at_chunk_room
count_fits l y r = unfold shown in r.formed.fits.store.free

-- ---- for the code: numbers that it read

pub mul-fits : (c s : ℕ) → c ≤ 4096 → s ≤ 65536 → c * s < 18446744073709551616
mul-fits c s h k = omega (arith, mul-le-mul h k)

pub next_there : (s next area c : ℕ) → c ≤ 4096 → next_fits s next area c ≡ true → next ≤ 4096 * s
next_there s next area c h e = next_low s next c h (says-true (says-next s next area c) e).1.1
