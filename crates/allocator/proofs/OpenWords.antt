-- Words that an allocator keeps are openable, and open leaves them: the whole marker, an accepted size, and free pointers that an account has once.
-- Assumes nothing.
use mathlib.Core.Path.{◌≡◌, refl, sym, ap, ◌∙◌}
use mathlib.Core.Bool.{true, not}
use mathlib.Core.List.{List}
use Prim.Native.Nat.{ℕ, ◌+◌, ◌*◌, ◌%◌, ◌≤◌, ◌<◌}
use native.Mathlib.Omega.{arith}
use lib.Dec.{eqb}
use lib.ListN.{length, get_or}
use lib.Seq.{length-take-le, get_or-take}
use borrow.Author.Tests.{eq-eqb, le-leb}
use Rattle.words.specs.Bytes.{num, word}
use Rattle.words.specs.Rules.{apart, upto, count, Says}
use Rattle.words.proofs.Rules.{says_both, says-upto, says-not, says-eqb, says-ltb, true-says, go_on, tally-times, tally-same}
use Rattle.words.proofs.Counting.{tally-some, tally-two}
use Rattle.words.proofs.Numbers.{num-add}
use Rattle.words.proofs.Tables.{table_at, length-table}
use Rattle.types.specs.Outcomes.{done}
use Rattle.allocator.specs.Sizes.{accepted_size}
use Rattle.allocator.specs.Allocator.{free, marker, free_room, read_word, read_allocator}
use Rattle.allocator.specs.Words.{WordsFormed}
use Rattle.allocator.specs.Pointers.{Accounted, Due}
use Rattle.allocator.specs.Opening.{free_word, lined, free_words_lined, free_words_apart, free_words_good, openable, opened}
use Rattle.allocator.proofs.Sizes.{accepted-bounds}
use Rattle.allocator.proofs.Laid.{first_word}
use Rattle.allocator.proofs.Opened.{mark-new, mark-kept, size-stored, sized-some, size-kept, open_done}
use Rattle.allocator.proofs.Accounts.{free-once}
use Rattle.words.specs.Tests.{tally}

-- a multiple below word 3
pub says-lined : (s next p : ℕ) → Says ((p % s ≡ 0) × (p < next)) (lined s next p)
unfolding lined
says-lined s next p = says_both (says-eqb (p % s) 0) (says-ltb p next)

module _ (l : List ℕ) (f : WordsFormed l) where
  -- ---- the free pointers, as the words have them

  free-room : word l 16 ≤ free_room l
  free-room = omega (arith, f.count)

  pub free-length : length (free (read_allocator l)) ≡ word l 16
  unfolding free read_allocator
  free-length = length-take-le (word l 16) _ (rw (length-table read_word 8 l 128 (free_room l)) free-room)

  pub free-at : (i : ℕ) → i < word l 16 → get_or (free (read_allocator l)) i 0 ≡ free_word l i
  unfolding free read_allocator free_word
  free-at i h =
      get_or-take (word l 16) _ i 0 h ∙ table_at read_word 8 l 128 (free_room l) i 0 (omega (arith, free-room)) ∙ first_word l (128 + 8 * i)

  words-counted : (p : ℕ) → tally (word l 16) (λ i. eqb (free_word l i) p) ≡ count p (free (read_allocator l))
  unfolding count
  words-counted p =
      tally-same (λ i. eqb (free_word l i) p) (λ i. eqb (get_or (free (read_allocator l)) i 0) p) (word l 16) (λ i h. ap (λ (k : ℕ). eqb k p) (sym (free-at i h)))
      ∙ rw free-length at (tally-times (λ m. eqb m p) 0 (free (read_allocator l)))

  module _ (mark : word l 0 ≡ marker) (size : accepted_size (word l 8) ≡ true) (next : word l 24 % word l 8 ≡ 0) (live : List ℕ) (account : Accounted (read_allocator l) live) where
    new-mark : num 4 l 0 ≡ marker
    new-mark = omega (arith, num-add 4 4 l 0 (omega (arith, f.least)), mark)

    positive : word l 8 ≡ 0 → ⊥
    positive e = omega (arith, accepted-bounds (word l 8) size)

    -- a free word is aligned, below word 3, and stands once
    free-due : (i : ℕ) → i < word l 16 → (tally (word l 16) (λ j. eqb (free_word l j) (free_word l i)) ≡ 1) × Due (word l 8) (word l 24) (free_word l i)
    unfolding read_allocator
    free-due i h =
        let p = free_word l i in
        let some : 1 ≤ tally (word l 16) (λ j. eqb (free_word l j) p) = tally-some (λ j. eqb (free_word l j) p) (word l 16) i h (eq-eqb p p refl) in
        let once = free-once (read_allocator l) live p account (rw (words-counted p) at some) in
        (words-counted p ∙ once.0, once.2)

    all-lined : free_words_lined l (word l 8) ≡ true
    unfolding free_words_lined
    all-lined =
        true-says (says-upto (λ i. (free_word l i % word l 8 ≡ 0) × (free_word l i < word l 24)) (λ i. lined (word l 8) (word l 24) (free_word l i)) (word l 16) (λ i h. says-lined (word l 8) (word l 24) (free_word l i)))
        (λ i h. ((free-due i h).1.lined, (free-due i h).1.low))

    none-twice : (i j : ℕ) → j < i → i < word l 16 → free_word l j ≡ free_word l i → ⊥
    none-twice i j h k e =
        let p = free_word l i in
        omega (arith, (free-due i k).0, tally-two (λ m. eqb (free_word l m) p) (word l 16) j i h k (eq-eqb (free_word l j) p e) (eq-eqb p p refl))

    all_apart : free_words_apart l ≡ true
    unfolding free_words_apart apart
    all_apart =
        true-says (says-upto (λ i. (j : ℕ) → j < i → free_word l j ≡ free_word l i → ⊥) (λ i. upto i (λ j. not (eqb (free_word l j) (free_word l i)))) (word l 16)
        (λ i h. says-upto (λ j. free_word l j ≡ free_word l i → ⊥) (λ j. not (eqb (free_word l j) (free_word l i))) i (λ j k. says-not (says-eqb (free_word l j) (free_word l i)))))
        (λ i h j k. none-twice i j k h)

    pub words-openable : openable l ≡ true
    unfolding openable free_words_good
    words-openable =
        sym (go_on _ _ (sym (mark-new l refl new-mark)) (go_on _ _ (sym (sized-some l refl positive (sym size))) (rw (← size-stored l refl positive)
        (go_on _ _ (eq-eqb _ _ next) (go_on _ _ (le-leb _ _ free-room) (go_on _ _ all-lined (sym all_apart)))))))

    pub words_opened : opened l ≡ done 0 l
    words_opened = sym (open_done l f.least words-openable (mark-kept l refl (λ e. omega (arith, new-mark))) (size-kept l refl positive))
