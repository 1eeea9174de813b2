-- The allocator's bytes and its record: what is read is laid out again, and what is laid out is read back; a word written is a field changed.
-- Assumes nothing.
use mathlib.Core.Path.{◌≡◌, sym, ap, ◌∙◌}
use mathlib.Core.List.{List, [], ◌∷◌, ◌++◌, append-nil}
use Prim.Native.Nat.{ℕ, ◌+◌, ◌-◌, ◌*◌, ◌/◌, ◌^◌, ◌≤◌, ◌<◌}
use native.Mathlib.Nat.{add-zero}
use native.Mathlib.Omega.{arith}
use lib.ListN.{length, get_or, set, length-append}
use lib.Seq.{take-length, get_or-append-add}
use Rattle.words.specs.Bytes.{part, over, spell, num, word, Bytes}
use Rattle.words.specs.Tables.{table, lay_words, Each}
use Rattle.words.proofs.Numbers.{num-below, num-part, spell-num, length-spell, little-endian-spell}
use Rattle.words.proofs.Order.{each_map, each_left, each_right, set-append-add}
use Rattle.words.proofs.Pieces.{rows-again, each_rows}
use Rattle.words.proofs.Tables.{table-lay, length-table, length-lay_all, lay_all-append, table-add, set-lay, num-words}
use Rattle.allocator.specs.Allocator.{Allocator, with_size, with_count, with_next_ptr, with_words, words_of, lay_allocator, read_allocator, read_word}
use Rattle.allocator.specs.Words.{WordsFormed}

-- ---- what is read is laid out again

pub first_word : (l : List ℕ) (at : ℕ) → read_word (part l at 8) ≡ word l at
unfolding read_word
first_word l at = rw (num-part 8 l at 8 0 (omega arith), add-zero)

word-again : (l : List ℕ) → Bytes l → (at : ℕ) → at + 8 ≤ length l → spell 8 (read_word (part l at 8)) ≡ part l at 8
word-again l b at h = rw (first_word l at) (spell-num 8 l at b h)

-- all the words
words-of : (l : List ℕ) → WordsFormed l → words_of (read_allocator l) ≡ table read_word 8 l 0 (length l / 8)
unfolding words_of read_allocator table
words-of l f =
    let e : length l / 8 ≡ 16 + (length l / 8 - 16) = omega (arith, f.least) in
    sym (ap (table read_word 8 l 0) e ∙ table-add read_word 8 l 0 16 (length l / 8 - 16) ∙ rw (first_word l 0, first_word l 8, first_word l 16, first_word l 24))

pub laid-again : (l : List ℕ) → Bytes l → WordsFormed l → lay_allocator (read_allocator l) ≡ l
unfolding lay_allocator
laid-again l b f =
    let e : 8 * (length l / 8) ≡ length l = omega (arith, f.whole) in
    let w : part l 0 (length l) ≡ l = unfold part in take-length l in
    ap lay_words (words-of l f) ∙ rows-again read_word (spell 8) 8 l 0 (length l / 8) (λ i h. word-again l b (0 + 8 * i) (omega arith)) ∙ ap (part l 0) e ∙ w

-- ---- what is laid out is read back

pub record WordsFit (a : Allocator) : Type 0 where
  pub twelve : length a.unread ≡ 12
  pub small : Each (λ w. w < 2 ^ 64) (words_of a)

word_back : (w : ℕ) → w < 2 ^ 64 → read_word (spell 8 w) ≡ w
unfolding read_word num part spell
word_back w h = little-endian-spell 8 w h

words_back : (ws : List ℕ) → Each (λ w. w < 2 ^ 64) ws → Each (λ w. read_word (spell 8 w) ≡ w) ws
words_back ws h = each_map (λ w. w < 2 ^ 64) (λ w. read_word (spell 8 w) ≡ w) word_back ws h

-- ---- the words of an allocator that fits

abbrev heads : Allocator → List ℕ
heads a = a.mark ∷ a.chunk_size ∷ a.free_count ∷ a.next_ptr ∷ []

-- its first sixteen words
abbrev front : Allocator → List ℕ
front a = heads a ++ a.unread

module _ (a : Allocator) (t : length a.unread ≡ 12) where
  length-words : length (words_of a) ≡ 16 + length a.words
  unfolding words_of
  length-words = rw (length-append a.unread a.words, t) (omega arith)

  pub length-laid : length (lay_allocator a) ≡ 128 + 8 * length a.words
  unfolding lay_allocator
  length-laid = length-lay_all (spell 8) 8 (length-spell 8) (words_of a) ∙ omega (arith, length-words)

  put-laid : (k x : ℕ) → k < 16 + length a.words → over (lay_allocator a) (8 * k) (spell 8 x) ≡ lay_words (set (words_of a) k x)
  unfolding lay_allocator
  put-laid k x h = simp append-nil at (set-lay (spell 8) 8 (length-spell 8) (words_of a) [] k x (omega (arith, length-words)))

  front_length : length (front a) ≡ 16
  front_length = rw (length-append (heads a) a.unread, t)

  -- a word written is a field changed
  pub put-size : (x : ℕ) → over (lay_allocator a) 8 (spell 8 x) ≡ lay_allocator (with_size x a)
  unfolding lay_allocator words_of
  put-size x = put-laid 1 x (omega arith)

  pub put_count : (x : ℕ) → over (lay_allocator a) 16 (spell 8 x) ≡ lay_allocator (with_count x a)
  unfolding lay_allocator words_of
  put_count x = put-laid 2 x (omega arith)

  pub put_next : (x : ℕ) → over (lay_allocator a) 24 (spell 8 x) ≡ lay_allocator (with_next_ptr x a)
  unfolding lay_allocator words_of
  put_next x = put-laid 3 x (omega arith)

  pub put-free : (k p : ℕ) → k < length a.words → over (lay_allocator a) (128 + 8 * k) (spell 8 p) ≡ lay_allocator (with_words (set a.words k p) a)
  unfolding lay_allocator words_of
  put-free k p h =
      let e : 128 + 8 * k ≡ 8 * (16 + k) = omega arith in
      let g : set (words_of a) (16 + k) p ≡ front a ++ set a.words k p = rw (← front_length) (set-append-add (front a) a.words k p) in
      rw e (put-laid (16 + k) p (omega arith) ∙ ap lay_words g)

module _ (a : Allocator) (f : WordsFit a) where
  pub word-laid : (k : ℕ) → k < 16 + length a.words → word (lay_allocator a) (8 * k) ≡ get_or (words_of a) k 0
  unfolding lay_allocator
  word-laid k h = simp append-nil at (num-words (words_of a) [] k f.small (omega (arith, length-words a f.twelve)))

  -- the fields
  pub word-mark : word (lay_allocator a) 0 ≡ a.mark
  unfolding words_of
  word-mark = word-laid 0 (omega arith)

  pub word_size : word (lay_allocator a) 8 ≡ a.chunk_size
  unfolding words_of
  word_size = word-laid 1 (omega arith)

  pub word_count : word (lay_allocator a) 16 ≡ a.free_count
  unfolding words_of
  word_count = word-laid 2 (omega arith)

  pub word_next : word (lay_allocator a) 24 ≡ a.next_ptr
  unfolding words_of
  word_next = word-laid 3 (omega arith)

  pub word-free : (k : ℕ) → k < length a.words → word (lay_allocator a) (128 + 8 * k) ≡ get_or a.words k 0
  unfolding words_of
  word-free k h =
      let e : 128 + 8 * k ≡ 8 * (16 + k) = omega arith in
      let g : get_or (words_of a) (length (front a) + k) 0 ≡ get_or a.words k 0 = get_or-append-add (front a) a.words k 0 in
      rw e (word-laid (16 + k) (omega arith) ∙ rw (front_length a f.twelve) at g)

  small-words : Each (λ w. w < 2 ^ 64) (a.unread ++ a.words)
  unfolding words_of Each
  small-words = f.small.1.1.1.1

  areas : lay_allocator a ≡ lay_words (heads a) ++ (lay_words a.unread ++ lay_words a.words)
  unfolding lay_allocator words_of
  areas = lay_all-append (spell 8) (heads a) (a.unread ++ a.words) ∙ ap (λ (r : List ℕ). lay_words (heads a) ++ r) (lay_all-append (spell 8) a.unread a.words)

  unread-laid : table read_word 8 (lay_allocator a) 32 12 ≡ a.unread
  unread-laid =
      let h : length (lay_words (heads a)) ≡ 32 = length-lay_all (spell 8) 8 (length-spell 8) (heads a) in
      let e : Each (λ w. read_word (spell 8 w) ≡ w) a.unread = words_back a.unread (each_left (λ w. w < 2 ^ 64) a.unread a.words small-words) in
      rw areas (rw f.twelve at (table-lay read_word (spell 8) 8 (length-spell 8) (lay_words (heads a)) a.unread (lay_words a.words) 32 h e))

  words-laid : table read_word 8 (lay_allocator a) 128 (length (lay_allocator a) / 8 - 16) ≡ a.words
  words-laid =
      let n : length (lay_allocator a) / 8 - 16 ≡ length a.words = omega (arith, length-laid a f.twelve) in
      let h : length (lay_words (front a)) ≡ 128 = length-lay_all (spell 8) 8 (length-spell 8) (front a) ∙ ap (λ (k : ℕ). 8 * k) (front_length a f.twelve) in
      let g : lay_allocator a ≡ lay_words (front a) ++ (lay_words a.words ++ []) =
      rw append-nil (unfold lay_allocator words_of in lay_all-append (spell 8) (front a) a.words) in
      let e : Each (λ w. read_word (spell 8 w) ≡ w) a.words = words_back a.words (each_right (λ w. w < 2 ^ 64) a.unread a.words small-words) in
      rw (n, g) (table-lay read_word (spell 8) 8 (length-spell 8) (lay_words (front a)) a.words [] 128 h e)

  -- what is laid out is read back
  pub read-laid : read_allocator (lay_allocator a) ≡ a
  unfolding read_allocator
  read-laid = λ i. record { mark = word-mark i; chunk_size = word_size i; free_count = word_count i; next_ptr = word_next i; unread = unread-laid i; words = words-laid i }

-- ---- what is read fits

pub read_fits : (l : List ℕ) → Bytes l → WordsFormed l → WordsFit (read_allocator l)
read_fits l b f = record { twelve = unfold read_allocator in length-table read_word 8 l 32 12; small = rw (words-of l f) (each_rows (λ w. w < 2 ^ 64) read_word 8 l 0 (length l / 8) (λ i h. below (0 + 8 * i) (omega arith))) }
  where
    below : (at : ℕ) → at + 8 ≤ length l → read_word (part l at 8) < 2 ^ 64
    below at h = rw (first_word l at) (num-below 8 l at b h)
