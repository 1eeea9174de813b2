-- Believed: allocator open, on its words only, in the scope's order.
-- Assumes nothing.
use Rattle.std.specs.Prelude.{ℕ, ◌+◌, ◌*◌, ◌%◌, Bool, List, length, eqb, leb, ltb}
use Rattle.words.specs.Bytes.{word, num, over, spell}
use Rattle.words.specs.Rules.{pick, both, either, upto, apart}
use Rattle.types.specs.Outcomes.{Outcome, refused, done}
use Rattle.types.specs.declared.Error.TheVariants.{UnsoundMemory, InvalidArgument}
use Rattle.allocator.specs.Sizes.{accepted_size, default_size}
use Rattle.allocator.specs.Allocator.{marker, free_room}

-- the four bytes `FSA1` and `ALO1`, as the numbers that they spell
abbrev pub new_mark : ℕ
new_mark = marker

abbrev pub old_mark : ℕ
old_mark = 827280449

unfoldable pub mark_known : List ℕ → Bool
mark_known l = either (eqb (num 4 l 0) new_mark) (eqb (num 4 l 0) old_mark)

-- size word 0 stands for the default, while word 3 is 0
unfoldable pub size_meant : List ℕ → ℕ
size_meant l = pick (eqb (word l 8) 0) default_size (word l 8)

unfoldable pub size_allowed : List ℕ → Bool
size_allowed l = pick (eqb (word l 8) 0) (eqb (word l 24) 0) (accepted_size (word l 8))

unfoldable pub free_word : List ℕ → ℕ → ℕ
free_word l i = word l (128 + 8 * i)

-- aligned and below word 3
unfoldable pub lined : ℕ → ℕ → ℕ → Bool
lined s next p = both (eqb (p % s) 0) (ltb p next)

unfoldable pub free_words_lined : List ℕ → ℕ → Bool
free_words_lined l s = upto (word l 16) (λ i. lined s (word l 24) (free_word l i))

unfoldable pub free_words_apart : List ℕ → Bool
free_words_apart l = apart (word l 16) (λ j i. eqb (free_word l j) (free_word l i))

unfoldable pub free_words_good : List ℕ → ℕ → Bool
free_words_good l s = both (eqb (word l 24 % s) 0) (both (leb (word l 16) (free_room l)) (both (free_words_lined l s) (free_words_apart l)))

unfoldable pub openable : List ℕ → Bool
openable l = both (mark_known l) (both (size_allowed l) (free_words_good l (size_meant l)))

-- `ALO1` becomes `FSA1` and four zeros
unfoldable pub mark_renewed : List ℕ → List ℕ
mark_renewed l = pick (eqb (num 4 l 0) old_mark) (over l 0 (spell 8 marker)) l

-- size word 0 becomes the default
unfoldable pub size_renewed : List ℕ → List ℕ
size_renewed l = pick (eqb (word l 8) 0) (over l 8 (spell 8 default_size)) l

unfoldable pub opened : List ℕ → Outcome
opened l = pick (ltb (length l) 128) (refused InvalidArgument l) (pick (openable l) (done 0 (size_renewed (mark_renewed l))) (refused UnsoundMemory l))
