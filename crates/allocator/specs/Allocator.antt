-- Believed: the allocator's words as a record, read off its bytes and laid out again, and what each call makes of it.
-- Assumes nothing.
use Rattle.std.specs.Prelude.{ℕ, ◌+◌, ◌-◌, ◌/◌, List, [], ◌∷◌, ◌++◌, length, take, get_or, set, eqb, Ok, Err}
use Rattle.words.specs.Bytes.{word}
use Rattle.words.specs.Rules.{pick}
use Rattle.words.specs.Tables.{table, lay_words}
use Rattle.types.specs.Answers.{Answer}
use Rattle.types.specs.declared.Error.TheVariants.{InvalidArgument}
use Rattle.allocator.specs.Sizes.{accepted_size}

-- words 0 to 3, the twelve that nothing reads, and those for free pointers
pub record Allocator : Type 0 where
  pub mark : ℕ
  pub chunk_size : ℕ
  pub free_count : ℕ
  pub next_ptr : ℕ
  pub unread : List ℕ
  pub words : List ℕ

-- the free pointers, the one last freed last; words past them keep their old numbers
unfoldable pub free : Allocator → List ℕ
free a = take a.free_count a.words

-- `FSA1` and four zero bytes
abbrev pub marker : ℕ
marker = 826364742

unfoldable pub words_of : Allocator → List ℕ
words_of a = a.mark ∷ a.chunk_size ∷ a.free_count ∷ a.next_ptr ∷ (a.unread ++ a.words)

unfoldable pub lay_allocator : Allocator → List ℕ
lay_allocator a = lay_words (words_of a)

unfoldable pub read_word : List ℕ → ℕ
read_word b = word b 0

-- room for free pointers: the whole words behind the first sixteen
abbrev pub free_room : List ℕ → ℕ
free_room l = length l / 8 - 16

unfoldable pub read_allocator : List ℕ → Allocator
read_allocator l = record {
  mark = word l 0;
  chunk_size = word l 8;
  free_count = word l 16;
  next_ptr = word l 24;
  unread = table read_word 8 l 32 12;
  words = table read_word 8 l 128 (free_room l);
}

-- ---- one field changed

abbrev pub with_size : ℕ → Allocator → Allocator
with_size s a = record { mark = a.mark; chunk_size = s; free_count = a.free_count; next_ptr = a.next_ptr; unread = a.unread; words = a.words }

abbrev pub with_count : ℕ → Allocator → Allocator
with_count n a = record { mark = a.mark; chunk_size = a.chunk_size; free_count = n; next_ptr = a.next_ptr; unread = a.unread; words = a.words }

abbrev pub with_next_ptr : ℕ → Allocator → Allocator
with_next_ptr p a = record { mark = a.mark; chunk_size = a.chunk_size; free_count = a.free_count; next_ptr = p; unread = a.unread; words = a.words }

abbrev pub with_words : List ℕ → Allocator → Allocator
with_words ws a = record { mark = a.mark; chunk_size = a.chunk_size; free_count = a.free_count; next_ptr = a.next_ptr; unread = a.unread; words = ws }

-- ---- the calls

pub record Allocation : Type 0 where
  pub pointer : ℕ
  pub after : Allocator

-- the free pointer last freed
abbrev pub reused : Allocator → Allocation
reused a = record { pointer = get_or a.words (a.free_count - 1) 0; after = with_count (a.free_count - 1) a }

-- word 3, which grows by the chunk size
abbrev pub grown : Allocator → Allocation
grown a = record { pointer = a.next_ptr; after = with_next_ptr (a.next_ptr + a.chunk_size) a }

unfoldable pub allocate : Allocator → Allocation
allocate a = pick (eqb a.free_count 0) (grown a) (reused a)

unfoldable pub release : ℕ → Allocator → Allocator
release p a = with_count (a.free_count + 1) (with_words (set a.words a.free_count p) a)

pub record AllocatorStep : Type 0 where
  pub answer : Answer
  pub after : Allocator

-- refused if the size is not accepted, or is another one while word 3 is not 0
unfoldable pub set_chunk_size : ℕ → Allocator → AllocatorStep
set_chunk_size s a =
    pick (accepted_size s)
    (pick (eqb a.chunk_size s) (record { answer = Ok 0; after = a })
    (pick (eqb a.next_ptr 0) (record { answer = Ok 0; after = with_size s a })
    (record { answer = Err InvalidArgument; after = a })))
    (record { answer = Err InvalidArgument; after = a })

-- pointers freed one after another
unfoldable pub released : List ℕ → Allocator → Allocator
released [] a = a
released (p ∷ ps) a = released ps (release p a)
