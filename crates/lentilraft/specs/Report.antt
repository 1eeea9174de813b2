-- Believed: the report: lines `key=value` in a fixed order, each ended by a newline, into an output of at least 512 bytes.
-- Assumes nothing.
use Rattle.std.specs.Prelude.{ℕ, zero, suc, ◌+◌, ◌/◌, ◌%◌, List, [], ◌∷◌, ◌++◌, ltb, length}
use Rattle.std.specs.Int.Count.{count_trailing_zeros}
use Rattle.words.specs.Bytes.{over}
use Rattle.words.specs.Rules.{pick}
use Rattle.words.specs.Tables.{joined}
use Rattle.types.specs.Outcomes.{Outcome, refused, done}
use Rattle.types.specs.declared.Error.TheVariants.{OutputTooShort}
use Rattle.volume.specs.Volume.{Volume, form}
use Rattle.lentilraft.specs.Door.{door_into}

-- ---- numbers in decimal

-- the last k digits, the most significant first; `0` is 48
unfoldable pub digits : ℕ → ℕ → List ℕ
digits zero n = []
digits (suc k) n = digits k (n / 10) ++ ((48 + n % 10) ∷ [])

-- how many digits, at most so many
unfoldable pub width : ℕ → ℕ → ℕ
width zero n = 0
width (suc k) n = pick (ltb n 10) 1 (1 + width k (n / 10))

-- a u64 has at most 20
unfoldable pub decimal : ℕ → List ℕ
decimal n = digits (width 20 n) n

-- ---- lines

-- the key with its `=`, the number, a newline
unfoldable pub line : List ℕ → ℕ → List ℕ
line key n = key ++ (decimal n ++ (10 ∷ []))

-- `format=`
abbrev pub format_key : List ℕ
format_key = 102 ∷ 111 ∷ 114 ∷ 109 ∷ 97 ∷ 116 ∷ 61 ∷ []

-- `chunk_size=`
abbrev pub chunk_size_key : List ℕ
chunk_size_key = 99 ∷ 104 ∷ 117 ∷ 110 ∷ 107 ∷ 95 ∷ 115 ∷ 105 ∷ 122 ∷ 101 ∷ 61 ∷ []

-- `chunk_shift=`
abbrev pub chunk_shift_key : List ℕ
chunk_shift_key = 99 ∷ 104 ∷ 117 ∷ 110 ∷ 107 ∷ 95 ∷ 115 ∷ 104 ∷ 105 ∷ 102 ∷ 116 ∷ 61 ∷ []

-- `nodes=`
abbrev pub nodes_key : List ℕ
nodes_key = 110 ∷ 111 ∷ 100 ∷ 101 ∷ 115 ∷ 61 ∷ []

-- `entries=`
abbrev pub entries_key : List ℕ
entries_key = 101 ∷ 110 ∷ 116 ∷ 114 ∷ 105 ∷ 101 ∷ 115 ∷ 61 ∷ []

-- `chunks=`
abbrev pub chunks_key : List ℕ
chunks_key = 99 ∷ 104 ∷ 117 ∷ 110 ∷ 107 ∷ 115 ∷ 61 ∷ []

-- `free=`
abbrev pub free_key : List ℕ
free_key = 102 ∷ 114 ∷ 101 ∷ 101 ∷ 61 ∷ []

-- `next_ptr=`
abbrev pub next_ptr_key : List ℕ
next_ptr_key = 110 ∷ 101 ∷ 120 ∷ 116 ∷ 95 ∷ 112 ∷ 116 ∷ 114 ∷ 61 ∷ []

-- `next_node=`
abbrev pub next_node_key : List ℕ
next_node_key = 110 ∷ 101 ∷ 120 ∷ 116 ∷ 95 ∷ 110 ∷ 111 ∷ 100 ∷ 101 ∷ 61 ∷ []

-- ---- the text

-- chunk_shift is the number of trailing zero bits of the chunk size
unfoldable pub size_lines : ℕ → List ℕ
size_lines s = joined (line format_key form ∷ line chunk_size_key s ∷ line chunk_shift_key (count_trailing_zeros 64 s) ∷ [])

unfoldable pub row_lines : ℕ → ℕ → ℕ → List ℕ
row_lines nodes entries chunks = joined (line nodes_key nodes ∷ line entries_key entries ∷ line chunks_key chunks ∷ [])

unfoldable pub next_lines : ℕ → ℕ → ℕ → List ℕ
next_lines free pointer node = joined (line free_key free ∷ line next_ptr_key pointer ∷ line next_node_key node ∷ [])

unfoldable pub text : Volume → List ℕ
text v =
    joined (size_lines v.store.allocator.chunk_size
    ∷ row_lines (length v.names.nodes) (length v.names.entries) (length v.store.chunks)
    ∷ next_lines v.store.allocator.free_count v.store.allocator.next_ptr v.names.next_node ∷ [])

-- ---- the text of a new volume

-- format=1
-- chunk_size=16384
-- chunk_shift=14
-- nodes=1
-- entries=0
-- chunks=0
-- free=0
-- next_ptr=0
-- next_node=1
unfoldable pub new_text : List ℕ
new_text =
    102 ∷ 111 ∷ 114 ∷ 109 ∷ 97 ∷ 116 ∷ 61 ∷ 49 ∷ 10
    ∷ 99 ∷ 104 ∷ 117 ∷ 110 ∷ 107 ∷ 95 ∷ 115 ∷ 105 ∷ 122 ∷ 101 ∷ 61 ∷ 49 ∷ 54 ∷ 51 ∷ 56 ∷ 52 ∷ 10
    ∷ 99 ∷ 104 ∷ 117 ∷ 110 ∷ 107 ∷ 95 ∷ 115 ∷ 104 ∷ 105 ∷ 102 ∷ 116 ∷ 61 ∷ 49 ∷ 52 ∷ 10
    ∷ 110 ∷ 111 ∷ 100 ∷ 101 ∷ 115 ∷ 61 ∷ 49 ∷ 10
    ∷ 101 ∷ 110 ∷ 116 ∷ 114 ∷ 105 ∷ 101 ∷ 115 ∷ 61 ∷ 48 ∷ 10
    ∷ 99 ∷ 104 ∷ 117 ∷ 110 ∷ 107 ∷ 115 ∷ 61 ∷ 48 ∷ 10
    ∷ 102 ∷ 114 ∷ 101 ∷ 101 ∷ 61 ∷ 48 ∷ 10
    ∷ 110 ∷ 101 ∷ 120 ∷ 116 ∷ 95 ∷ 112 ∷ 116 ∷ 114 ∷ 61 ∷ 48 ∷ 10
    ∷ 110 ∷ 101 ∷ 120 ∷ 116 ∷ 95 ∷ 110 ∷ 111 ∷ 100 ∷ 101 ∷ 61 ∷ 49 ∷ 10 ∷ []

-- ---- the call

abbrev pub least_output : ℕ
least_output = 512

-- the call on a volume and an output: the output's bytes past the count stay
unfoldable pub reported : Volume → List ℕ → Outcome
reported v out = pick (ltb (length out) least_output) (refused OutputTooShort out) (done (length (text v)) (over out 0 (text v)))

unfoldable pub report : List ℕ → List ℕ → Outcome
report l out = door_into l out reported
