-- Believed: the scope's table "Numbers given back": the number of each refusal, the number and the value of an answer, and the numbers of each
-- case of a search.
-- Assumes nothing.
use Rattle.std.specs.Prelude.{◌≡◌, ℕ, ◌≤◌, Result, Ok, Err}
use Rattle.types.specs.declared.Error.{Error}
use Rattle.types.specs.declared.Error.TheVariants.{UnsoundMemory, NoSuchEntry, IsDirectory, NotDirectory, FileTooLarge, NoChunkRoom, NoRowRoom, PathNotPermitted, BadName, NameExists, DirectoryNotEmpty, Busy, InvalidArgument, NoIndexLeft, OutputTooShort}
use Rattle.types.specs.declared.Search.{Search}
use Rattle.types.specs.declared.Search.TheVariants.{Found, Absent, Stopped}

-- what a call answers: a number, or the refusal
abbrev pub Answer : Type 0
Answer = Result ℕ Error

abbrev pub error_number : Error → ℕ
error_number UnsoundMemory = 1
error_number NoSuchEntry = 2
error_number IsDirectory = 3
error_number NotDirectory = 4
error_number FileTooLarge = 5
error_number NoChunkRoom = 6
error_number NoRowRoom = 7
error_number PathNotPermitted = 8
error_number BadName = 9
error_number NameExists = 10
error_number DirectoryNotEmpty = 11
error_number Busy = 12
error_number InvalidArgument = 13
error_number NoIndexLeft = 14
error_number OutputTooShort = 15

-- a refusal given as a number
abbrev pub NumberedAs : Error → ℕ → Type 0
NumberedAs e n = (n ≡ error_number e) × (n ≤ 15)

abbrev pub number : Answer → ℕ
number (Ok v) = 0
number (Err e) = error_number e

abbrev pub value : Answer → ℕ
value (Ok v) = v
value (Err e) = 0

-- ---- a search: its number; 0 for absent, 1 for found, 2 for stopped; the index, the node, the number looked at. All are 0 for a refusal

abbrev pub search_number : Result Search Error → ℕ
search_number (Ok s) = 0
search_number (Err e) = error_number e

abbrev pub search_case : Result Search Error → ℕ
search_case (Ok (Found index node looked)) = 1
search_case (Ok (Absent looked)) = 0
search_case (Ok (Stopped index looked)) = 2
search_case (Err e) = 0

abbrev pub search_index : Result Search Error → ℕ
search_index (Ok (Found index node looked)) = index
search_index (Ok (Absent looked)) = 0
search_index (Ok (Stopped index looked)) = index
search_index (Err e) = 0

abbrev pub search_node : Result Search Error → ℕ
search_node (Ok (Found index node looked)) = node
search_node (Ok (Absent looked)) = 0
search_node (Ok (Stopped index looked)) = 0
search_node (Err e) = 0

abbrev pub search_looked : Result Search Error → ℕ
search_looked (Ok (Found index node looked)) = looked
search_looked (Ok (Absent looked)) = looked
search_looked (Ok (Stopped index looked)) = looked
search_looked (Err e) = 0
