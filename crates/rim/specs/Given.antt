-- Believed: what a call gives a program in C, as one relation each: a contract is the relation and nothing beside it, and a law says that it leaves
-- one outcome (proofs/OneGiven.antt).
-- Assumes nothing.
use Rattle.std.specs.Prelude.{◌≡◌, List, ℕ, Result, Ok, Err}
use Rattle.types.specs.Answers.{error_number, number, value, search_number, search_case, search_index, search_node, search_looked}
use Rattle.types.specs.Answers.{Answer}
use Rattle.types.specs.declared.Search.{Search}
use Rattle.types.specs.Outcomes.{Outcome}
use Rattle.lentilraft.specs.declared.naming.NameAt.{NameAt}
use Rattle.types.specs.declared.Error.{Error}

-- the number of the answer, and the bytes left in the memory that was lent
pub record Gives (o : Outcome) (r : ℕ) (memory : List ℕ) : Type 0 where
  pub number : r ≡ number o.answer
  pub bytes : memory ≡ o.bytes

-- the same of a buffer or a memory, and a count through a lent place: the value of the answer, 0 for a refusal
pub record GivesCount (o : Outcome) (r : ℕ) (lent : List ℕ) (place : ℕ) : Type 0 where
  pub number : r ≡ number o.answer
  pub bytes : lent ≡ o.bytes
  pub count : place ≡ value o.answer

-- the number of an answer and its value, of a call that changes nothing
pub record GivesValue (a : Answer) (r : ℕ) (place : ℕ) : Type 0 where
  pub number : r ≡ number a
  pub told : place ≡ value a

-- ---- next entry: where the name stands in the volume, how long it is, its index and its node, each 0 for a refusal

abbrev pub next_number : Result NameAt Error → ℕ
next_number (Ok x) = 0
next_number (Err e) = error_number e

abbrev pub next_told : (NameAt → ℕ) → Result NameAt Error → ℕ
next_told field (Ok x) = field x
next_told field (Err e) = 0

pub record GivesName (n : Result NameAt Error) (r at long index node : ℕ) : Type 0 where
  pub number : r ≡ next_number n
  pub start : at ≡ next_told (λ x. x.at) n
  pub length : long ≡ next_told (λ x. x.long) n
  pub indexed : index ≡ next_told (λ x. x.index) n
  pub noded : node ≡ next_told (λ x. x.node) n

-- ---- a search: what came of it, an index, a node, and how many entries were looked at

pub record GivesSearch (s : Result Search Error) (r found index node looked : ℕ) : Type 0 where
  pub number : r ≡ search_number s
  pub case : found ≡ search_case s
  pub indexed : index ≡ search_index s
  pub noded : node ≡ search_node s
  pub counted : looked ≡ search_looked s
