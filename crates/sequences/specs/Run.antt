-- Believed: calls run on one memory, by the equations that the public functions are proved to meet.
-- Assumes nothing.
use Rattle.std.specs.Prelude.{ℕ, Bool, List, [], ◌∷◌, eqb, Result}
use Rattle.words.specs.Rules.{pick}
use Rattle.types.specs.Answers.{number, search_number}
use Rattle.types.specs.Outcomes.{Outcome}
use Rattle.types.specs.Answers.{Answer}
use Rattle.types.specs.declared.Error.{Error}
use Rattle.types.specs.declared.Search.{Search}
use Rattle.volume.specs.Fresh as Fresh
use Rattle.names.specs.Listing.{Listed, listed_number}
use Rattle.lentilraft.specs.Door as Door
use Rattle.lentilraft.specs.Report as Report
use Rattle.sequences.specs.Calls.{Call, new_volume, check, report, set_chunk_size, read, write, resize, set_limit, find_node, next_entry, search, create, link, unlink, remove}

-- what the caller is given: an answer; an answer and the bytes left in the buffer that was lent; an entry; what a search tells
pub data Reply : Type 0 where
  told : Answer → Reply
  filled : Outcome → Reply
  entry : Listed → Reply
  searched : Result Search Error → Reply

-- 0, or the number of a refusal
abbrev pub reply_number : Reply → ℕ
reply_number (told a) = number a
reply_number (filled o) = number o.answer
reply_number (entry x) = listed_number x
reply_number (searched s) = search_number s

pub record Ran : Type 0 where
  pub reply : Reply
  pub memory : List ℕ

-- a call that may change the memory; one that does not
abbrev pub changes : Outcome → Ran
changes o = record { reply = told o.answer; memory = o.bytes }

abbrev pub leaves : Reply → List ℕ → Ran
leaves r l = record { reply = r; memory = l }

abbrev pub run : Call → List ℕ → Ran
run (new_volume n e c s) l = changes (Fresh.new_volume n e c s l)
run check l = leaves (told (Door.check l)) l
run (report out) l = leaves (filled (Report.report l out)) l
run (set_chunk_size s) l = changes (Door.set_chunk_size s l)
run (read n offset buffer) l = leaves (filled (Door.read n offset l buffer)) l
run (write n offset bs) l = changes (Door.write n offset bs.list l)
run (resize n z) l = changes (Door.resize n z l)
run (set_limit n m) l = changes (Door.set_limit n m l)
run (find_node start path) l = leaves (told (Door.find_node start path l)) l
run (next_entry d from) l = leaves (entry (Door.next_entry d from l)) l
run (search d name from most) l = leaves (searched (Door.search d name from most l)) l
run (create p name byte) l = changes (Door.create p name.list byte l)
run (link p name t) l = changes (Door.link p name.list t l)
run (unlink start path want opens) l = changes (Door.unlink start path want opens l)
run (remove n) l = changes (Door.remove n l)

abbrev pub accepted : Call → List ℕ → Bool
accepted c l = eqb (reply_number (run c l).reply) 0

-- the memory after calls one behind another, whatever each answers
abbrev pub run_all : List Call → List ℕ → List ℕ
run_all [] l = l
run_all (c ∷ cs) l = run_all cs (run c l).memory

-- what each answers
abbrev pub replies : List Call → List ℕ → List Reply
replies [] l = []
replies (c ∷ cs) l = (run c l).reply ∷ replies cs (run c l).memory

-- those that were accepted
abbrev pub accepted_of : List Call → List ℕ → List Call
accepted_of [] l = []
accepted_of (c ∷ cs) l = pick (accepted c l) (c ∷ accepted_of cs (run c l).memory) (accepted_of cs (run c l).memory)
