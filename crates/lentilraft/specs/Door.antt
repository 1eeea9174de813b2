-- Believed: every public call on a volume: 1 unless the memory is sound; then what the call makes of the volume, laid out again. A call that
-- refuses leaves the volume as it was.
-- Assumes nothing.
use Rattle.std.specs.Prelude.{ℕ, List, Option, Result, Some, None, Ok, Err}
use Rattle.words.specs.Rules.{pick}
use Rattle.types.specs.declared.Expected.{Expected}
use Rattle.types.specs.Kinds.{wanted_of}
use Rattle.types.specs.Nodes.{Limit}
use Rattle.types.specs.Answers.{Answer}
use Rattle.types.specs.declared.Error.{Error}
use Rattle.types.specs.declared.Error.TheVariants.{UnsoundMemory, InvalidArgument}
use Rattle.types.specs.declared.Search.{Search}
use Rattle.types.specs.Outcomes.{Outcome, outcome, refused}
use Rattle.allocator.specs.Allocator as Allocator
use Rattle.volume.specs.Volume.{Volume, shown, laid, with_allocator, on_store}
use Rattle.volume.specs.Steps.{Step, stays, name_step}
use Rattle.files.specs.Limits as Limits
use Rattle.files.specs.Read as Read
use Rattle.files.specs.Write as Write
use Rattle.files.specs.Resize as Resize
use Rattle.names.specs.Walks as Walks
use Rattle.names.specs.Listing as Listing
use Rattle.names.specs.Searching as Searching
use Rattle.names.specs.Entering as Entering
use Rattle.names.specs.Unlinking as Unlinking
use Rattle.names.specs.Removing as Removing
use Rattle.lentilraft.specs.SoundTest.{is_sound}

-- 1 first: a memory that is not sound is refused, whatever a call answers with
unfoldable pub if_sound : {A : Type 0} → List ℕ → (Error → A) → (Volume → A) → A
if_sound l refuse call = pick (is_sound l) (call (shown l)) (refuse UnsoundMemory)

-- a call that may change the volume
unfoldable pub door : List ℕ → (Volume → Step) → Outcome
door l call = if_sound l (λ e. refused e l) (λ v. outcome (call v).answer (laid (call v).after))

-- a call that reads a volume into a buffer: the outcome is the answer and the buffer's bytes
unfoldable pub door_into : List ℕ → List ℕ → (Volume → List ℕ → Outcome) → Outcome
door_into l buffer call = if_sound l (λ e. refused e buffer) (λ v. call v buffer)

-- ---- the calls

-- 1, or nothing to tell
unfoldable pub check : List ℕ → Answer
check l = if_sound l (λ e. Err e) (λ v. Ok 0)

unfoldable pub chunk_size_set : ℕ → Volume → Step
chunk_size_set s v = record { answer = (Allocator.set_chunk_size s v.store.allocator).answer; after = on_store (with_allocator (Allocator.set_chunk_size s v.store.allocator).after) v }

unfoldable pub set_chunk_size : ℕ → List ℕ → Outcome
set_chunk_size s l = door l (chunk_size_set s)

unfoldable pub set_limit : ℕ → Limit → List ℕ → Outcome
set_limit n limit l = door l (Limits.set_limit n limit)

unfoldable pub resize : ℕ → ℕ → List ℕ → Outcome
resize n size l = door l (Resize.resize n size)

unfoldable pub write : ℕ → ℕ → List ℕ → List ℕ → Outcome
write n offset bs l = door l (Write.write n offset bs)

unfoldable pub read : ℕ → ℕ → List ℕ → List ℕ → Outcome
read n offset l buffer = door_into l buffer (Read.read n offset)

-- ---- the calls on names

unfoldable pub find_node : ℕ → List ℕ → List ℕ → Answer
find_node start path l = if_sound l (λ e. Err e) (λ v. Walks.find_node start path v.names)

unfoldable pub next_entry : ℕ → ℕ → List ℕ → Listing.Listed
next_entry d from l = if_sound l (λ e. Listing.unlisted e) (λ v. Listing.next_entry d from v.names)

unfoldable pub search : ℕ → List ℕ → ℕ → ℕ → List ℕ → Result Search Error
search d name from most l = if_sound l (λ e. Err e) (λ v. Searching.search d name from most v.names)

unfoldable pub create : ℕ → List ℕ → ℕ → List ℕ → Outcome
create p name byte l = door l (name_step (Entering.create p name byte))

unfoldable pub link : ℕ → List ℕ → ℕ → List ℕ → Outcome
link p name target l = door l (name_step (Entering.link p name target))

unfoldable pub unlink : ℕ → List ℕ → Expected → ℕ → List ℕ → Outcome
unlink start path want opens l = door l (name_step (Unlinking.unlink start path want opens))

-- a byte that says what to expect, or nothing
abbrev pub on_wanted : {A : Type 0} → A → (Expected → A) → Option Expected → A
on_wanted unknown call (Some want) = call want
on_wanted unknown call None = unknown

abbrev pub unlink_wanted : ℕ → List ℕ → ℕ → ℕ → Volume → Step
unlink_wanted start path byte opens v = on_wanted (stays InvalidArgument v) (λ want. name_step (Unlinking.unlink start path want opens) v) (wanted_of byte)

-- the same with the kind that is expected as a byte: 13 for any other, just after 1
unfoldable pub unlink_byte : ℕ → List ℕ → ℕ → ℕ → List ℕ → Outcome
unlink_byte start path byte opens l = door l (unlink_wanted start path byte opens)

unfoldable pub remove : ℕ → List ℕ → Outcome
remove n l = door l (Removing.remove n)
