-- No call answers 1 on a sound memory, so that none does in a sequence that an accepted new volume begins.
-- Assumes nothing.
use Rattle.std.specs.Prelude.{Result, Some, None}
use Rattle.types.specs.Kinds.{Kind}
use mathlib.Core.Path.{◌≡◌, refl, sym, ◌∙◌}
use mathlib.Core.Bool.{Bool, true, false, true≢false}
use mathlib.Core.List.{List, [], ◌∷◌}
use mathlib.Core.Option.{Option, none, some}
use Prim.Native.Nat.{ℕ}
use lib.Dec.{eqb}
use borrow.Author.Tests.{eq-eqb}
use Rattle.words.specs.Bytes.{Bytes}
use Rattle.words.specs.Rules.{pick}
use Rattle.words.specs.Tables.{Each}
use Rattle.types.specs.Answers.{number, error_number, search_number}
use Rattle.types.specs.Outcomes.{Outcome}
use Rattle.types.specs.Answers.{Answer}
use Rattle.types.specs.declared.Error.{Error}
use Rattle.types.specs.declared.Error.TheVariants.{NoSuchEntry, IsDirectory, NotDirectory, BadName, PathNotPermitted, InvalidArgument}
use Rattle.types.specs.declared.Expected.{Expected}
use Rattle.types.specs.declared.FileType.{FileType}
use Rattle.types.specs.Nodes.{Limit}
use Rattle.types.specs.declared.NodeRecord.{NodeRecord}
use Rattle.types.specs.declared.Search.{Search}
use Rattle.allocator.specs.Allocator.{Allocator, AllocatorStep}
use Rattle.allocator.specs.Allocator as allocating
use Rattle.paths.specs.Path.{Cutting, parts, not_permitted, too_long}
use Rattle.volume.specs.Rows.{Entry}
use Rattle.volume.specs.Volume.{Names, Volume, shown}
use Rattle.volume.specs.Sound.{node, Sound}
use Rattle.volume.specs.Steps.{Step, NamesStep}
use Rattle.volume.specs.Fresh as Fresh
use Rattle.volume.specs.Files.{on_row, on_file}
use Rattle.soundness.proofs.Checked.{true-sound}
use Rattle.files.specs.Read as Read
use Rattle.files.specs.Write as Write
use Rattle.files.specs.Resize as Resize
use Rattle.files.specs.Limits as Limits
use Rattle.names.specs.Entries.{on_entry}
use Rattle.names.specs.Walks.{on_cutting, Walk, reached, stopped, walk_parts, on_start, walk_from, on_passing, as_directory, walk_path, node_reached}
use Rattle.names.specs.Walks as Walks
use Rattle.names.specs.Listing.{Listed, listed_number, on_directory}
use Rattle.names.specs.Listing as Listing
use Rattle.names.specs.Searching as Searching
use Rattle.names.specs.Entering.{on_parent_row, on_parent, where_new, on_kind}
use Rattle.names.specs.Entering as Entering
use Rattle.names.specs.Unlinking as Unlinking
use Rattle.names.specs.Removing as Removing
use Rattle.lentilraft.specs.Door as Door
use Rattle.lentilraft.specs.Report as Report
use Rattle.sequences.specs.Calls.{Call, new_volume, check, report, set_chunk_size, read, write, resize, set_limit, find_node, next_entry, search, create, link, unlink, remove}
use Rattle.sequences.specs.Run.{reply_number, run, accepted, replies}
use Rattle.sequences.specs.Demand.{NoneUnsound}
use Rattle.sequences.proofs.Carried.{carried, new-bytes, new-sound}

-- ---- fine: any answer but 1. Tested, so that an end of a call, which has a number, is fine by `refl`

abbrev Other : ℕ → Type 0
Other k = eqb k 1 ≡ false

abbrev Fine : Answer → Type 0
Fine a = Other (number a)

abbrev FineStep : Step → Type 0
FineStep s = Fine s.answer

abbrev FineNames : NamesStep → Type 0
FineNames s = Fine s.answer

abbrev FineOutcome : Outcome → Type 0
FineOutcome o = Fine o.answer

abbrev FineAllocator : AllocatorStep → Type 0
FineAllocator s = Fine s.answer

abbrev FineListed : Listed → Type 0
FineListed x = Other (listed_number x)

abbrev FineSearch : Result Search Error → Type 0
FineSearch s = Other (search_number s)

abbrev FineWalk : Walk → Type 0
FineWalk w = Fine (node_reached w)

-- ---- a choice: what holds of all that it may come to holds of it

module _ {A : Type 0} (P : A → Type 0) where
  of-pick : (b : Bool) {x y : A} → P x → P y → P (pick b x y)
  unfolding pick
  of-pick true p q = p
  of-pick false p q = q

  of_entry : (o : Option Entry) {missing : A} {call : Entry → A} → P missing → ((e : Entry) → P (call e)) → P (on_entry missing call o)
  unfolding on_entry
  of_entry none m c = m
  of_entry (some e) m c = c e

  of-start : (o : Option NodeRecord) {missing there : A} → P missing → P there → P (on_start missing there o)
  unfolding on_start
  of-start none m t = m
  of-start (some r) m t = t

  of-kind : (k : Kind) {unknown : A} {call : FileType → A} → P unknown → ((t : FileType) → P (call t)) → P (on_kind unknown call k)
  unfolding on_kind
  of-kind (Some t) u c = c t
  of-kind None u c = u

  -- the door lets a sound memory in
  of-sound : (l : List ℕ) → Sound l → (refuse : Error → A) (call : Volume → A) → P (call (shown l)) → P (Door.if_sound l refuse call)
  unfolding Door.if_sound pick
  of-sound l h refuse call p = rw (true-sound l h) p

  -- none of these refuses with 1
  module _ {refuse : Error → A} (refusal : (e : Error) → Other (error_number e) → P (refuse e)) where
    of_row : (o : Option NodeRecord) {call : NodeRecord → A} → ((r : NodeRecord) → P (call r)) → P (on_row refuse call o)
    unfolding on_row
    of_row none c = refusal NoSuchEntry refl
    of_row (some r) c = of-pick _ (refusal IsDirectory refl) (c r)

    of-directory : (o : Option NodeRecord) {call : NodeRecord → A} → ((r : NodeRecord) → P (call r)) → P (on_directory refuse call o)
    unfolding on_directory
    of-directory none c = refusal NoSuchEntry refl
    of-directory (some r) c = of-pick _ (c r) (refusal NotDirectory refl)

    of-parent : (name : List ℕ) (o : Option NodeRecord) {call : A} → P call → P (on_parent_row name refuse call o)
    unfolding on_parent_row
    of-parent name none c = refusal NoSuchEntry refl
    of-parent name (some r) c = of-pick _ (refusal NoSuchEntry refl) (of-pick _ (of-pick _ c (refusal BadName refl)) (refusal NotDirectory refl))

    of-cutting : (k : Cutting) {call : List (List ℕ) → A} → ((ps : List (List ℕ)) → P (call ps)) → P (on_cutting refuse call k)
    unfolding on_cutting
    of-cutting (parts ps) c = c ps
    of-cutting not_permitted c = refusal PathNotPermitted refl
    of-cutting too_long c = refusal InvalidArgument refl

-- ---- new volume, the chunk size, the report

new-fine : (n e c s : ℕ) (l : List ℕ) → FineOutcome (Fresh.new_volume n e c s l)
unfolding Fresh.new_volume
new-fine n e c s l = of-pick FineOutcome _ (of-pick FineOutcome _ refl refl) refl

size-fine : (s : ℕ) (a : Allocator) → FineAllocator (allocating.set_chunk_size s a)
unfolding allocating.set_chunk_size
size-fine s a = of-pick FineAllocator _ (of-pick FineAllocator _ refl (of-pick FineAllocator _ refl refl)) refl

report-fine : (v : Volume) (out : List ℕ) → FineOutcome (Report.reported v out)
unfolding Report.reported
report-fine v out = of-pick FineOutcome _ refl refl

-- ---- files

read-fine : (n offset : ℕ) (v : Volume) (buffer : List ℕ) → FineOutcome (Read.read n offset v buffer)
unfolding Read.read Read.read_file on_file
read-fine n offset v buffer = of_row FineOutcome (λ e q. q) _ (λ r. refl)

write-fine : (n offset : ℕ) (bs : List ℕ) (v : Volume) → FineStep (Write.write n offset bs v)
unfolding Write.write Write.write_file on_file
write-fine n offset bs v = of_row FineStep (λ e q. q) _ (λ r. of-pick FineStep _ refl (of-pick FineStep _ refl (of-pick FineStep _ refl refl)))

resize-fine : (n z : ℕ) (v : Volume) → FineStep (Resize.resize n z v)
unfolding Resize.resize Resize.resize_file on_file
resize-fine n z v = of_row FineStep (λ e q. q) _ (λ r. of-pick FineStep _ refl (of-pick FineStep _ refl refl))

limit-fine : (n : ℕ) (m : Limit) (v : Volume) → FineStep (Limits.set_limit n m v)
unfolding Limits.set_limit Limits.limit_file on_file
limit-fine n m v = of_row FineStep (λ e q. q) _ (λ r. of-pick FineStep _ refl (of-pick FineStep _ refl refl))

-- ---- names

walk_fine : (es : List Entry) (ps : List (List ℕ)) (n : ℕ) (last : Option Entry) → FineWalk (walk_parts es n last ps)
unfolding walk_parts node_reached
walk_fine es [] n last = refl
walk_fine es (p ∷ ps) n last = of-pick FineWalk _ refl (of_entry FineWalk _ refl (λ e. walk_fine es ps e.node (some e)))

from-fine : (start : ℕ) (a : Names) (ps : List (List ℕ)) → FineWalk (walk_from start a ps)
unfolding walk_from node_reached
from-fine start a ps = of-start FineWalk _ refl (walk_fine a.entries ps start none)

passing-fine : (w : Walk) (o : Option NodeRecord) → FineWalk w → FineWalk (on_passing stopped w o)
unfolding on_passing node_reached
passing-fine w none f = refl
passing-fine w (some r) f = of-pick FineWalk _ f refl

judged-fine : (a : Names) (w : Walk) → FineWalk w → FineWalk (as_directory a w)
unfolding as_directory
judged-fine a (reached n last) f = passing-fine (reached n last) (node n a) f
judged-fine a (stopped e) f = f

path-fine : (start : ℕ) (path : List ℕ) (a : Names) (ps : List (List ℕ)) → FineWalk (walk_path start path a ps)
unfolding walk_path
path-fine start path a ps = of-pick FineWalk _ (judged-fine a (walk_from start a ps) (from-fine start a ps)) (from-fine start a ps)

find-fine : (start : ℕ) (path : List ℕ) (a : Names) → Fine (Walks.find_node start path a)
unfolding Walks.find_node
find-fine start path a = of-cutting Fine (λ e q. q) _ (λ ps. path-fine start path a ps)

next-fine : (d from : ℕ) (a : Names) → FineListed (Listing.next_entry d from a)
unfolding Listing.next_entry
next-fine d from a = of-directory FineListed (λ e q. q) _ (λ r. of_entry FineListed _ refl (λ e. refl))

search-fine : (d : ℕ) (name : List ℕ) (from most : ℕ) (a : Names) → FineSearch (Searching.search d name from most a)
unfolding Searching.search
search-fine d name from most a = of-directory FineSearch (λ e q. q) _ (λ r. of-pick FineSearch _ refl refl)

enter-fine : (p : ℕ) (name : List ℕ) (full : Bool) (a : Names) (call : NamesStep) → FineNames call → FineNames (where_new p name full a call)
unfolding where_new
enter-fine p name full a call c = of_entry FineNames _ (of-pick FineNames _ refl (of-pick FineNames _ refl c)) (λ e. refl)

create-fine : (p : ℕ) (name : List ℕ) (byte : ℕ) (a : Names) → FineNames (Entering.create p name byte a)
unfolding Entering.create on_parent
create-fine p name byte a = of-parent FineNames (λ e q. q) name _ (of-kind FineNames _ refl (λ kind. enter-fine p name _ a _ refl))

link-fine : (p : ℕ) (name : List ℕ) (t : ℕ) (a : Names) → FineNames (Entering.link p name t a)
unfolding Entering.link on_parent on_file
link-fine p name t a = of-parent FineNames (λ e q. q) name _ (of_row FineNames (λ e q. q) _ (λ r. enter-fine p name _ a _ refl))

verdict-fine : (want : Expected) (opens : ℕ) (a : Names) (e : Entry) (o : Option NodeRecord) → FineNames (Unlinking.unlink_node want opens a e o)
unfolding Unlinking.unlink_node
verdict-fine want opens a e none = refl
verdict-fine want opens a e (some r) = of-pick FineNames _ refl (of-pick FineNames _ refl (of-pick FineNames _ refl (of-pick FineNames _ refl refl)))

reached-fine : (want : Expected) (opens : ℕ) (a : Names) (w : Walk) → FineWalk w → FineNames (Unlinking.unlink_reached want opens a w)
unfolding Unlinking.unlink_reached node_reached
reached-fine want opens a (reached n (some e)) q = verdict-fine want opens a e _
reached-fine want opens a (reached n none) q = refl
reached-fine want opens a (stopped e) q = q

unlink-fine : (start : ℕ) (path : List ℕ) (want : Expected) (opens : ℕ) (a : Names) → FineNames (Unlinking.unlink start path want opens a)
unfolding Unlinking.unlink
unlink-fine start path want opens a = of-cutting FineNames (λ e q. q) _ (λ ps. of-pick FineNames _ refl (reached-fine want opens a _ (path-fine start path a ps)))

remove-fine : (n : ℕ) (v : Volume) (o : Option NodeRecord) → FineStep (Removing.remove_row n v o)
unfolding Removing.remove_row
remove-fine n v none = refl
remove-fine n v (some r) = of-pick FineStep _ refl refl

-- ---- every call

door-fine : (call : Volume → Step) → ((v : Volume) → FineStep (call v)) → (l : List ℕ) → Sound l → FineOutcome (Door.door l call)
unfolding Door.door
door-fine call c l h = of-sound FineOutcome l h _ _ (c (shown l))

into-fine : (call : Volume → List ℕ → Outcome) → ((v : Volume) (out : List ℕ) → FineOutcome (call v out)) → (l out : List ℕ) → Sound l → FineOutcome (Door.door_into l out call)
unfolding Door.door_into
into-fine call c l out h = of-sound FineOutcome l h _ _ (c (shown l) out)

call-fine : (c : Call) (l : List ℕ) → Sound l → Other (reply_number (run c l).reply)
unfolding Door.check Report.report Door.set_chunk_size Door.chunk_size_set Door.read Door.write Door.resize Door.set_limit Door.find_node Door.next_entry Door.search Door.create Door.link Door.unlink Door.remove Removing.remove
call-fine (new_volume n e c s) l h = new-fine n e c s l
call-fine check l h = of-sound Fine l h _ _ refl
call-fine (report out) l h = into-fine _ report-fine l out h
call-fine (set_chunk_size s) l h = door-fine _ (λ v. size-fine s v.store.allocator) l h
call-fine (read n offset buffer) l h = into-fine _ (read-fine n offset) l buffer h
call-fine (write n offset bs) l h = door-fine _ (write-fine n offset bs.list) l h
call-fine (resize n z) l h = door-fine _ (resize-fine n z) l h
call-fine (set_limit n m) l h = door-fine _ (limit-fine n m) l h
call-fine (find_node start path) l h = of-sound Fine l h _ _ (find-fine start path (shown l).names)
call-fine (next_entry d from) l h = of-sound FineListed l h _ _ (next-fine d from (shown l).names)
call-fine (search d name from most) l h = of-sound FineSearch l h _ _ (search-fine d name from most (shown l).names)
call-fine (create p name byte) l h = door-fine _ (λ v. create-fine p name.list byte v.names) l h
call-fine (link p name t) l h = door-fine _ (λ v. link-fine p name.list t v.names) l h
call-fine (unlink start path want opens) l h = door-fine _ (λ v. unlink-fine start path want opens v.names) l h
call-fine (remove n) l h = door-fine _ (λ v. remove-fine n v _) l h

not-one : {k : ℕ} → Other k → k ≡ 1 → ⊥
not-one {k} o q = true≢false (sym (eq-eqb k 1 q) ∙ o)

pub never-unsound : (c : Call) (l : List ℕ) → Sound l → reply_number (run c l).reply ≡ 1 → ⊥
never-unsound c l h = not-one (call-fine c l h)

-- ---- a sequence

each-replies : (cs : List Call) (l : List ℕ) → Bytes l → Sound l → NoneUnsound (replies cs l)
unfolding Each
each-replies [] l b h = tt
each-replies (c ∷ cs) l b h = let k = carried c l b h in (never-unsound c l h, each-replies cs (run c l).memory k.bytes k.sound)

-- the new volume answers before there is a sound memory
pub sequence-replies : (nodes entries chunks size : ℕ) (l : List ℕ) → accepted (new_volume nodes entries chunks size) l ≡ true → (cs : List Call) → NoneUnsound (replies (new_volume nodes entries chunks size ∷ cs) l)
unfolding Each
sequence-replies nodes entries chunks size l q cs =
    (not-one (new-fine nodes entries chunks size l), each-replies cs _ (new-bytes nodes entries chunks size l q) (new-sound nodes entries chunks size l q))
