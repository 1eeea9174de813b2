-- Every refusal of a call leaves the bytes lent as they were, whatever it is refused for: one law of each door, and an instance a call.
-- Assumes nothing.
use Rattle.std.specs.Prelude.{Option, Some, None, Err}
use mathlib.Core.Path.{◌≡◌, refl, ap, ◌∙◌}
use mathlib.Core.Bool.{Bool, true, false}
use mathlib.Core.List.{List}
use Prim.Native.Nat.{ℕ}
use native.Mathlib.Omega.{arith}
use lib.Dec.{ltb}
use lib.ListN.{length}
use Rattle.words.specs.Bytes.{Bytes, over}
use Rattle.words.specs.Rules.{pick}
use Rattle.types.specs.Answers.{value}
use Rattle.types.specs.Outcomes.{Outcome, refused, done}
use Rattle.types.specs.Answers.{Answer}
use Rattle.types.specs.declared.Error.{Error}
use Rattle.types.specs.declared.Error.TheVariants.{InvalidArgument, OutputTooShort}
use Rattle.types.specs.declared.Expected.{Expected}
use Rattle.types.specs.Nodes.{Limit}
use Rattle.allocator.specs.Sizes.{accepted_size}
use Rattle.allocator.proofs.Sizes.{size-cases}
use Rattle.volume.specs.Volume.{Names, Volume, shown, laid, with_allocator, on_store}
use Rattle.volume.specs.Steps.{Step, stays, NamesStep, name_step}
use Rattle.volume.specs.Sound.{Named, Good}
use Rattle.volume.specs.Geometry.{placed}
use Rattle.volume.specs.Fresh.{fresh_laid, new_volume}
use Rattle.volume.proofs.Laid.{framed-formed}
use Rattle.files.specs.Read as Read
use Rattle.files.specs.Write as Write
use Rattle.files.specs.Resize as Resize
use Rattle.files.specs.Limits as Limits
use Rattle.tables.proofs.Files.{OnFile, stops, goes_on, on-file}
use Rattle.files.proofs.WriteKept as WriteKept
use Rattle.files.proofs.ResizeKept as ResizeKept
use Rattle.files.proofs.LimitSteps.{limit-leaves}
use Rattle.names.specs.Entering as Entering
use Rattle.names.specs.Unlinking as Unlinking
use Rattle.names.specs.Removing as Removing
use Rattle.names.proofs.Created.{create-leaves}
use Rattle.names.proofs.Linked.{link-leaves}
use Rattle.names.proofs.Unlinked.{unlink-refused}
use Rattle.names.proofs.Removed.{remove-refused}
use Rattle.types.specs.Kinds.{wanted_of}
use Rattle.lentilraft.specs.Door.{door, door_into, chunk_size_set, set_chunk_size, set_limit, resize, write, read, create, link, unlink, on_wanted, unlink_wanted, unlink_byte, remove}
use Rattle.lentilraft.specs.Report.{text, least_output, reported, report}
use Rattle.lentilraft.specs.Refusal.{RefusalLeaves}
use Rattle.lentilraft.proofs.Door.{either_way}

-- an answer that is a refusal tells 0
told-nothing : (a : Answer) {e : Error} → a ≡ Err e → value a ≡ 0
told-nothing a q = ap value q

-- ---- the two doors

-- a call that changes the volume
pub door-refusal : (call : Volume → Step) → ((v : Volume) → Good v → (e : Error) → (call v).answer ≡ Err e → (call v).after ≡ v) → (l : List ℕ) → Bytes l → RefusalLeaves (door l call) l
unfolding door
door-refusal call leaves l b =
    either_way l _ _ (λ o. RefusalLeaves o l) (λ h e q. (told-nothing (call (shown l)).answer q, ap laid (leaves (shown l) h.good e q) ∙ (framed-formed l b h.framed).same)) (λ e q. (refl, refl))

-- a call that reads into a buffer
pub into-refusal : (call : Volume → List ℕ → Outcome) → ((v : Volume) (buffer : List ℕ) → RefusalLeaves (call v buffer) buffer) → (l buffer : List ℕ) → RefusalLeaves (door_into l buffer call) buffer
unfolding door_into
into-refusal call leaves l buffer = either_way l _ _ (λ o. RefusalLeaves o buffer) (λ h. leaves (shown l) buffer) (λ e q. (refl, refl))

-- ---- each call

pub new-volume-refusal : (n e c s : ℕ) (l : List ℕ) → RefusalLeaves (new_volume n e c s l) l
unfolding new_volume pick
new-volume-refusal n e c s l x = go (placed n e c (length l)) (accepted_size s)
  where
    result : Bool → Bool → Outcome
    result a b = pick a (pick b (done 0 (fresh_laid n e c s (length l))) (refused InvalidArgument l)) (refused InvalidArgument l)

    go : (a b : Bool) → (result a b).answer ≡ Err x → (value (result a b).answer ≡ 0) × ((result a b).bytes ≡ l)
    go true true q = let z : ◌≡◌ {A = ℕ} 0 1 = cc in absurd (omega arith)
    go true false q = (refl, refl)
    go false b q = (refl, refl)

pub set-chunk-size-refusal : (s : ℕ) (l : List ℕ) → Bytes l → RefusalLeaves (set_chunk_size s l) l
unfolding set_chunk_size
set-chunk-size-refusal s = door-refusal (chunk_size_set s) leaves
  where
    leaves : (v : Volume) → Good v → (e : Error) → (chunk_size_set s v).answer ≡ Err e → (chunk_size_set s v).after ≡ v
    leaves v g e = unfold chunk_size_set in
        size-cases (λ t. t.answer ≡ Err e → on_store (with_allocator t.after) v ≡ v) s v.store.allocator (λ d q. refl) (λ q. refl) (λ a z q. let x : ◌≡◌ {A = ℕ} 0 1 = cc in absurd (omega arith))

pub set-limit-refusal : (n : ℕ) (m : Limit) (l : List ℕ) → Bytes l → RefusalLeaves (set_limit n m l) l
unfolding set_limit
set-limit-refusal n m = door-refusal (Limits.set_limit n m) (λ v g. limit-leaves n m v)

pub resize-file-refusal : (n size : ℕ) (l : List ℕ) → Bytes l → RefusalLeaves (resize n size l) l
unfolding resize
resize-file-refusal n size = door-refusal (Resize.resize n size) (λ v g. ResizeKept.resize-refused n size v)

pub write-refusal : (n offset : ℕ) (bs l : List ℕ) → Bytes l → RefusalLeaves (write n offset bs l) l
unfolding write
write-refusal n offset bs = door-refusal (Write.write n offset bs) (λ v g. WriteKept.write-refused n offset bs v)

pub read-refusal : (n offset : ℕ) (l buffer : List ℕ) → RefusalLeaves (read n offset l buffer) buffer
unfolding read
read-refusal n offset = into-refusal (Read.read n offset) leaves
  where
    leaves : (v : Volume) (buffer : List ℕ) → RefusalLeaves (Read.read n offset v buffer) buffer
    leaves v buffer e = unfold Read.read in go (Read.read n offset v buffer) (on-file n v.names (λ x. refused x buffer) (Read.read_file v offset buffer))
      where
        go : (o : Outcome) → OnFile Outcome n v.names (λ x. refused x buffer) (Read.read_file v offset buffer) o → o.answer ≡ Err e → (value o.answer ≡ 0) × (o.bytes ≡ buffer)
        go o (stops x) q = (refl, refl)
        go o (goes_on r a b c) q = unfold Read.read_file in let z : ◌≡◌ {A = ℕ} 0 1 = cc in absurd (omega arith)

reported-leaves : (v : Volume) (out : List ℕ) → RefusalLeaves (reported v out) out
unfolding reported pick
reported-leaves v out e = go (ltb (length out) least_output)
  where
    result : Bool → Outcome
    result t = pick t (refused OutputTooShort out) (done (length (text v)) (over out 0 (text v)))

    go : (t : Bool) → (result t).answer ≡ Err e → (value (result t).answer ≡ 0) × ((result t).bytes ≡ out)
    go true q = (refl, refl)
    go false q = let z : ◌≡◌ {A = ℕ} 0 1 = cc in absurd (omega arith)

pub report-refusal : (l out : List ℕ) → RefusalLeaves (report l out) out
unfolding report
report-refusal = into-refusal reported reported-leaves

-- ---- the calls on names

-- a step that leaves the names leaves the volume
name-leaves : (call : Names → NamesStep) → ((a : Names) → Named a → (e : Error) → (call a).answer ≡ Err e → (call a).after ≡ a) → (v : Volume) → Good v → (e : Error) → (name_step call v).answer ≡ Err e → (name_step call v).after ≡ v
name-leaves call leaves v g e q = rw (leaves v.names g.named e q)

pub create-refusal : (p : ℕ) (name : List ℕ) (byte : ℕ) (l : List ℕ) → Bytes l → RefusalLeaves (create p name byte l) l
unfolding create
create-refusal p name byte = door-refusal (name_step (Entering.create p name byte)) (name-leaves (Entering.create p name byte) (λ a g. create-leaves p name byte a))

pub link-refusal : (p : ℕ) (name : List ℕ) (target : ℕ) (l : List ℕ) → Bytes l → RefusalLeaves (link p name target l) l
unfolding link
link-refusal p name target = door-refusal (name_step (Entering.link p name target)) (name-leaves (Entering.link p name target) (λ a g. link-leaves p name target a))

pub unlink-refusal : (start : ℕ) (path : List ℕ) (want : Expected) (opens : ℕ) (l : List ℕ) → Bytes l → RefusalLeaves (unlink start path want opens l) l
unfolding unlink
unlink-refusal start path want opens = door-refusal (name_step (Unlinking.unlink start path want opens)) (name-leaves (Unlinking.unlink start path want opens) (λ a g e. unlink-refused start path want opens a e g))

pub unlink-byte-refusal : (start : ℕ) (path : List ℕ) (byte opens : ℕ) (l : List ℕ) → Bytes l → RefusalLeaves (unlink_byte start path byte opens l) l
unfolding unlink_byte
unlink-byte-refusal start path byte opens = door-refusal (unlink_wanted start path byte opens) leaves
  where
    leaves : (v : Volume) → Good v → (e : Error) → (unlink_wanted start path byte opens v).answer ≡ Err e → (unlink_wanted start path byte opens v).after ≡ v
    leaves v g e = go (wanted_of byte)
      where
        result : Option Expected → Step
        result w = on_wanted (stays InvalidArgument v) (λ want. name_step (Unlinking.unlink start path want opens) v) w

        go : (w : Option Expected) → (result w).answer ≡ Err e → (result w).after ≡ v
        go None q = refl
        go (Some want) q = name-leaves (Unlinking.unlink start path want opens) (λ a h x. unlink-refused start path want opens a x h) v g e q

pub remove-refusal : (n : ℕ) (l : List ℕ) → Bytes l → RefusalLeaves (remove n l) l
unfolding remove
remove-refusal n = door-refusal (Removing.remove n) (λ v g. remove-refused n v)
