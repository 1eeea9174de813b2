-- The outcome of each call, by what the check says of the memory; and that it is the only one.
-- Assumes nothing.
use Rattle.std.specs.Prelude.{Option, None, Result, Ok, Err, IsErrAnd}
use mathlib.Core.Path.{◌≡◌, refl, sym, ap, ◌∙◌}
use mathlib.Core.Bool.{Bool, true, false}
use mathlib.Core.List.{List}
use Prim.Native.Nat.{ℕ, ◌≤◌, ◌<◌}
use lib.ListN.{length}
use borrow.Author.Tests.{lt-ltb, le-ltb}
use Rattle.words.specs.Bytes.{over}
use Rattle.words.specs.Rules.{pick, Says, holds, fails}
use Rattle.words.proofs.Rules.{pick_true, pick-false}
use Rattle.types.specs.declared.Expected.{Expected}
use Rattle.types.specs.Nodes.{Limit}
use Rattle.types.specs.Answers.{Answer}
use Rattle.types.specs.declared.Error.{Error}
use Rattle.types.specs.declared.Error.TheVariants.{UnsoundMemory, InvalidArgument, OutputTooShort}
use Rattle.types.specs.Outcomes.{Outcome, outcome, OneOutcome}
use Rattle.types.proofs.Outcomes.{one-outcome}
use Rattle.volume.specs.Volume.{Volume, shown, laid}
use Rattle.allocator.specs.Opening.{opened}
use Rattle.volume.specs.Fresh.{new_volume}
use Rattle.volume.specs.Steps.{Step, name_step}
use Rattle.volume.specs.Sound.{Sound}
use Rattle.soundness.specs.Checked.{sound, place_if_sound}
use Rattle.soundness.proofs.Checked.{says-sound, not_opened}
use Rattle.names.specs.Unlinking as Unlinking
use Rattle.types.specs.Kinds.{wanted_of, MeansExpected}
use Rattle.types.proofs.Results.{or-given, or-refused, exit-is}
use Rattle.lentilraft.specs.Door.{if_sound, door, door_into, check, set_chunk_size, set_limit, read, resize, write, find_node, search, create, link, unlink, unlink_wanted, unlink_byte, remove}
use Rattle.lentilraft.specs.Report.{text, least_output, reported, report}

-- ---- the outcome of a call

told : {a b : Answer} {x y : List ℕ} → a ≡ b → x ≡ y → outcome a x ≡ outcome b y
told p q = rw (p, q)

-- every door is shut with 1, or lets the call in
module _ {A : Type 0} (l : List ℕ) (refuse : Error → A) (call : Volume → A) where
  pub shut : sound l ≡ false → refuse UnsoundMemory ≡ if_sound l refuse call
  unfolding if_sound
  shut e = pick-false _ _ _ _ e refl

  pub let-in : {a : A} → sound l ≡ true → a ≡ call (shown l) → a ≡ if_sound l refuse call
  unfolding if_sound
  let-in e h = pick_true _ _ _ _ e h

  -- what holds of the call on a sound volume, and of the refusal, holds whatever the memory is
  pub either_way : (P : A → Type 0) → (Sound l → P (call (shown l))) → P (refuse UnsoundMemory) → P (if_sound l refuse call)
  unfolding if_sound pick
  either_way P called refused = go (sound l) (says-sound l)
    where
      go : (t : Bool) → Says (Sound l) t → P (pick t (call (shown l)) (refuse UnsoundMemory))
      go true (holds h) = called h
      go false (fails h) = refused

-- the exit of a call whose check refused
pub exit-shut : {T : Type 0} (l : List ℕ) (r : Result T Error) {e : Error} → Err e ≡ place_if_sound l → IsErrAnd r (λ y. y ≡ e) → (r ≡ Err UnsoundMemory) × (sound l ≡ false)
exit-shut l r h x = let n = not_opened l h in (exit-is r x ∙ ap Err n.1, n.0)

pub door-shut : (l : List ℕ) (call : Volume → Step) → sound l ≡ false → outcome (Err UnsoundMemory) l ≡ door l call
unfolding door
door-shut l call e = shut l _ _ e

pub door-open : (l : List ℕ) (call : Volume → Step) {r : Answer} {m : List ℕ} → sound l ≡ true → (r ≡ (call (shown l)).answer) × (m ≡ laid (call (shown l)).after) → outcome r m ≡ door l call
unfolding door
door-open l call e h = let-in l _ _ e (told h.0 h.1)

module _ (l buffer : List ℕ) (call : Volume → List ℕ → Outcome) where
  pub into-shut : sound l ≡ false → outcome (Err UnsoundMemory) buffer ≡ door_into l buffer call
  unfolding door_into
  into-shut e = shut l _ _ e

  pub into-open : {o : Outcome} → sound l ≡ true → o ≡ call (shown l) buffer → o ≡ door_into l buffer call
  unfolding door_into
  into-open e h = let-in l _ _ e h

module _ (l out : List ℕ) where
  pub report-short : sound l ≡ true → length out < least_output → outcome (Err OutputTooShort) out ≡ report l out
  unfolding report reported
  report-short e h = into-open l out reported e (pick_true _ _ _ _ (lt-ltb (length out) least_output h) refl)

  pub report-full : {n : ℕ} {m : List ℕ} → sound l ≡ true → least_output ≤ length out → n ≡ length (text (shown l)) → m ≡ over out 0 (text (shown l)) → outcome (Ok n) m ≡ report l out
  unfolding report reported
  report-full e h p q = into-open l out reported e (pick-false _ _ _ _ (le-ltb (length out) least_output h) (told (ap Ok p) q))

-- ---- one possible outcome, of each call

pub one-new-volume : (n e c s : ℕ) (l : List ℕ) → OneOutcome (new_volume n e c s l)
one-new-volume n e c s l = one-outcome (new_volume n e c s l)

pub one-open : (l : List ℕ) → OneOutcome (opened l)
one-open l = one-outcome (opened l)

pub one-check : (l : List ℕ) → OneOutcome (check l)
one-check l = one-outcome (check l)

pub one-set-chunk-size : (s : ℕ) (l : List ℕ) → OneOutcome (set_chunk_size s l)
one-set-chunk-size s l = one-outcome (set_chunk_size s l)

pub one-report : (l out : List ℕ) → OneOutcome (report l out)
one-report l out = one-outcome (report l out)

pub one-read : (n offset : ℕ) (l buffer : List ℕ) → OneOutcome (read n offset l buffer)
one-read n offset l buffer = one-outcome (read n offset l buffer)

pub one-set-limit : (n : ℕ) (m : Limit) (l : List ℕ) → OneOutcome (set_limit n m l)
one-set-limit n m l = one-outcome (set_limit n m l)

pub one-resize-file : (n size : ℕ) (l : List ℕ) → OneOutcome (resize n size l)
one-resize-file n size l = one-outcome (resize n size l)

pub one-write : (n offset : ℕ) (bs l : List ℕ) → OneOutcome (write n offset bs l)
one-write n offset bs l = one-outcome (write n offset bs l)

pub one-find-node : (start : ℕ) (path l : List ℕ) → OneOutcome (find_node start path l)
one-find-node start path l = one-outcome (find_node start path l)

pub one-search : (d : ℕ) (name : List ℕ) (from most : ℕ) (l : List ℕ) → OneOutcome (search d name from most l)
one-search d name from most l = one-outcome (search d name from most l)

pub one-create : (p : ℕ) (name : List ℕ) (byte : ℕ) (l : List ℕ) → OneOutcome (create p name byte l)
one-create p name byte l = one-outcome (create p name byte l)

pub one_link : (p : ℕ) (name : List ℕ) (target : ℕ) (l : List ℕ) → OneOutcome (link p name target l)
one_link p name target l = one-outcome (link p name target l)

pub one-unlink : (start : ℕ) (path : List ℕ) (want : Expected) (opens : ℕ) (l : List ℕ) → OneOutcome (unlink start path want opens l)
one-unlink start path want opens l = one-outcome (unlink start path want opens l)

pub one-remove : (n : ℕ) (l : List ℕ) → OneOutcome (remove n l)
one-remove n l = one-outcome (remove n l)

pub one-unlink-byte : (start : ℕ) (path : List ℕ) (byte opens : ℕ) (l : List ℕ) → OneOutcome (unlink_byte start path byte opens l)
one-unlink-byte start path byte opens l = one-outcome (unlink_byte start path byte opens l)

-- ---- a kind that is expected as a byte

-- a byte that says nothing is refused, and the memory stays; one that says something is unlink's
module _ (start : ℕ) (path : List ℕ) (byte opens : ℕ) (l : List ℕ) where
  abbrev wanted : Step
  wanted = unlink_wanted start path byte opens (shown l)

  pub wanted-unknown : (w : Option Expected) → w ≡ None → w ≡ wanted_of byte → laid (shown l) ≡ l → (Err InvalidArgument ≡ wanted.answer) × (l ≡ laid wanted.after)
  wanted-unknown w t e h = rw (sym e ∙ t) (refl, sym h)

  pub wanted-refused : {e : Error} → MeansExpected byte (Err e) → laid (shown l) ≡ l → (Err e ≡ wanted.answer) × (l ≡ laid wanted.after)
  wanted-refused h k = let n = or-refused (wanted_of byte) InvalidArgument h in rw n.1 (wanted-unknown (wanted_of byte) n.0 refl k)

  pub wanted-known : {want : Expected} {r : Answer} {m : List ℕ} → MeansExpected byte (Ok want)
      → (r ≡ (name_step (Unlinking.unlink start path want opens) (shown l)).answer) × (m ≡ laid (name_step (Unlinking.unlink start path want opens) (shown l)).after) → (r ≡ wanted.answer) × (m ≡ laid wanted.after)
  wanted-known k h = rw (or-given (wanted_of byte) InvalidArgument k) h
