-- One call on a sound memory: what it leaves is sound and shows what the call gives; refused, it is the memory there was.
-- Assumes nothing.
use Rattle.std.specs.Prelude.{Ok, Err}
use mathlib.Core.Path.{◌≡◌, refl, sym, ap, ◌∙◌}
use mathlib.Core.Bool.{Bool, true, false}
use mathlib.Core.List.{List}
use Prim.Native.Nat.{ℕ, ◌≤◌}
use native.Mathlib.Omega.{arith}
use lib.Dec.{eqb}
use borrow.Author.Tests.{ne_eqb}
use Rattle.words.specs.Bytes.{Bytes}
use Rattle.words.specs.Rules.{pick, bit}
use Rattle.types.specs.Answers.{error_number, number}
use Rattle.types.specs.Answers.{Answer}
use Rattle.types.specs.declared.Error.{Error}
use Rattle.types.specs.declared.Error.TheVariants.{UnsoundMemory, NoSuchEntry, IsDirectory, NotDirectory, FileTooLarge, NoChunkRoom, NoRowRoom, PathNotPermitted, BadName, NameExists, DirectoryNotEmpty, Busy, InvalidArgument, NoIndexLeft, OutputTooShort}
use Rattle.volume.specs.Volume.{Volume, shown}
use Rattle.volume.specs.Framed.{Fits}
use Rattle.volume.specs.Sound.{Good, Sound}
use Rattle.volume.specs.Steps.{Step}
use Rattle.volume.proofs.Laid.{shown-laid, framed-formed}
use Rattle.soundness.proofs.Checked.{true-sound}
use Rattle.lentilraft.specs.Door.{if_sound, door}
use Rattle.lentilraft.specs.Refusal.{RefusalLeaves}
use Rattle.sequences.specs.Fs.{Fs}
use Rattle.sequences.specs.Show.{show}
use Rattle.sequences.proofs.LaterStores.{Later}

-- ---- accepted or refused

error-above : (e : Error) → 1 ≤ error_number e
error-above UnsoundMemory = omega arith
error-above NoSuchEntry = omega arith
error-above IsDirectory = omega arith
error-above NotDirectory = omega arith
error-above FileTooLarge = omega arith
error-above NoChunkRoom = omega arith
error-above NoRowRoom = omega arith
error-above PathNotPermitted = omega arith
error-above BadName = omega arith
error-above NameExists = omega arith
error-above DirectoryNotEmpty = omega arith
error-above Busy = omega arith
error-above InvalidArgument = omega arith
error-above NoIndexLeft = omega arith
error-above OutputTooShort = omega arith

not-both : (t : Bool) → t ≡ true → t ≡ false → ⊥
unfolding bit
not-both t p q = let z : ◌≡◌ {A = ℕ} 0 1 = ap bit (sym q ∙ p) in omega arith

pub is-done : (a : Answer) → eqb (number a) 0 ≡ true → (k : ℕ) × (a ≡ Ok k)
is-done (Ok k) h = (k, refl)
is-done (Err e) h = absurd (not-both (eqb (error_number e) 0) h (ne_eqb (error_number e) 0 (λ z. omega (arith, error-above e))))

pub is-refused : (a : Answer) → eqb (number a) 0 ≡ false → (e : Error) × (a ≡ Err e)
is-refused (Ok k) h = absurd (not-both true refl h)
is-refused (Err e) h = (e, refl)

-- ---- a call behind the door

module _ (call : Volume → Step) (keeps : (v : Volume) → Fits v → Good v → Fits (call v).after × Good (call v).after) (l : List ℕ) (b : Bytes l) (h : Sound l) where
  kept : Fits (call (shown l)).after × Good (call (shown l)).after
  kept = keeps (shown l) (framed-formed l b h.framed).fits h.good

  pub door-answer : (door l call).answer ≡ (call (shown l)).answer
  unfolding door if_sound pick
  door-answer = rw (true-sound l h) refl

  pub door-after : shown (door l call).bytes ≡ (call (shown l)).after
  unfolding door if_sound pick
  door-after = rw (true-sound l h) (shown-laid (call (shown l)).after kept.0)

  -- accepted, it shows what the call makes of what was shown
  pub door-shows : (f : Fs → Fs) → ((v : Volume) → Fits v → Good v → (k : ℕ) → (call v).answer ≡ Ok k → show (call v).after ≡ f (show v))
      → eqb (number (door l call).answer) 0 ≡ true → show (shown (door l call).bytes) ≡ f (show (shown l))
  door-shows f shows q =
      let d = is-done (door l call).answer q in
      ap show door-after ∙ shows (shown l) (framed-formed l b h.framed).fits h.good d.0 (sym door-answer ∙ d.1)

  -- refused, it leaves the memory
  pub door-stays : RefusalLeaves (door l call) l → eqb (number (door l call).answer) 0 ≡ false → (door l call).bytes ≡ l
  door-stays leaves q = let e = is-refused (door l call).answer q in (leaves e.0 e.1).1

  pub door-later : ((v : Volume) → Later v.store (call v).after.store) → Later (shown l).store (shown (door l call).bytes).store
  door-later later = rw door-after (later (shown l))
