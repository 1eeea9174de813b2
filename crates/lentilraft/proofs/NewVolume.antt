-- What new volume makes, said of the call: where it is carried out the memory is sound, and with chunks of 16,384 bytes its report is the
-- text that is written out byte for byte.
-- Assumes nothing.
use Rattle.std.specs.Prelude.{Ok}
use mathlib.Core.Path.{◌≡◌, refl, sym, ap}
use mathlib.Core.Bool.{Bool, true, false}
use mathlib.Core.List.{List}
use Prim.Native.Nat.{ℕ, ◌≤◌}
use native.Mathlib.Omega.{arith}
use lib.ListN.{length}
use Rattle.words.specs.Bytes.{over}
use Rattle.words.specs.Rules.{pick, Says, holds, fails}
use Rattle.types.specs.Outcomes.{Outcome, refused, done}
use Rattle.types.specs.declared.Error.TheVariants.{InvalidArgument}
use Rattle.allocator.specs.Sizes.{accepted_size}
use Rattle.volume.specs.Volume.{shown}
use Rattle.volume.specs.Framed.{Placed}
use Rattle.volume.specs.Geometry.{placed}
use Rattle.volume.specs.Sound.{Sound}
use Rattle.volume.specs.Fresh.{fresh_laid, new_volume}
use Rattle.volume.proofs.GeometryRules.{says-placed}
use Rattle.volume.proofs.FreshGood.{new-sound}
use Rattle.soundness.proofs.Checked.{true-sound}
use Rattle.lentilraft.specs.Report.{text, least_output, new_text, report}
use Rattle.lentilraft.proofs.Door.{report-full}
use Rattle.lentilraft.proofs.Reported.{new-reported}

-- what a new volume that was made has passed, and its bytes
pub record Made (n e c s : ℕ) (l made : List ℕ) : Type 0 where
  pub placed : Placed n e c (length l)
  pub accepted : accepted_size s ≡ true
  pub bytes : made ≡ fresh_laid n e c s (length l)

pub new-made : (n e c s : ℕ) (l : List ℕ) (k : ℕ) → (new_volume n e c s l).answer ≡ Ok k → Made n e c s l (new_volume n e c s l).bytes
unfolding new_volume pick
new-made n e c s l k = go (placed n e c (length l)) (says-placed n e c (length l)) (accepted_size s) refl
  where
    result : Bool → Bool → Outcome
    result a b = pick a (pick b (done 0 (fresh_laid n e c s (length l))) (refused InvalidArgument l)) (refused InvalidArgument l)

    go : (a : Bool) → Says (Placed n e c (length l)) a → (b : Bool) → accepted_size s ≡ b → (result a b).answer ≡ Ok k → Made n e c s l (result a b).bytes
    go true (holds p) true h q = record { placed = p; accepted = h; bytes = refl }
    go true (holds p) false h q = let z : ◌≡◌ {A = ℕ} 0 1 = cc in absurd (omega arith)
    go false (fails p) b h q = let z : ◌≡◌ {A = ℕ} 0 1 = cc in absurd (omega arith)

pub new-volume-sound : (n e c s : ℕ) (l : List ℕ) (k : ℕ) → (new_volume n e c s l).answer ≡ Ok k → Sound (new_volume n e c s l).bytes
new-volume-sound n e c s l k q =
    let m = new-made n e c s l k q in
    rw m.bytes (new-sound n e c s (length l) m.placed m.accepted)

pub new-volume-reported : (n e c : ℕ) (l out : List ℕ) (k : ℕ) → (new_volume n e c 16384 l).answer ≡ Ok k → least_output ≤ length out → report (new_volume n e c 16384 l).bytes out ≡ done (length new_text) (over out 0 new_text)
new-volume-reported n e c l out k q h =
    let m = new-made n e c 16384 l k q in
    let t : text (shown (new_volume n e c 16384 l).bytes) ≡ new_text = rw m.bytes (new-reported n e c (length l) m.placed) in
    sym (report-full (new_volume n e c 16384 l).bytes out (true-sound (new_volume n e c 16384 l).bytes (new-volume-sound n e c 16384 l k q)) h (ap length (sym t)) (ap (λ (x : List ℕ). over out 0 x) (sym t)))
