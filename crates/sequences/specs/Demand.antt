-- Believed: demand 3, as what must hold of every sequence of calls that an accepted new volume begins.
-- Assumes nothing.
use Rattle.std.specs.Prelude.{◌≡◌, List, [], ◌∷◌, ℕ, ◌+◌, ◌≤◌, ◌<◌, get_or}
use Rattle.words.specs.Tables.{Each}
use Rattle.volume.specs.Volume.{shown}
use Rattle.volume.specs.Sound.{Sound}
use Rattle.sequences.specs.Show.{show}
use Rattle.sequences.specs.Calls.{Call}
use Rattle.sequences.specs.Act.{empty_fs, replay}
use Rattle.sequences.specs.Run.{Reply, reply_number, Ran, run, run_all, accepted_of}
use Rattle.sequences.specs.Saying.{byte_said}

-- the memory left is sound, and shows what the accepted calls give when they are worked out afresh
pub record WorkedOut (cs : List Call) (l : List ℕ) : Type 0 where
  pub sound : Sound (run_all cs l)
  pub shows : show (shown (run_all cs l)) ≡ replay (accepted_of cs l) empty_fs

-- no call was refused with 1
abbrev pub NoneUnsound : List Reply → Type 0
NoneUnsound rs = Each (λ r. reply_number r ≡ 1 → ⊥) rs

-- a read of node n from an offset on gave `count` bytes, each of them what the accepted calls say of it; behind them the buffer is as it was
pub record ReadsSaid (n offset : ℕ) (cs : List Call) (buffer : List ℕ) (count : ℕ) (bytes : List ℕ) : Type 0 where
  pub gives : (i : ℕ) → i < count → get_or bytes i 0 ≡ byte_said n (offset + i) cs
  pub keeps : (i : ℕ) → count ≤ i → get_or bytes i 0 ≡ get_or buffer i 0

-- each call of a sequence gave something that its promise permits
abbrev pub Permitted : List Call → List ℕ → List Ran → Type 0
Permitted [] l [] = Unit {0}
Permitted [] l (r ∷ rs) = ⊥
Permitted (c ∷ cs) l [] = ⊥
Permitted (c ∷ cs) l (r ∷ rs) = (r ≡ run c l) × Permitted cs r.memory rs
