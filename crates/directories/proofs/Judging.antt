-- A verdict on an entry: it says what unlink does with the entry, and where the entry goes, a directory that it names is empty.
-- Assumes nothing.
use Rattle.std.specs.Prelude.{Result, Ok, Err}
use mathlib.Core.Path.{◌≡◌, refl}
use mathlib.Core.Bool.{Bool, true, false, not}
use Prim.Native.Nat.{ℕ, ◌<◌}
use mathlib.Core.Option.{some}
use native.Mathlib.Omega.{arith}
use lib.Dec.{eqb, ltb}
use Rattle.words.specs.Rules.{pick, both, Says, holds, fails}
use Rattle.words.proofs.Rules.{says-eqb, says-ltb}
use Rattle.types.specs.Nodes.{is_directory}
use Rattle.types.specs.declared.Expected.{Expected}
use Rattle.types.specs.declared.Error.TheVariants.{IsDirectory, NotDirectory, DirectoryNotEmpty, Busy}
use Rattle.types.specs.declared.FileType.TheVariants.{Directory}
use Rattle.types.specs.declared.NodeRecord.{NodeRecord}
use Rattle.types.proofs.Nodes.{says-directory}
use Rattle.volume.specs.Rows.{Entry}
use Rattle.volume.specs.Volume.{Names}
use Rattle.volume.specs.Steps.{NamesStep, remain, turn}
use Rattle.names.specs.Unlinking.{wants_file, wants_directory, unlinked, unlink_node}
use Rattle.directories.specs.Verdicts.{open_verdict, directory_verdict, file_verdict, verdict}
use Rattle.types.specs.declared.Error.{Error}

-- the step that a verdict means
abbrev pub step_by : Names → Entry → Result (Unit {0}) Error → NamesStep
step_by a e (Ok tt) = turn e.node (unlinked e a)
step_by a e (Err x) = remain x a

module _ (want : Expected) (opens : ℕ) (r : NodeRecord) where
  pub verdict-step : (a : Names) (e : Entry) → step_by a e (verdict want opens r) ≡ unlink_node want opens a e (some r)
  unfolding verdict directory_verdict file_verdict open_verdict unlink_node pick both
  verdict-step a e = kinds (is_directory r.kind) (wants_file want) (wants_directory want) (ltb 0 r.size)
    where
      goes : NamesStep
      goes = turn e.node (unlinked e a)

      opened : step_by a e (pick (eqb opens 0) (Ok tt) (pick (eqb r.links 1) (Err Busy) (Ok tt))) ≡ pick (both (ltb 0 opens) (eqb r.links 1)) (remain Busy a) goes
      opened = go (eqb opens 0) (says-eqb opens 0) (ltb 0 opens) (says-ltb 0 opens) (eqb r.links 1)
        where
          go : (o : Bool) → Says (opens ≡ 0) o → (p : Bool) → Says (0 < opens) p → (k : Bool) → step_by a e (pick o (Ok tt) (pick k (Err Busy) (Ok tt))) ≡ pick (both p k) (remain Busy a) goes
          go true (holds x) true (holds z) k = absurd (omega arith)
          go true (holds x) false (fails z) k = refl
          go false (fails x) true (holds z) true = refl
          go false (fails x) true (holds z) false = refl
          go false (fails x) false (fails z) k = absurd (omega arith)

      kinds : (d f w z : Bool)
          → step_by a e (pick d (pick f (Err IsDirectory) (pick z (Err DirectoryNotEmpty) (open_verdict opens r))) (pick w (Err NotDirectory) (open_verdict opens r)))
          ≡ pick (both d f) (remain IsDirectory a) (pick (both d z) (remain DirectoryNotEmpty a) (pick (both (not d) w) (remain NotDirectory a) (pick (both (ltb 0 opens) (eqb r.links 1)) (remain Busy a) goes)))
      kinds true true w z = refl
      kinds true false w true = refl
      kinds true false w false = opened
      kinds false f true z = refl
      kinds false f false z = opened

  pub verdict-empty : (Ok tt) ≡ verdict want opens r → r.kind ≡ Directory → r.size ≡ 0
  unfolding verdict directory_verdict pick
  verdict-empty h k = go (is_directory r.kind) (says-directory r.kind) (wants_file want) (ltb 0 r.size) (says-ltb 0 r.size) h
    where
      go : (d : Bool) → Says (r.kind ≡ Directory) d → (f z : Bool) → Says (0 < r.size) z
          → (Ok tt) ≡ pick d (pick f (Err IsDirectory) (pick z (Err DirectoryNotEmpty) (open_verdict opens r))) (file_verdict want opens r) → r.size ≡ 0
      go false (fails n) f z s q = absurd (n k)
      go true (holds n) true z s q = absurd cc
      go true (holds n) false true s q = absurd cc
      go true (holds n) false false (fails s) q = omega arith
