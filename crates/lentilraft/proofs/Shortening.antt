-- Shortening a file is never refused for want of room. Of any memory resize gives 0, 1, 2, 3 or 5; and in a sound one a file is cut to every
-- size that it has reached.
-- Assumes nothing.
use Rattle.std.specs.Prelude.{Ok}
use mathlib.Core.Path.{◌≡◌, refl, sym, ap, ◌∙◌}
use mathlib.Core.Bool.{Bool, true, false}
use mathlib.Core.Logic.{◌⊎◌, inl, inr}
use mathlib.Core.List.{List}
use mathlib.Core.Option.{Option, none, some}
use Prim.Native.Nat.{ℕ, ◌≤◌, ◌<◌}
use native.Mathlib.Decide.{dec_lt}
use native.Mathlib.Omega.{arith}
use lib.Dec.{ltb}
use Rattle.words.specs.Rules.{pick}
use Rattle.types.specs.Answers.{number}
use Rattle.types.specs.Nodes.{is_directory, file_limit}
use Rattle.types.specs.Outcomes.{Outcome}
use Rattle.types.specs.declared.Error.TheVariants.{IsDirectory, FileTooLarge}
use Rattle.types.specs.declared.FileType.TheVariants.{Directory}
use Rattle.types.specs.declared.NodeRecord.{NodeRecord}
use Rattle.volume.specs.Volume.{Volume, shown}
use Rattle.volume.specs.Sound.{node, NodeGood, Good, Sound}
use Rattle.volume.specs.Steps.{stays, becomes}
use Rattle.volume.specs.Files.{on_row, on_file}
use Rattle.tables.proofs.NodeRows.{node-each}
use Rattle.soundness.proofs.Checked.{true-sound}
use Rattle.files.specs.Resize as Resize
use Rattle.files.proofs.ResizeKept.{Accepts, resize-grows, resize-cuts}
use Rattle.lentilraft.specs.Door.{door, resize}
use Rattle.lentilraft.proofs.Door.{either_way, let-in}

-- ---- the numbers that resize gives

abbrev pub ResizeNumber : ℕ → Type 0
ResizeNumber k = (k ≡ 0) ⊎ ((k ≡ 1) ⊎ ((k ≡ 2) ⊎ ((k ≡ 3) ⊎ (k ≡ 5))))

step-number : (n z : ℕ) (v : Volume) → ResizeNumber (number (Resize.resize n z v).answer)
unfolding Resize.resize Resize.resize_file on_file on_row pick
step-number n z v = go (node n v.names)
  where
    row : (cut grown : Volume) (directory large less : Bool) → ResizeNumber (number (pick directory (stays IsDirectory v) (pick large (stays FileTooLarge v) (pick less (becomes 0 cut) (becomes 0 grown)))).answer)
    row cut grown true large less = inr (inr (inr (inl refl)))
    row cut grown false true less = inr (inr (inr (inr refl)))
    row cut grown false false true = inl refl
    row cut grown false false false = inl refl

    go : (o : Option NodeRecord) → ResizeNumber (number (on_row (λ e. stays e v) (Resize.resize_file z v) o).answer)
    go none = inr (inr (inl refl))
    go (some r) = row _ _ (is_directory r.kind) (ltb (file_limit r.limit) z) (ltb z r.size)

pub resize-number : (n z : ℕ) (l : List ℕ) → ResizeNumber (number (resize n z l).answer)
unfolding resize door
resize-number n z l = either_way l _ _ (λ (o : Outcome). ResizeNumber (number o.answer)) (λ h. step-number n z (shown l)) (inr (inl refl))

pub never-cramped : (n z : ℕ) (l : List ℕ) → number (resize n z l).answer ≡ 6 → ⊥
never-cramped n z l e = go _ (resize-number n z l) e
  where
    go : (k : ℕ) → ResizeNumber k → k ≡ 6 → ⊥
    go k (inl q) e = omega arith
    go k (inr (inl q)) e = omega arith
    go k (inr (inr (inl q))) e = omega arith
    go k (inr (inr (inr (inl q)))) e = omega arith
    go k (inr (inr (inr (inr q)))) e = omega arith

-- ---- a file can always be shortened

module _ (n z : ℕ) (r : NodeRecord) (file : r.kind ≡ Directory → ⊥) (less : z ≤ r.size) where
  step-shortens : (v : Volume) → Good v → node n v.names ≡ some r → (Resize.resize n z v).answer ≡ Ok 0
  step-shortens v g there = go (dec_lt z r.size)
    where
      good : NodeGood v.names.entries r
      good = node-each n v.names r there (NodeGood v.names.entries) g.named.nodes

      passes : Accepts n z v r
      passes = record { there = there; file = file; within = omega (arith, good.size) }

      go : Dec (z < r.size) → (Resize.resize n z v).answer ≡ Ok 0
      go (yes h) = ap (λ s. s.answer) (resize-cuts n z v r passes h)
      go (no h) = ap (λ s. s.answer) (resize-grows n z v r passes (omega arith))

  pub shortens : (l : List ℕ) → Sound l → node n (shown l).names ≡ some r → (resize n z l).answer ≡ Ok 0
  unfolding resize door
  shortens l h there = sym (ap (λ (o : Outcome). o.answer) (let-in l _ _ (true-sound l h) refl)) ∙ step-shortens (shown l) h.good there
