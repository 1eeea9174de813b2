-- What an answer of new volume tells of the memory's length.
-- Assumes nothing.
use Rattle.std.proofs.Common.{◌≡◌, refl, sym, ap, ◌∙◌, Bool, true, false, List, ℕ, ◌+◌, ◌*◌, ◌≤◌, length, arith}
use Rattle.words.proofs.Rules.{says-true}
use Rattle.types.specs.Answers.{Answer, number}
use Rattle.types.specs.Outcomes.{outcome}
use Rattle.volume.specs.Geometry.{placed}
use Rattle.volume.specs.Fresh.{new_volume}
use Rattle.volume.proofs.GeometryRules.{says-placed}
use Rattle.volume.proofs.FreshLaid.{new-misplaced}

-- where it is not refused, the first node row fits
pub row_fits : (n e c s : ℕ) (l : List ℕ) {a : Answer} {m : List ℕ} {k : ℕ} → outcome a m ≡ new_volume n e c s l → k ≡ number a → k ≡ 0 → 232 + 8 * c ≤ length l
row_fits n e c s l h p z = go (placed n e c (length l)) refl
  where
    go : (b : Bool) → placed n e c (length l) ≡ b → 232 + 8 * c ≤ length l
    go true q =
        let f = says-true (says-placed n e c (length l)) q in
        omega (arith, f.nodes, f.long)
    go false q =
        let t = ap (λ o. number o.answer) (h ∙ sym (new-misplaced n e c s l q)) in
        absurd (omega arith)
