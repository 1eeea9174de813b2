-- What the tests of a row's bytes mean.
-- Assumes nothing.
use mathlib.Core.Path.{◌≡◌}
use mathlib.Core.Bool.{Bool}
use mathlib.Core.Logic.{◌⊎◌, inl, inr}
use mathlib.Core.List.{List}
use Prim.Native.Nat.{ℕ, ◌+◌, ◌-◌, ◌≤◌}
use native.Mathlib.Omega.{arith}
use lib.Dec.{eqb, leb}
use lib.ListN.{length}
use Rattle.words.specs.Bytes.{word, num}
use Rattle.words.specs.Rules.{pick, both, Says, holds, fails}
use Rattle.words.proofs.Rules.{says_map, says_both, says-and, says-eqb, says-leb}
use Rattle.words.proofs.Blocks.{says-zeros}
use Rattle.types.specs.Sizes.{most_size, most_name, name_room}
use Rattle.volume.specs.Rows.{entry_row, node_row}
use Rattle.volume.specs.Framed.{NodeFormed, EntryFormed}
use Rattle.volume.specs.RowTests.{limit_formed, node_formed, entry_formed}
use Rattle.types.proofs.KindBytes.{says-known}

pub says-limit : (flag n : ℕ) → Says (((flag ≡ 0) × (n ≡ 0)) ⊎ ((flag ≡ 1) × (n ≤ most_size))) (limit_formed flag n)
unfolding limit_formed pick
says-limit flag n = go (says-eqb flag 0)
  where
    go : {t : Bool} → Says (flag ≡ 0) t → Says (((flag ≡ 0) × (n ≡ 0)) ⊎ ((flag ≡ 1) × (n ≤ most_size))) (pick t (eqb n 0) (both (eqb flag 1) (leb n most_size)))
    go (holds z) = says_map (λ e. inl (z, e)) back (says-eqb n 0)
      where
        back : ((flag ≡ 0) × (n ≡ 0)) ⊎ ((flag ≡ 1) × (n ≤ most_size)) → n ≡ 0
        back (inl p) = p.1
        back (inr p) = absurd (omega arith)
    go (fails z) = says_map (λ p. inr p) back (says_both (says-eqb flag 1) (says-leb n most_size))
      where
        back : ((flag ≡ 0) × (n ≡ 0)) ⊎ ((flag ≡ 1) × (n ≤ most_size)) → (flag ≡ 1) × (n ≤ most_size)
        back (inl p) = absurd (z p.0)
        back (inr p) = p

module _ (l : List ℕ) (at : ℕ) where
  pub says-node : at + node_row ≤ length l → Says (NodeFormed l at) (node_formed l at)
  unfolding node_formed
  says-node h =
      says_map (λ p. record { kind = p.0; limit = p.1.0; spare = p.1.1 }) (λ f. (f.kind, (f.limit, f.spare)))
      (says_both (says-known (num 1 l (at + 8))) (says_both (says-limit (num 1 l (at + 9)) (word l (at + 32))) (says-zeros l (at + 10) 6 (omega arith))))

  pub says-entry : at + entry_row ≤ length l → Says (EntryFormed l at) (entry_formed l at)
  unfolding entry_formed
  says-entry h =
      says_map (λ p. record { least = p.0; most = p.1.0; rest = p.1.1 }) (λ f. (f.least, (f.most, f.rest)))
      (says_both (says-leb 1 (num 4 l (at + 20))) (says-and (says-leb (num 4 l (at + 20)) most_name) (λ m. says-zeros l (at + 24 + num 4 l (at + 20)) (name_room - num 4 l (at + 20)) (omega arith))))
