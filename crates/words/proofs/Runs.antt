-- In rows in order, those like a key from its place on are one run: where it starts, and how long it is.
-- Assumes nothing.
use mathlib.Core.Path.{◌≡◌, refl, ap}
use mathlib.Core.Bool.{Bool, true, false}
use mathlib.Core.List.{List, [], ◌∷◌, ◌++◌}
use Prim.Native.Nat.{ℕ, suc, ◌+◌}
use native.Mathlib.Nat.{zero-add, suc-add}
use lib.ListN.{take, drop}
use Rattle.words.specs.Rules.{pick}
use Rattle.words.specs.Tables.{lead, lead_of, Each, Asc, only}
use Rattle.words.specs.Tests.{Falls}
use Rattle.words.proofs.Order.{each_map}
use Rattle.words.proofs.Only.{rest, each-only}

-- behind a row that is neither before a key nor like it, none is like it
abbrev pub Past : {R : Type 0} → (R → Bool) → (R → Bool) → R → R → Type 0
Past under like a b = under a ≡ false → like a ≡ false → like b ≡ false

module _ {R : Type 0} where
  none-leads : (like : R → Bool) (rs : List R) → Each (λ r. like r ≡ false) rs → lead like rs ≡ 0
  unfolding lead lead_of Each
  none-leads like [] h = refl
  none-leads like (r ∷ rs) h = rw h.0

  -- the place of a key before which every row stays
  pub lead-only : (under keep : R → Bool) → ((r : R) → under r ≡ true → keep r ≡ true) → (rs : List R) → Falls under rs → lead under (only keep rs) ≡ lead under rs
  unfolding only pick lead lead_of Falls
  lead-only under keep stays [] f = refl
  lead-only under keep stays (r ∷ rs) f = go (under r) refl (lead-only under keep stays rs f.1)
    where
      go : (b : Bool) → under r ≡ b → lead under (only keep rs) ≡ lead under rs → lead under (only keep (r ∷ rs)) ≡ lead_of b (lead under rs)
      go true e ih = rw (stays r e, e) (ap suc ih)
      go false e ih = none-leads under (only keep (r ∷ rs)) (each-only (λ s. under s ≡ false) keep (r ∷ rs) (unfold Each in (e, f.0 e)))

-- rows before a key do not go, and of the others those go that are like it
module _ {R : Type 0} (under like gone : R → Bool) (low : (r : R) → under r ≡ true → gone r ≡ false) (high : (r : R) → under r ≡ false → gone r ≡ like r) where
  -- rows of which none is before the key
  run-front : (rs : List R) → Each (λ r. under r ≡ false) rs → Asc (Past under like) rs → (only gone rs ≡ take (lead like rs) rs) × (rest gone rs ≡ drop (lead like rs) rs)
  unfolding only pick lead lead_of Each Asc
  run-front [] h a = (refl, refl)
  run-front (r ∷ rs) h a = go (like r) refl (run-front rs h.1 a.1)
    where
      go : (b : Bool) → like r ≡ b → (only gone rs ≡ take (lead like rs) rs) × (rest gone rs ≡ drop (lead like rs) rs)
          → (only gone (r ∷ rs) ≡ take (lead_of b (lead like rs)) (r ∷ rs)) × (rest gone (r ∷ rs) ≡ drop (lead_of b (lead like rs)) (r ∷ rs))
      go true e ih = rw (high r h.0, e) (ap (λ (l : List R). r ∷ l) ih.0, ih.1)
      go false e ih =
          let z : lead like rs ≡ 0 = none-leads like rs (each_map (Past under like r) (λ s. like s ≡ false) (λ s k. k h.0 e) rs a.0) in
          let i : (only gone rs ≡ []) × (rest gone rs ≡ rs) = rw z at ih in
          rw (high r h.0, e) (i.0, ap (λ (l : List R). r ∷ l) i.1)

  -- where the key's place is, and how many from there on are like it
  abbrev pub Run : List R → ℕ → ℕ → Type 0
  Run rs p k = (only gone rs ≡ take k (drop p rs)) × (rest gone rs ≡ take p rs ++ drop (p + k) rs)

  pub run : (rs : List R) → Falls under rs → Asc (Past under like) rs → Run rs (lead under rs) (lead like (drop (lead under rs) rs))
  unfolding lead lead_of Falls Asc
  run [] f a = unfold only in (refl, refl)
  run (r ∷ rs) f a = go (under r) refl (run rs f.1 a.1)
    where
      go : (b : Bool) → under r ≡ b → Run rs (lead under rs) (lead like (drop (lead under rs) rs))
          → Run (r ∷ rs) (lead_of b (lead under rs)) (lead like (drop (lead_of b (lead under rs)) (r ∷ rs)))
      go true e ih = unfold only pick in rw (low r e, suc-add) (ih.0, ap (λ (l : List R). r ∷ l) ih.1)
      go false e ih = rw zero-add (run-front (r ∷ rs) (unfold Each in (e, f.0 e)) a)
