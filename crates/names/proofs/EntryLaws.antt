-- The entry of a name is the only one, and the next entry from an index on has the least index.
-- Assumes nothing.
use mathlib.Core.Path.{◌≡◌, refl, sym, ◌∙◌}
use mathlib.Core.Bool.{Bool, true, false, true≢false}
use mathlib.Core.List.{List, [], ◌∷◌}
use mathlib.Core.Logic.{◌⊎◌, inl, inr}
use mathlib.Core.Option.{some}
use Prim.Native.Nat.{ℕ, ◌≤◌}
use native.Mathlib.Omega.{arith}
use Rattle.words.specs.Rules.{pick}
use Rattle.words.specs.Tables.{Each, Asc, find}
use Rattle.words.proofs.Order.{each_map, asc-map}
use Rattle.words.proofs.FoundRows.{found-passes}
use Rattle.words.proofs.Rules.{says-true, false-says, says_both, says-eqb, says-leb, true-says}
use Rattle.volume.specs.Rows.{Entry}
use Rattle.volume.specs.Volume.{Names}
use Rattle.volume.specs.Sound.{Named, entry_before}
use Rattle.names.specs.Entries.{has_name, entry_named, from_index, entry_from}
use Rattle.names.proofs.Entered.{says-named}

-- a row that passes a test is the first that does, or stands behind it
found_first : {R : Type 0} (t : R → Bool) (lt : R → R → Type 0) (rs : List R) (r : R) → find t rs ≡ some r → Asc lt rs → Each (λ s. t s ≡ true → (s ≡ r) ⊎ lt r s) rs
unfolding find pick Each Asc
found_first t lt [] r e a = tt
found_first {R} t lt (x ∷ rs) r e a = go (t x) refl e (λ h. found_first t lt rs r h a.1)
  where
    go : (b : Bool) → t x ≡ b → pick b (some x) (find t rs) ≡ some r → (find t rs ≡ some r → Each (λ s. t s ≡ true → (s ≡ r) ⊎ lt r s) rs) → (t x ≡ true → (x ≡ r) ⊎ lt r x) × Each (λ s. t s ≡ true → (s ≡ r) ⊎ lt r s) rs
    go true q h i =
        let k : x ≡ r = cc in
        ((λ z. inl k), each_map (lt x) (λ s. t s ≡ true → (s ≡ r) ⊎ lt r s) (λ s l z. inr (rw (← k) l)) rs a.0)
    go false q h i = ((λ z. absurd (true≢false (sym z ∙ q))), i h)

-- no other entry of the directory has the name
pub entry-only : (a : Names) → Named a → (d : ℕ) (name : List ℕ) (e : Entry) → entry_named d name a.entries ≡ some e → Each (λ f. f.parent ≡ d → f.name ≡ name → f ≡ e) a.entries
unfolding entry_named
entry-only a g d name e h =
    each_map (λ f. has_name d name f ≡ true → (f ≡ e) ⊎ (has_name d name e ≡ true → has_name d name f ≡ false)) (λ f. f.parent ≡ d → f.name ≡ name → f ≡ e)
    (λ f k p q. go f p q (k (true-says (says-named d name f) (p, q)))) a.entries
    (found_first (has_name d name) (λ x y. has_name d name x ≡ true → has_name d name y ≡ false) a.entries e h
    (asc-map (λ x y. x.parent ≡ y.parent → x.name ≡ y.name → ⊥) (λ x y. has_name d name x ≡ true → has_name d name y ≡ false) apart a.entries g.once))
  where
    apart : (x y : Entry) → (x.parent ≡ y.parent → x.name ≡ y.name → ⊥) → has_name d name x ≡ true → has_name d name y ≡ false
    apart x y n t = let p = says-true (says-named d name x) t in false-says (says-named d name y) (λ q. n (p.0 ∙ sym q.0) (p.1 ∙ sym q.1))

    go : (f : Entry) → f.parent ≡ d → f.name ≡ name → (f ≡ e) ⊎ (has_name d name e ≡ true → has_name d name f ≡ false) → f ≡ e
    go f p q (inl k) = k
    go f p q (inr k) = absurd (true≢false (sym (true-says (says-named d name f) (p, q)) ∙ k (found-passes (has_name d name) a.entries e h)))

-- every other entry of the directory at or above the index has a greater one
pub next-least : (a : Names) → Named a → (d from : ℕ) (e : Entry) → entry_from d from a.entries ≡ some e → Each (λ f. f.parent ≡ d → from ≤ f.index → e.index ≤ f.index) a.entries
unfolding entry_from
next-least a g d from e h =
    each_map (λ f. from_index d from f ≡ true → (f ≡ e) ⊎ entry_before e f) (λ f. f.parent ≡ d → from ≤ f.index → e.index ≤ f.index)
    (λ f k p q. go f p (k (true-says (says_both (says-eqb f.parent d) (says-leb from f.index)) (p, q)))) a.entries
    (found_first (from_index d from) entry_before a.entries e h g.entry_order)
  where
    its : e.parent ≡ d
    its = (says-true (says_both (says-eqb e.parent d) (says-leb from e.index)) (found-passes (from_index d from) a.entries e h)).0

    go : (f : Entry) → f.parent ≡ d → (f ≡ e) ⊎ entry_before e f → e.index ≤ f.index
    go f p (inl k) = rw k (omega arith)
    go f p (inr (inl l)) = absurd (omega (arith, its))
    go f p (inr (inr l)) = omega (arith, l.1)
