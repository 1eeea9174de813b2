-- Names after an unlink: the others lead where they led, and the one taken out leads nowhere. And which entry an accepted unlink takes.
-- Assumes nothing.
use Rattle.std.specs.Prelude.{Ok}
use mathlib.Core.Path.{◌≡◌, refl, sym, ap, ◌∙◌}
use mathlib.Core.Bool.{false}
use mathlib.Core.List.{List, ◌∷◌, ◌++◌}
use mathlib.Core.Option.{none}
use Prim.Native.Nat.{ℕ}
use Rattle.words.specs.Tables.{Each, Asc, find}
use Rattle.words.proofs.Rules.{false-says}
use Rattle.words.proofs.Order.{each_append, each_map}
use Rattle.words.proofs.Search.{find_none}
use Rattle.words.proofs.Middle.{Alone, alone, asc-before, asc-behind, find-passed}
use Rattle.types.specs.declared.Expected.{Expected}
use Rattle.volume.specs.Rows.{Entry}
use Rattle.volume.specs.Volume.{Names}
use Rattle.volume.specs.Sound.{Named}
use Rattle.volume.specs.Steps.{NamesStep}
use Rattle.names.specs.Entries.{has_name, entry_named}
use Rattle.names.specs.Unlinking.{is_entry, without, unlinked, unlink}
use Rattle.names.proofs.Entered.{says-named}
use Rattle.names.proofs.EntryKeys.{entry-once}
use Rattle.names.proofs.Unlinked.{InPlace, Unlinkable, Leads, Unlinks, refuses, unlinks, unlink-cases}

-- ---- names looked up

module _ (a : Names) (g : Named a) (e : Entry) (there : InPlace a e) where
  -- the entry stands once among the rows
  once : Alone (is_entry e.parent e.index) a.entries e
  once = alone (is_entry e.parent e.index) a.entries e there (entry-once a.entries g.entry_order e.parent e.index)

  -- another name leads where it led
  pub named-without : (d : ℕ) (name : List ℕ) → ((e.parent ≡ d) × (e.name ≡ name) → ⊥) → entry_named d name (without e a.entries) ≡ entry_named d name a.entries
  unfolding entry_named without
  named-without d name h =
      ap (find (has_name d name)) once.gone ∙ sym (find-passed (has_name d name) e once.before once.behind (false-says (says-named d name e) h)) ∙ ap (find (has_name d name)) (sym once.whole)

  -- no other row has its name, before it or behind
  others-differ : Each (λ f. has_name e.parent e.name f ≡ false) (once.before ++ once.behind)
  others-differ = each_append (λ f. has_name e.parent e.name f ≡ false) once.before once.behind earlier later
    where
      apart : Asc (λ x y. x.parent ≡ y.parent → x.name ≡ y.name → ⊥) (once.before ++ (e ∷ once.behind))
      apart = rw once.whole at g.once

      earlier : Each (λ f. has_name e.parent e.name f ≡ false) once.before
      earlier = each_map _ _ (λ f h. false-says (says-named e.parent e.name f) (λ q. h q.0 q.1)) once.before (asc-before _ e once.before once.behind apart)

      later : Each (λ f. has_name e.parent e.name f ≡ false) once.behind
      later = each_map _ _ (λ f h. false-says (says-named e.parent e.name f) (λ q. h (sym q.0) (sym q.1))) once.behind (asc-behind _ e once.before once.behind apart)

  -- so its own leads nowhere
  pub named-gone : entry_named e.parent e.name (without e a.entries) ≡ none
  unfolding entry_named without
  named-gone = ap (find (has_name e.parent e.name)) once.gone ∙ find_none (has_name e.parent e.name) (once.before ++ once.behind) others-differ

-- ---- the entry that goes

-- the path leads to it, it can go, and it is what the names are without
pub record Takes (start : ℕ) (path : List ℕ) (a : Names) (after : Names) : Type 0 where
  pub entry : Entry
  pub leads : Leads start path a entry
  pub can : Unlinkable a entry
  pub gone : after ≡ unlinked entry a

-- an accepted unlink takes the entry that its path leads to
pub unlink-leads : (start : ℕ) (path : List ℕ) (want : Expected) (opens : ℕ) (a : Names) → Named a → (k : ℕ) → (unlink start path want opens a).answer ≡ Ok k → Takes start path a (unlink start path want opens a).after
unlink-leads start path want opens a g k = go (unlink start path want opens a) (unlink-cases start path want opens a g)
  where
    go : (s : NamesStep) → Unlinks start path a s → s.answer ≡ Ok k → Takes start path a s.after
    go s (refuses d) q = absurd cc
    go s (unlinks e l u) q = record { entry = e; leads = l; can = u; gone = refl }
