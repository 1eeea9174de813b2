-- What the call of a search gives, by what code finds: the directory, whether the name is allowed, and where the search ends.
-- Assumes nothing.
use Rattle.std.specs.Prelude.{Ok, Err}
use mathlib.Core.Path.{◌≡◌, refl, sym, ap, ◌∙◌}
use mathlib.Core.Bool.{Bool, true, false}
use mathlib.Core.List.{List}
use Prim.Native.Nat.{ℕ}
use Rattle.words.proofs.Rules.{pick_true, pick-false}
use Rattle.types.specs.declared.Error.{Error}
use Rattle.types.specs.declared.Error.TheVariants.{BadName}
use Rattle.types.specs.declared.Search.{Search}
use Rattle.paths.specs.Path.{name_allowed}
use Rattle.volume.specs.Volume.{Names}
use Rattle.names.specs.Searching.{entries_from, looked_through, search}
use Rattle.directories.specs.Searches.{directory_there}
use Rattle.directories.proofs.EntrySearch.{directory-refused, directory-goes-on}

module _ (d : ℕ) (name : List ℕ) (from most : ℕ) (a : Names) where
  pub search-refused : {e : Error} → Err e ≡ directory_there d a → Err e ≡ search d name from most a
  unfolding search
  search-refused h = directory-refused d a Err _ h

  module _ {u : Unit {0}} (h : Ok u ≡ directory_there d a) {b : Bool} (q : b ≡ name_allowed name) where
    pub search-bad : b ≡ false → Err BadName ≡ search d name from most a
    unfolding search
    search-bad e = directory-goes-on d a Err _ h (pick-false _ _ _ _ (sym q ∙ e) refl)

    pub search-through : b ≡ true → {s : Search} → s ≡ looked_through name most (entries_from d from a.entries) → Ok s ≡ search d name from most a
    unfolding search
    search-through e k = directory-goes-on d a Err _ h (pick_true _ _ _ _ (sym q ∙ e) (ap Ok k))
