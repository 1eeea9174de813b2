-- Where a path leads: where its parts lead, unless it means a directory and they lead to a regular file.
-- Assumes nothing.
use mathlib.Core.Path.{◌≡◌, refl, ap, ◌∙◌}
use mathlib.Core.Bool.{Bool, true, false}
use mathlib.Core.List.{List, []}
use mathlib.Core.Option.{Option, none, some}
use Prim.Native.Nat.{ℕ, ◌<◌}
use lib.Dec.{ltb}
use lib.ListN.{length}
use borrow.Author.Tests.{lt-ltb}
use Rattle.words.specs.Rules.{pick, both}
use Rattle.types.specs.declared.Error.{Error}
use Rattle.types.specs.declared.Error.TheVariants.{NoSuchEntry, NotDirectory}
use Rattle.types.specs.declared.NodeRecord.{NodeRecord}
use Rattle.paths.specs.Path.{ends_open}
use Rattle.volume.specs.Rows.{Entry}
use Rattle.volume.specs.Volume.{Names}
use Rattle.volume.specs.Sound.{node}
use Rattle.names.specs.Walks.{Walk, reached, stopped, walk_from, means_directory, passes_as_directory, on_passing, as_directory, walk_path}

-- ---- a path that does not mean a directory

-- it ends in a name
pub path-named : (start : ℕ) (path : List ℕ) (a : Names) (ps : List (List ℕ)) → ends_open path ≡ false → walk_path start path a ps ≡ walk_from start a ps
unfolding walk_path means_directory both pick
path-named start path a ps h = rw h refl

-- or has no part left
pub path-partless : (start : ℕ) (path : List ℕ) (a : Names) → walk_path start path a [] ≡ walk_from start a []
unfolding walk_path means_directory both pick
path-partless start path a = go (ends_open path)
  where
    go : (b : Bool) → pick (both b (ltb 0 0)) (as_directory a (walk_from start a [])) (walk_from start a []) ≡ walk_from start a []
    go true = refl
    go false = refl

-- ---- one that does

-- what is made of such a choice is the choice between what is made of either
pub passing-map : {A B : Type 0} (f : A → B) (refuse : Error → A) (other : Error → B) (there : A) → ((e : Error) → f (refuse e) ≡ other e) → (o : Option NodeRecord)
    → f (on_passing refuse there o) ≡ on_passing other (f there) o
unfolding on_passing pick
passing-map f refuse other there h none = h NoSuchEntry
passing-map f refuse other there h (some r) = go (passes_as_directory r.kind)
  where
    go : (b : Bool) → f (pick b there (refuse NotDirectory)) ≡ pick b (f there) (other NotDirectory)
    go true = refl
    go false = h NotDirectory

-- and what it comes to, if not to a refusal, is what was there
pub passing-is : {A : Type 0} (refuse : Error → A) (there x : A) → ((e : Error) → refuse e ≡ x → ⊥) → (o : Option NodeRecord) → on_passing refuse there o ≡ x → there ≡ x
unfolding on_passing pick
passing-is refuse there x h none q = absurd (h NoSuchEntry q)
passing-is refuse there x h (some r) q = go (passes_as_directory r.kind) q
  where
    go : (b : Bool) → pick b there (refuse NotDirectory) ≡ x → there ≡ x
    go true z = z
    go false z = absurd (h NotDirectory z)

module _ (start : ℕ) (path : List ℕ) (a : Names) (ps : List (List ℕ)) where
  -- a walk that was refused stays so, by its own number
  pub path-stopped : {e : Error} → walk_from start a ps ≡ stopped e → walk_path start path a ps ≡ stopped e
  unfolding walk_path as_directory pick
  path-stopped {e} h = rw h (go (means_directory path ps))
    where
      go : (b : Bool) → pick b (stopped e) (stopped e) ≡ stopped e
      go true = refl
      go false = refl

  module _ (opened : ends_open path ≡ true) (left : 0 < length ps) where
    means : means_directory path ps ≡ true
    unfolding means_directory both
    means = rw (opened, lt-ltb 0 (length ps) left) refl

    -- its walk is judged
    pub path-meant : walk_path start path a ps ≡ as_directory a (walk_from start a ps)
    unfolding walk_path pick
    path-meant = rw means refl

    -- by the row of the node that it came to
    pub path-judged : {n : ℕ} {o : Option Entry} → walk_from start a ps ≡ reached n o → walk_path start path a ps ≡ on_passing stopped (reached n o) (node n a)
    unfolding as_directory
    path-judged h = path-meant ∙ ap (as_directory a) h

-- what a path reaches its parts reach
pub path-reached : (start : ℕ) (path : List ℕ) (a : Names) (ps : List (List ℕ)) {n : ℕ} {o : Option Entry} → walk_path start path a ps ≡ reached n o → walk_from start a ps ≡ reached n o
unfolding walk_path as_directory pick
path-reached start path a ps {n} {o} = go (means_directory path ps)
  where
    refusal : (e : Error) → stopped e ≡ reached n o → ⊥
    refusal e q = cc

    judged : (w : Walk) → as_directory a w ≡ reached n o → w ≡ reached n o
    judged (reached m l) q = passing-is stopped (reached m l) (reached n o) refusal (node m a) q
    judged (stopped e) q = q

    go : (b : Bool) → pick b (as_directory a (walk_from start a ps)) (walk_from start a ps) ≡ reached n o → walk_from start a ps ≡ reached n o
    go true q = judged (walk_from start a ps) q
    go false q = q
