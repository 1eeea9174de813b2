-- What create and link ask of a parent and a new name: a call is refused, or the name can be entered.
-- Assumes nothing.
use mathlib.Core.Path.{◌≡◌, refl}
use mathlib.Core.Bool.{Bool, true, false}
use mathlib.Core.List.{List}
use mathlib.Core.Option.{Option, none, some}
use Prim.Native.Nat.{ℕ}
use native.Mathlib.Omega.{arith}
use lib.Dec.{eqb}
use Rattle.words.specs.Rules.{pick, Says, holds, fails}
use Rattle.words.proofs.Rules.{says-eqb}
use Rattle.types.specs.Nodes.{is_directory}
use Rattle.types.specs.declared.Error.{Error}
use Rattle.types.specs.declared.Error.TheVariants.{NoSuchEntry, NotDirectory, NoRowRoom, BadName, NameExists, NoIndexLeft}
use Rattle.types.specs.declared.FileType.TheVariants.{Directory}
use Rattle.types.specs.declared.NodeRecord.{NodeRecord}
use Rattle.types.proofs.Nodes.{says-directory}
use Rattle.paths.specs.Path.{name_allowed}
use Rattle.volume.specs.Rows.{Entry}
use Rattle.volume.specs.Volume.{Names}
use Rattle.volume.specs.Sound.{node}
use Rattle.volume.specs.Steps.{NamesStep, remain}
use Rattle.names.specs.Enterable.{LinkedParent}
use Rattle.names.specs.Entries.{entry_named, greatest, on_entry}
use Rattle.names.specs.Entering.{most_index, on_parent_row, on_parent, where_new}

-- ---- the parent and the name

pub data OnParent (X : Type 0) (p : ℕ) (name : List ℕ) (a : Names) (refuse : Error → X) (call : X) : X → Type 0 where
  no-parent : (e : Error) → OnParent X p name a refuse call (refuse e)
  has-parent : (r : NodeRecord) → LinkedParent p a r → name_allowed name ≡ true → OnParent X p name a refuse call call

pub on-parent : {X : Type 0} (p : ℕ) (name : List ℕ) (a : Names) (refuse : Error → X) (call : X) → OnParent X p name a refuse call (on_parent p name a refuse call)
unfolding on_parent on_parent_row pick
on-parent {X} p name a refuse call = go (node p a) refl
  where
    row : (r : NodeRecord) → node p a ≡ some r → (u : Bool) → Says (r.links ≡ 0) u → (d : Bool) → Says (r.kind ≡ Directory) d → (b : Bool) → name_allowed name ≡ b
        → OnParent X p name a refuse call (pick u (refuse NoSuchEntry) (pick d (pick b call (refuse BadName)) (refuse NotDirectory)))
    row r e true u d s b q = no-parent NoSuchEntry
    row r e false u false s b q = no-parent NotDirectory
    row r e false u true s false q = no-parent BadName
    row r e false (fails u) true (holds s) true q = has-parent r (record { row = e; kind = s; links = omega arith }) q

    go : (o : Option NodeRecord) → node p a ≡ o → OnParent X p name a refuse call (on_parent_row name refuse call o)
    go none e = no-parent NoSuchEntry
    go (some r) e = row r e (eqb r.links 0) (says-eqb r.links 0) (is_directory r.kind) (says-directory r.kind) (name_allowed name) refl

-- ---- a new name, where not everything is full

pub data WhereNew (p : ℕ) (name : List ℕ) (full : Bool) (a : Names) (call : NamesStep) : NamesStep → Type 0 where
  no_place : (e : Error) → WhereNew p name full a call (remain e a)
  has-place : entry_named p name a.entries ≡ none → full ≡ false → (greatest p a.entries ≡ most_index → ⊥) → WhereNew p name full a call call

pub where-new : (p : ℕ) (name : List ℕ) (full : Bool) (a : Names) (call : NamesStep) → WhereNew p name full a call (where_new p name full a call)
unfolding where_new on_entry pick
where-new p name full a call = go (entry_named p name a.entries) refl
  where
    free : entry_named p name a.entries ≡ none → (f : Bool) → full ≡ f → (b : Bool) → Says (greatest p a.entries ≡ most_index) b
        → WhereNew p name full a call (pick f (remain NoRowRoom a) (pick b (remain NoIndexLeft a) call))
    free e true q b s = no_place NoRowRoom
    free e false q true s = no_place NoIndexLeft
    free e false q false (fails s) = has-place e q s

    go : (o : Option Entry) → entry_named p name a.entries ≡ o → WhereNew p name full a call (on_entry (pick full (remain NoRowRoom a) (pick (eqb (greatest p a.entries) most_index) (remain NoIndexLeft a) call)) (λ x. remain NameExists a) o)
    go none e = free e full refl (eqb (greatest p a.entries) most_index) (says-eqb (greatest p a.entries) most_index)
    go (some x) e = no_place NameExists
