-- The row of a directory that takes a name, found: what it is, and that a call goes on with it; what a call gives where there is none.
-- Assumes nothing.
use Rattle.std.specs.Prelude.{Result, Some, None, Ok, Err}
use mathlib.Core.Path.{◌≡◌, refl, sym, ◌∙◌, subst}
use mathlib.Core.Bool.{Bool, true, false}
use mathlib.Core.List.{List}
use mathlib.Core.Option.{some}
use Prim.Native.Nat.{ℕ, ◌<◌}
use native.Mathlib.Omega.{arith}
use lib.Dec.{eqb}
use lib.ListN.{length}
use borrow.Author.Tests.{eq-eqb, ne_eqb}
use Rattle.words.specs.Rules.{pick, Says, holds, fails}
use Rattle.words.specs.Tables.{Asc}
use Rattle.words.proofs.Rules.{true-says, says-eqb, pick_true, pick-false}
use Rattle.types.specs.Nodes.{is_directory}
use Rattle.types.specs.declared.Error.{Error}
use Rattle.types.specs.declared.Error.TheVariants.{NoSuchEntry, NotDirectory, BadName}
use Rattle.types.specs.declared.FileType.TheVariants.{Directory}
use Rattle.types.specs.declared.NodeRecord.{NodeRecord}
use Rattle.types.proofs.Nodes.{says-directory}
use Rattle.paths.specs.Path.{name_allowed}
use Rattle.volume.specs.Volume.{Names}
use Rattle.volume.specs.Sound.{node, node_before}
use Rattle.tables.specs.Tables.{node_at, found_node, Found}
use Rattle.tables.proofs.NodeRows.{node-is}
use Rattle.tables.proofs.TableSearch.{node-found, node-absent}
use Rattle.files.specs.declared.files.RowAt.{RowAt}
use Rattle.names.specs.Entering.{on_parent_row, on_parent}
use Rattle.directories.specs.Spots.{parent_at, parent_found, IsParent}

-- ---- the ends of the search

module _ (p : ℕ) (name : List ℕ) (rs : List NodeRecord) where
  pub parent-missing : {r : Found} → r ≡ None → r ≡ found_node p rs → Err NoSuchEntry ≡ parent_found p name rs
  unfolding parent_found parent_at
  parent-missing k h = rw (← (sym k ∙ h)) refl

  module _ {r : Found} {i : ℕ} (k : r ≡ Some i) (h : r ≡ found_node p rs) where
    pub parent-there : i < length rs
    parent-there = (node-found p rs i (sym k ∙ h)).0

    module _ {d : NodeRecord} (q : d ≡ node_at rs i) where
      pub parent-unlinked : d.links ≡ 0 → Err NoSuchEntry ≡ parent_found p name rs
      unfolding parent_found parent_at
      parent-unlinked l = rw (← (sym k ∙ h)) (pick_true _ _ _ _ (rw (← q) (eq-eqb _ _ l)) refl)

      module _ (l : d.links ≡ 0 → ⊥) {b : Bool} (t : b ≡ is_directory d.kind) where
        pub parent-file : b ≡ false → Err NotDirectory ≡ parent_found p name rs
        unfolding parent_found parent_at
        parent-file e = rw (← (sym k ∙ h)) (pick-false _ _ _ _ (rw (← q) (ne_eqb _ _ l)) (pick-false _ _ _ _ (rw (← q) (sym t ∙ e)) refl))

        module _ (e : b ≡ true) {c : Bool} (n : c ≡ name_allowed name) where
          pub parent-misnamed : c ≡ false → Err BadName ≡ parent_found p name rs
          unfolding parent_found parent_at
          parent-misnamed z = rw (← (sym k ∙ h)) (pick-false _ _ _ _ (rw (← q) (ne_eqb _ _ l)) (pick_true _ _ _ _ (rw (← q) (sym t ∙ e)) (pick-false _ _ _ _ (sym n ∙ z) refl)))

          pub parent-at : c ≡ true → Ok (record { place = i; row = d }) ≡ parent_found p name rs
          unfolding parent_found parent_at
          parent-at z = rw (← (sym k ∙ h)) (pick-false _ _ _ _ (rw (← q) (ne_eqb _ _ l)) (pick_true _ _ _ _ (rw (← q) (sym t ∙ e)) (pick_true _ _ _ _ (sym n ∙ z) (rw q))))

-- ---- what was found

-- a search ends with the row of a parent, for an allowed name, or with the refusal that a call gives
data FoundParent (X : Type 0) (p : ℕ) (name : List ℕ) (a : Names) (refuse : Error → X) (call : X) : Result RowAt Error → Type 0 where
  at_row : (d : RowAt) → IsParent p a d → name_allowed name ≡ true → FoundParent X p name a refuse call (Ok d)
  at_none : (e : Error) → refuse e ≡ on_parent p name a refuse call → FoundParent X p name a refuse call (Err e)

found-parent : {X : Type 0} (p : ℕ) (name : List ℕ) (a : Names) (refuse : Error → X) (call : X) → Asc node_before a.nodes → FoundParent X p name a refuse call (parent_found p name a.nodes)
unfolding parent_found parent_at node on_parent on_parent_row pick
found-parent {X} p name a refuse call asc = go (found_node p a.nodes) refl
  where
    row : (j : ℕ) → Some j ≡ found_node p a.nodes → (d : NodeRecord) → d ≡ node_at a.nodes j → node p a ≡ some d → (u : Bool) → Says (d.links ≡ 0) u → (k : Bool) → Says (d.kind ≡ Directory) k → (b : Bool) → name_allowed name ≡ b
        → ((e : Error) → refuse e ≡ pick u (refuse NoSuchEntry) (pick k (pick b call (refuse BadName)) (refuse NotDirectory)) → refuse e ≡ on_parent p name a refuse call)
        → FoundParent X p name a refuse call (pick u (Err NoSuchEntry) (pick k (pick b (Ok (record { place = j; row = d })) (Err BadName)) (Err NotDirectory)))
    row j f d q e true s k t b n up = at_none NoSuchEntry (up NoSuchEntry refl)
    row j f d q e false s false t b n up = at_none NotDirectory (up NotDirectory refl)
    row j f d q e false s true t false n up = at_none BadName (up BadName refl)
    row j f d q e false (fails s) true (holds t) true n up =
        at_row (record { place = j; row = d }) (record { found = f; here = q; number = node-is p a d e; linked = record { row = e; kind = t; links = omega arith } }) n

    go : (o : Found) → o ≡ found_node p a.nodes → FoundParent X p name a refuse call (parent_at name a.nodes o)
    go None f = at_none NoSuchEntry (rw (node-absent p a.nodes asc f) refl)
    go (Some j) f =
        let d = node_at a.nodes j in
        let e = (node-found p a.nodes j f).1 in
        row j f d refl e (eqb d.links 0) (says-eqb d.links 0) (is_directory d.kind) (says-directory d.kind) (name_allowed name) refl (λ x h. h ∙ rw e refl)

module _ (p : ℕ) (name : List ℕ) (a : Names) (asc : Asc node_before a.nodes) where
  -- the row found is the parent's, and the name is allowed
  pub parent-found : {d : RowAt} → Ok d ≡ parent_found p name a.nodes → IsParent p a d × (name_allowed name ≡ true)
  parent-found {d} h = go (parent_found p name a.nodes) (found-parent p name a (λ e. e) NoSuchEntry asc) h
    where
      go : (o : Result RowAt Error) → FoundParent Error p name a (λ e. e) NoSuchEntry o → Ok d ≡ o → IsParent p a d × (name_allowed name ≡ true)
      go o (at_row c i n) z = let s : c ≡ d = cc in (subst (IsParent p a) s i, n)
      go o (at_none e i) z = absurd cc

  module _ {X : Type 0} (refuse : Error → X) (call : X) where
    -- a call goes on
    pub parent-goes-on : {d : RowAt} → IsParent p a d → name_allowed name ≡ true → call ≡ on_parent p name a refuse call
    unfolding on_parent on_parent_row
    parent-goes-on {d} i n =
        rw i.linked.row (pick-false _ _ _ _ (ne_eqb d.row.links 0 (λ z. omega (arith, i.linked.links))) (pick_true _ _ _ _ (true-says (says-directory d.row.kind) i.linked.kind) (pick_true _ _ _ _ n refl)))

    -- none found: it gives its refusal
    pub parent-refused : {e : Error} → Err e ≡ parent_found p name a.nodes → refuse e ≡ on_parent p name a refuse call
    parent-refused {e} h = go (parent_found p name a.nodes) (found-parent p name a refuse call asc) h
      where
        go : (o : Result RowAt Error) → FoundParent X p name a refuse call o → Err e ≡ o → refuse e ≡ on_parent p name a refuse call
        go o (at_row c i n) z = absurd cc
        go o (at_none x i) z = let s : e ≡ x = cc in rw s i
