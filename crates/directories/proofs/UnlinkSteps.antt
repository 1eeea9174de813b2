-- An unlink as code takes it: the entry that a path leads to, by its place; its refusals, which leave the volume as it was; and its end.
-- Assumes nothing.
use Rattle.std.specs.Prelude.{Result, Some, None, Ok, Err}
use mathlib.Core.Path.{◌≡◌, refl, sym, ap, ◌∙◌}
use mathlib.Core.List.{List, [], ◌∷◌}
use mathlib.Core.Option.{some}
use Prim.Native.Nat.{ℕ, ◌<◌}
use native.Mathlib.Omega.{arith}
use lib.Dec.{eqb, ltb}
use lib.ListN.{length}
use borrow.Author.Tests.{le-ltb, ne_eqb}
use Rattle.words.specs.Rules.{pick}
use Rattle.types.specs.Answers.{Answer}
use Rattle.types.specs.declared.Error.{Error}
use Rattle.types.specs.declared.Error.TheVariants.{NoSuchEntry, PathNotPermitted}
use Rattle.types.specs.declared.Expected.{Expected}
use Rattle.types.specs.declared.NodeRecord.{NodeRecord}
use Rattle.paths.specs.Path.{Cutting, parts, not_permitted, too_long, cut_path}
use Rattle.volume.specs.declared.Layout.{Layout}
use Rattle.volume.specs.Rows.{Entry}
use Rattle.volume.specs.Volume.{Names, Volume, shown, laid, on_names}
use Rattle.volume.specs.Sound.{node, Good}
use Rattle.volume.specs.Steps.{NamesStep, remain, turn, name_step}
use Rattle.tables.specs.Tables.{Ready, node_at, entry_at, found_node, Found}
use Rattle.tables.proofs.TableSearch.{node-found, node-absent}
use Rattle.files.proofs.LimitSteps.{Meets}
use Rattle.names.specs.Walks.{on_cutting, walk_path}
use Rattle.names.specs.Unlinking.{unlinked, unlink_node, unlink_reached, unlink}
use Rattle.directories.specs.declared.finding.Reached.{Reached}
use Rattle.directories.specs.Reaches.{Reach, reach_parts, reach_path}
use Rattle.directories.specs.Verdicts.{verdict, Leaves, unlink_at}
use Rattle.directories.proofs.ReachedPlace.{path_inside}
use Rattle.directories.proofs.Reaching.{walk_shown}
use Rattle.directories.proofs.ReachedDirectory.{parts-show}
use Rattle.directories.proofs.Judging.{step_by, verdict-step, verdict-empty}

-- a step of the names, lifted to a volume
meets-names : {x : List ℕ} (v : Volume) (s t : NamesStep) → x ≡ laid (on_names (λ _. s.after) v) → s ≡ t → Meets s.answer x (name_step (λ _. t) v)
meets-names v s t h e = (ap (λ o. o.answer) e, h ∙ ap (λ o. laid (on_names (λ _. o.after) v)) e)

-- a refusal leaves the volume as it was
refusal : {l : List ℕ} → laid (shown l) ≡ l → (call : Names → NamesStep) (x : Error) → remain x (shown l).names ≡ call (shown l).names → Meets (Err x) l (name_step call (shown l))
refusal {l} same call x h = meets-names (shown l) (remain x (shown l).names) _ (sym same) h

-- ---- the entry at a place

module _ (l : List ℕ) (y : Layout) (ready : Ready l y) (g : Good (shown l)) (p : ℕ) (inside : p < length (shown l).names.entries) (want : Expected) (opens : ℕ) where
  abbrev a : Names
  a = (shown l).names

  abbrev e : Entry
  e = entry_at a.entries p

  abbrev Ends : Answer → List ℕ → Type 0
  Ends r x = Meets r x (name_step (unlink_at p want opens) (shown l))

  module _ {n : ℕ} (q : n ≡ e.node) where
    pub row-missing : {r : Found} → r ≡ None → r ≡ found_node n a.nodes → Ends (Err NoSuchEntry) l
    unfolding unlink_at unlink_node node
    row-missing k h = refusal ready.formed.same (unlink_at p want opens) NoSuchEntry (rw (node-absent e.node a.nodes g.named.node_order (rw q at (sym k ∙ h))) refl)

    module _ {at : ℕ} {r : Found} (k : r ≡ Some at) (h : r ≡ found_node n a.nodes) where
      here : Some at ≡ found_node e.node a.nodes
      here = rw q at (sym k ∙ h)

      -- what `node_row` asks
      pub row-asked : at < length a.nodes
      row-asked = (node-found e.node a.nodes at here).0

      module _ {d : NodeRecord} (s : d ≡ node_at a.nodes at) {v : Result (Unit {0}) Error} (j : v ≡ verdict want opens d) where
        onward : step_by a e v ≡ unlink_at p want opens a
        unfolding unlink_at node
        onward = ap (step_by a e) j ∙ verdict-step want opens d a e ∙ ap (unlink_node want opens a e) (ap (λ (x : NodeRecord). some x) s ∙ sym (node-found e.node a.nodes at here).1)

      module _ {d : NodeRecord} (s : d ≡ node_at a.nodes at) where
        pub entry-stays : {x : Error} → Err x ≡ verdict want opens d → Ends (Err x) l
        entry-stays {x} j = refusal ready.formed.same (unlink_at p want opens) x (onward s j)

        module _ {u : Unit {0}} (j : Ok u ≡ verdict want opens d) where
          -- what `take_entry` asks
          pub take-asked : Ready l y × Good (shown l) × Leaves a p (record { place = at; row = d })
          take-asked = (ready, g, record { place = inside; found = here; here = s; empty = verdict-empty want opens d j })

          pub entry-goes : {o : List ℕ} → o ≡ laid (on_names (unlinked e) (shown l)) → Ends (Ok n) o
          entry-goes i = rw q (meets-names (shown l) (turn e.node (unlinked e a)) _ i (onward s j))

-- ---- the ends of the call

module _ (start : ℕ) (path : List ℕ) (want : Expected) (opens : ℕ) (l : List ℕ) (y : Layout) (ready : Ready l y) (g : Good (shown l)) where
  abbrev Ended : Answer → List ℕ → Type 0
  Ended r x = Meets r x (name_step (unlink start path want opens) (shown l))

  -- what unlink does, by where the path leads
  abbrev step_of : Reach → NamesStep
  step_of (Ok m) = unlink_at m.place want opens (shown l).names
  step_of (Err x) = remain x (shown l).names

  parts-step : (q : List ℕ) (qs : List (List ℕ)) → step_of (reach_parts start path (shown l).names (q ∷ qs)) ≡ unlink_reached want opens (shown l).names (walk_path start path (shown l).names (q ∷ qs))
  parts-step q qs = go (reach_parts start path (shown l).names (q ∷ qs)) ∙ ap (unlink_reached want opens (shown l).names) (sym (parts-show start path (shown l).names g.named (q ∷ qs)))
    where
      go : (r : Reach) → step_of r ≡ unlink_reached want opens (shown l).names (walk_shown (shown l).names.entries (length (q ∷ qs)) r)
      go (Ok m) = unfold unlink_reached walk_shown unlink_at in refl
      go (Err x) = unfold unlink_reached walk_shown in refl

  path-steps : step_of (reach_path start path 1 (shown l).names) ≡ unlink start path want opens (shown l).names
  unfolding unlink reach_path on_cutting pick
  path-steps = go (cut_path path)
    where
      go : (c : Cutting) → step_of (on_cutting Err (λ ps. pick (ltb (length ps) 1) (Err PathNotPermitted) (reach_parts start path (shown l).names ps)) c)
          ≡ on_cutting (λ e. remain e (shown l).names) (λ ps. pick (eqb (length ps) 0) (remain PathNotPermitted (shown l).names) (unlink_reached want opens (shown l).names (walk_path start path (shown l).names ps))) c
      go (parts []) = refl
      go (parts (q ∷ qs)) = rw (le-ltb (length (q ∷ qs)) 1 (omega arith), ne_eqb (length (q ∷ qs)) 0 (λ e. omega arith)) (parts-step q qs)
      go not_permitted = refl
      go too_long = refl

  pub unlink-stopped : {x : Error} → Err x ≡ reach_path start path 1 (shown l).names → Ended (Err x) l
  unlink-stopped {x} h = refusal ready.formed.same (unlink start path want opens) x (ap step_of h ∙ path-steps)

  module _ {m : Reached} (h : Ok m ≡ reach_path start path 1 (shown l).names) where
    -- what `unlink_at` asks
    pub at-asked : Ready l y × Good (shown l) × (m.place < length (shown l).names.entries)
    at-asked = (ready, g, path_inside start (shown l).names g.named.entry_order path 1 (omega arith) h)

    entry-reached : unlink_at m.place want opens (shown l).names ≡ unlink start path want opens (shown l).names
    entry-reached = ap step_of h ∙ path-steps

    pub unlink-ends : {x : Answer} {o : List ℕ} → Meets x o (name_step (unlink_at m.place want opens) (shown l)) → Ended x o
    unlink-ends i = (i.0 ∙ ap (λ s. s.answer) entry-reached, i.1 ∙ ap (λ s. laid (on_names (λ _. s.after) (shown l))) entry-reached)
