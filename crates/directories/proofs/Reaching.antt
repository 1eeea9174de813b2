-- Parts looked up one by one, as code does it: each turn, the ends, and that they lead where the definition says.
-- Assumes nothing.
use Rattle.std.specs.Prelude.{Some, None, Ok, Err, is_some}
use mathlib.Core.Path.{◌≡◌, refl, sym, ◌∙◌}
use mathlib.Core.Bool.{Bool, true, false}
use mathlib.Core.List.{List, [], ◌∷◌}
use mathlib.Core.Option.{Option, none, some}
use Prim.Native.Nat.{ℕ, zero, suc, ◌+◌, ◌-◌, ◌≤◌, ◌<◌}
use native.Mathlib.Omega.{arith}
use lib.Dec.{eqb, ltb}
use lib.ListN.{length, take, drop, get_or}
use borrow.Author.Tests.{lt-ltb, le-ltb}
use Rattle.words.specs.Bytes.{part}
use Rattle.words.specs.Rules.{pick}
use Rattle.words.specs.Tables.{Asc, find}
use Rattle.words.proofs.Rules.{pick_true, pick-false}
use Rattle.types.specs.Sizes.{most_name}
use Rattle.types.specs.declared.Error.{Error}
use Rattle.types.specs.declared.Error.TheVariants.{NoSuchEntry, BadName}
use Rattle.volume.specs.Rows.{Entry}
use Rattle.volume.specs.Volume.{Names}
use Rattle.volume.specs.Sound.{node, node_before, entry_before}
use Rattle.tables.specs.Tables.{entry_at, found_node, Found}
use Rattle.tables.proofs.TableSearch.{node-found, node-absent}
use Rattle.names.specs.Entries.{entry_named, on_entry}
use Rattle.names.specs.Walks.{Walk, reached, stopped, walk_parts, on_start, walk_from}
use Rattle.directories.specs.declared.finding.Reached.{Reached}
use Rattle.directories.specs.Searches.{entry_found}
use Rattle.directories.specs.Reaches.{Reach, reached_by, begun, reach, reach_next, reach_all, reach_of, reach_from}
use Rattle.directories.proofs.NamedEntry.{entry_found_lem, entry-missing}
use Rattle.paths.specs.Shown.{shown_from, shown_parts}

-- ---- one part

module _ (es : List Entry) (n : ℕ) (p : List ℕ) where
  pub reach-long : most_name < length p → Err BadName ≡ reach es n p
  unfolding reach
  reach-long h = pick_true _ _ _ _ (lt-ltb most_name (length p) h) refl

  module _ (h : length p ≤ most_name) where
    pub reach-none : {r : Found} → r ≡ None → r ≡ entry_found n p es → Err NoSuchEntry ≡ reach es n p
    unfolding reach reached_by
    reach-none k e = pick-false _ _ _ _ (le-ltb most_name (length p) h) (rw (← (sym k ∙ e)) refl)

    pub reach-at : {q m : ℕ} → Some q ≡ entry_found n p es → m ≡ (entry_at es q).node → Ok (record { node = m; place = q }) ≡ reach es n p
    unfolding reach reached_by
    reach-at e i = pick-false _ _ _ _ (le-ltb most_name (length p) h) (rw (← e, i) refl)

-- a part that is lent
pub part-lent : (l : List ℕ) {b m : ℕ} (a n : ℕ) → a ≡ b → n ≡ m → take (a + n - a) (drop a l) ≡ part l b m
unfolding part
part-lent l a n p q = let k : a + n - a ≡ n = omega arith in rw (k, p, q)

-- ---- all of them

pub stops : (es : List Entry) (e : Error) (ps : List (List ℕ)) → reach_all es (Err e) ps ≡ Err e
unfolding reach_all reach_next
stops es e [] = refl
stops es e (p ∷ ps) = stops es e ps

-- a turn: the part that stands next is looked up
module _ (es : List Entry) (path ss ls : List ℕ) (count i : ℕ) (h : i < count) (now : Reached) where
  more : shown_from path ss ls i (count - i) ≡ part path (get_or ss i 0) (get_or ls i 0) ∷ shown_from path ss ls (i + 1) (count - (i + 1))
  more = let k : count - i ≡ suc (count - (i + 1)) = omega arith in rw k (unfold shown_from in refl)

  pub reach-turn : {all r : Reach} → reach_all es (Ok now) (shown_from path ss ls i (count - i)) ≡ all → r ≡ reach es now.node (part path (get_or ss i 0) (get_or ls i 0))
      → reach_all es r (shown_from path ss ls (i + 1) (count - (i + 1))) ≡ all
  unfolding reach_all reach_next
  reach-turn e s = rw s (rw more at e)

  pub reach-stop : {all : Reach} {x : Error} → reach_all es (Ok now) (shown_from path ss ls i (count - i)) ≡ all → Err x ≡ reach es now.node (part path (get_or ss i 0) (get_or ls i 0)) → Err x ≡ all
  reach-stop {all} {x} e s = sym (stops es x (shown_from path ss ls (i + 1) (count - (i + 1)))) ∙ reach-turn e s

-- none is left
pub reach-end : (es : List Entry) (path ss ls : List ℕ) (count i : ℕ) → count ≤ i → {r all : Reach} → reach_all es r (shown_from path ss ls i (count - i)) ≡ all → r ≡ all
unfolding reach_all shown_from
reach-end es path ss ls count i h {r} {all} e =
    let k : count - i ≡ 0 = omega arith in
    rw k at e

-- ---- from a start that has a row

module _ (start : ℕ) (a : Names) where
  pub start-missing : (r : Found) → is_some r ≡ false → r ≡ found_node start a.nodes → (ps : List (List ℕ)) → Err NoSuchEntry ≡ reach_from start a ps
  unfolding reach_from reach_of
  start-missing (Some i) t e ps = absurd cc
  start-missing None t e ps = rw (← e) refl

  pub start-there : (r : Found) → is_some r ≡ true → r ≡ found_node start a.nodes → (ps : List (List ℕ)) → reach_all a.entries (begun start) ps ≡ reach_from start a ps
  unfolding reach_from reach_of
  start-there (Some i) t e ps = rw (← e) refl
  start-there None t e ps = absurd cc

  pub reach-start : (path ss ls : List ℕ) (count : ℕ) {r : Found} → is_some r ≡ true → r ≡ found_node start a.nodes → reach_all a.entries (begun start) (shown_from path ss ls 0 (count - 0)) ≡ reach_from start a (shown_parts path ss ls count)
  unfolding shown_parts
  reach-start path ss ls count {r} t e =
      let k : count - 0 ≡ count = omega arith in
      rw k (start-there r t e (shown_from path ss ls 0 count))

-- ---- where parts lead by the definition

-- what was reached, after so many parts: the entry that named it last is the one at the place
unfoldable pub walk_shown : List Entry → ℕ → Reach → Walk
walk_shown es k (Err e) = stopped e
walk_shown es zero (Ok r) = reached r.node none
walk_shown es (suc k) (Ok r) = reached r.node (some (entry_at es r.place))

module _ (es : List Entry) (asc : Asc entry_before es) where
  -- a part more, if the others lead where they should from any node
  part-shows : (now : Reached) (k : ℕ) (last : Option Entry) (q : List ℕ) (ps : List (List ℕ)) → ((m : Reached) → walk_parts es m.node (some (entry_at es m.place)) ps ≡ walk_shown es (suc k) (reach_all es (Ok m) ps))
      → walk_parts es now.node last (q ∷ ps) ≡ walk_shown es (suc k) (reach_all es (Ok now) (q ∷ ps))
  unfolding walk_parts reach_all reach_next reach pick
  part-shows now k last q ps on = go (ltb most_name (length q))
    where
      of_part : (s : Found) → s ≡ entry_found now.node q es → on_entry (stopped NoSuchEntry) (λ e. walk_parts es e.node (some e) ps) (entry_named now.node q es) ≡ walk_shown es (suc k) (reach_all es (reached_by es s) ps)
      of_part (Some r) e = unfold on_entry reached_by in rw (entry_found_lem now.node q es asc e).1 (on (record { node = (entry_at es r).node; place = r }))
      of_part None e = unfold on_entry reached_by walk_shown in rw (entry-missing now.node q es asc e, stops es NoSuchEntry ps) refl

      go : (b : Bool) → pick b (stopped BadName) (on_entry (stopped NoSuchEntry) (λ e. walk_parts es e.node (some e) ps) (entry_named now.node q es))
          ≡ walk_shown es (suc k) (reach_all es (pick b (Err BadName) (reached_by es (entry_found now.node q es))) ps)
      go true = unfold walk_shown in rw (stops es BadName ps) refl
      go false = of_part (entry_found now.node q es) refl

  parts-show : (ps : List (List ℕ)) (k : ℕ) (now : Reached) → walk_parts es now.node (some (entry_at es now.place)) ps ≡ walk_shown es (suc k) (reach_all es (Ok now) ps)
  unfolding walk_parts reach_all walk_shown
  parts-show [] k now = refl
  parts-show (q ∷ ps) k now = part-shows now k (some (entry_at es now.place)) q ps (parts-show ps k)

  all-show : (ps : List (List ℕ)) (n : ℕ) → walk_parts es n none ps ≡ walk_shown es (length ps) (reach_all es (begun n) ps)
  unfolding walk_parts reach_all walk_shown
  all-show [] n = refl
  all-show (q ∷ ps) n = part-shows (record { node = n; place = 0 }) (length ps) none q ps (parts-show ps (length ps))

-- what code reaches shows where the parts lead
pub reach-shows : (start : ℕ) (a : Names) → Asc node_before a.nodes → Asc entry_before a.entries → (ps : List (List ℕ)) → walk_from start a ps ≡ walk_shown a.entries (length ps) (reach_from start a ps)
unfolding walk_from reach_from node
reach-shows start a nodes entries ps = go (found_node start a.nodes) refl
  where
    go : (f : Found) → f ≡ found_node start a.nodes → on_start (stopped NoSuchEntry) (walk_parts a.entries start none ps) (find (λ r. eqb r.node start) a.nodes) ≡ walk_shown a.entries (length ps) (reach_of a.entries start ps f)
    go (Some i) e = unfold on_start reach_of in rw (node-found start a.nodes i e).1 (all-show a.entries entries ps start)
    go None e = unfold on_start reach_of walk_shown in rw (node-absent start a.nodes nodes e) refl
