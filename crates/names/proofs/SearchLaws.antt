-- The laws of a search that may stop: how many were looked at, that what it finds or misses is what the full search finds or misses, that a
-- greater limit changes nothing of that, and that going on from where it stopped gives in all what one search gives.
-- Assumes nothing.
use Rattle.std.specs.Prelude.{Result, Ok, Err}
use mathlib.Core.Path.{◌≡◌, refl, sym, ap, ◌∙◌}
use mathlib.Core.Bool.{Bool, true, false}
use mathlib.Core.List.{List, []}
use mathlib.Core.Option.{Option, none, some}
use Prim.Native.Nat.{ℕ, ◌+◌, ◌≤◌, ◌<◌}
use native.Mathlib.Omega.{arith}
use lib.Dec.{eqb}
use lib.ListN.{length, drop, get_or}
use borrow.Author.Tests.{eqb-true}
use Rattle.words.specs.Rules.{pick, same}
use Rattle.words.specs.Tables.{lead, find, only}
use Rattle.words.proofs.Joined.{both_true}
use Rattle.words.proofs.Only.{find-only}
use Rattle.words.proofs.Order.{each_map}
use Rattle.words.proofs.Rules.{true-says, go_on}
use Rattle.types.specs.Answers.{search_case}
use Rattle.types.specs.Nodes.{is_directory}
use Rattle.types.specs.declared.Error.{Error}
use Rattle.types.specs.declared.Error.TheVariants.{NoSuchEntry, NotDirectory, BadName}
use Rattle.types.specs.declared.NodeRecord.{NodeRecord}
use Rattle.types.specs.declared.Search.{Search}
use Rattle.types.specs.declared.Search.TheVariants.{Found, Absent, Stopped}
use Rattle.paths.specs.Path.{name_allowed}
use Rattle.volume.specs.Rows.{Entry, read_entry}
use Rattle.volume.specs.Volume.{Names}
use Rattle.volume.specs.Sound.{node, Named}
use Rattle.names.specs.Entries.{has_name, entry_named, from_index}
use Rattle.names.specs.Listing.{on_directory}
use Rattle.names.specs.Searching.{entries_from, named, named_from, position, looked_through, search, found_in_all, in_all}
use Rattle.names.proofs.LookedThrough.{other, Told, told-found, told-absent, told-stopped, told, looked-further, looked-on, first-named, none_named}
use Rattle.names.proofs.EntryRuns.{find-same, says-from, each-passes, entries-on}

-- ---- refused for what no index and no limit changes, or carried out

data Goes (d : ℕ) (name : List ℕ) (a : Names) : Type 0 where
  refused : (e : Error) → ((from most : ℕ) → search d name from most a ≡ Err e) → Goes d name a
  looks : ((from most : ℕ) → search d name from most a ≡ Ok (looked_through name most (entries_from d from a.entries))) → Goes d name a

goes : (d : ℕ) (name : List ℕ) (a : Names) → Goes d name a
unfolding search on_directory pick
goes d name a = of_node_found (node d a) refl
  where
    of-name : (r : NodeRecord) → node d a ≡ some r → is_directory r.kind ≡ true → (b : Bool) → name_allowed name ≡ b → Goes d name a
    of-name r e q true p = looks (λ from most. rw (e, q, p))
    of-name r e q false p = refused BadName (λ from most. rw (e, q, p))

    of_row : (r : NodeRecord) → node d a ≡ some r → (b : Bool) → is_directory r.kind ≡ b → Goes d name a
    of_row r e true q = of-name r e q (name_allowed name) refl
    of_row r e false q = refused NotDirectory (λ from most. rw (e, q))

    of_node_found : (o : Option NodeRecord) → node d a ≡ o → Goes d name a
    of_node_found none e = refused NoSuchEntry (λ from most. rw e)
    of_node_found (some r) e = of_row r e (is_directory r.kind) refl

-- ---- the full search from the first index on is the one that find, create, link and unlink speak of

pub named-all : (d : ℕ) (name : List ℕ) (es : List Entry) → named_from d name 0 es ≡ entry_named d name es
unfolding named_from entries_from entry_named
named-all d name es = find-same (named name) (has_name d name) (only (from_index d 0) es) (each_map (λ e. from_index d 0 e ≡ true) (λ e. named name e ≡ has_name d name e) of-directory (only (from_index d 0) es) (each-passes (from_index d 0) es)) ∙ find-only (has_name d name) (from_index d 0) es from_first
  where
    of-directory : (e : Entry) → from_index d 0 e ≡ true → named name e ≡ has_name d name e
    of-directory e h = go_on _ _ (both_true (eqb e.parent d) _ h).0 refl

    from_first : (e : Entry) → has_name d name e ≡ true → from_index d 0 e ≡ true
    from_first e h = true-says (says-from d 0 e) (eqb-true e.parent d (both_true (eqb e.parent d) (same e.name name) h).0, omega arith)

-- a refusal is not carried out
neither : {e : Error} {s : Search} → ◌≡◌ {A = Result Search Error} (Err e) (Ok s) → ⊥
neither q = cc

-- and what is carried out gives one thing
carried : {s t : Search} → ◌≡◌ {A = Result Search Error} (Ok s) (Ok t) → s ≡ t
carried q = cc

module _ (d : ℕ) (name : List ℕ) (from most : ℕ) (a : Names) where
  abbrev among : List Entry
  among = entries_from d from a.entries

  -- the entry found, its numbers, and its position from 1, which is no more than the limit
  pub record FoundAt (index n looked : ℕ) : Type 0 where
    pub entry : Entry
    pub full : named_from d name from a.entries ≡ some entry
    pub indexed : index ≡ entry.index
    pub noded : n ≡ entry.node
    pub counted : looked ≡ position name among
    pub within : looked ≤ most

  pub search-found : {index n looked : ℕ} → search d name from most a ≡ Ok (Found index n looked) → FoundAt index n looked
  unfolding named_from position
  search-found {index} {n} {looked} e = go (goes d name a)
    where
      of-told : (s : Search) → Told name most among s → s ≡ Found index n looked → FoundAt index n looked
      of-told _ (told-found h b) q =
          let i : (get_or among (lead (other name) among) (read_entry [])).index ≡ index = cc in
          let m : (get_or among (lead (other name) among) (read_entry [])).node ≡ n = cc in
          let k : lead (other name) among + 1 ≡ looked = cc in
          record { entry = get_or among (lead (other name) among) (read_entry []); full = first-named name among b; indexed = sym i; noded = sym m; counted = sym k; within = omega arith }
      of-told _ (told-absent h b) q = absurd cc
      of-told _ (told-stopped h b) q = absurd cc

      go : Goes d name a → FoundAt index n looked
      go (refused x h) = absurd (neither (sym (h from most) ∙ e))
      go (looks h) = of-told (looked_through name most among) (told name most among) (carried (sym (h from most) ∙ e))

  -- none has the name, and all were looked at
  pub search-absent : {looked : ℕ} → search d name from most a ≡ Ok (Absent looked) → (named_from d name from a.entries ≡ none) × (looked ≡ length among) × (looked ≤ most)
  unfolding named_from
  search-absent {looked} e = go (goes d name a)
    where
      of-told : (s : Search) → Told name most among s → s ≡ Absent looked → (find (named name) among ≡ none) × (looked ≡ length among) × (looked ≤ most)
      of-told _ (told-found h b) q = absurd cc
      of-told _ (told-absent h b) q = let k : length among ≡ looked = cc in (none_named name among h, sym k, omega arith)
      of-told _ (told-stopped h b) q = absurd cc

      go : Goes d name a → (find (named name) among ≡ none) × (looked ≡ length among) × (looked ≤ most)
      go (refused x h) = absurd (neither (sym (h from most) ∙ e))
      go (looks h) = of-told (looked_through name most among) (told name most among) (carried (sym (h from most) ∙ e))

  -- as many as the limit were looked at, none of them has the name, and the next one has the index
  pub search-stopped : {index looked : ℕ} → search d name from most a ≡ Ok (Stopped index looked) → (looked ≡ most) × (most < length among) × (most < position name among) × (index ≡ (get_or among most (read_entry [])).index)
  unfolding position
  search-stopped {index} {looked} e = go (goes d name a)
    where
      of-told : (s : Search) → Told name most among s → s ≡ Stopped index looked → (looked ≡ most) × (most < length among) × (most < lead (other name) among + 1) × (index ≡ (get_or among most (read_entry [])).index)
      of-told _ (told-found h b) q = absurd cc
      of-told _ (told-absent h b) q = absurd cc
      of-told _ (told-stopped h b) q =
          let k : most ≡ looked = cc in
          let i : (get_or among most (read_entry [])).index ≡ index = cc in
          (sym k, b, omega arith, sym i)

      go : Goes d name a → (looked ≡ most) × (most < length among) × (most < lead (other name) among + 1) × (index ≡ (get_or among most (read_entry [])).index)
      go (refused x h) = absurd (neither (sym (h from most) ∙ e))
      go (looks h) = of-told (looked_through name most among) (told name most among) (carried (sym (h from most) ∙ e))

  -- a greater limit changes nothing but a search that stopped
  pub limit-raised : (more : ℕ) → most ≤ more → (search_case (search d name from most a) ≡ 2 → ⊥) → search d name from more a ≡ search d name from most a
  limit-raised more l n = go (goes d name a)
    where
      go : Goes d name a → search d name from more a ≡ search d name from most a
      go (refused x h) = h from more ∙ sym (h from most)
      go (looks h) = h from more ∙ ap Ok (looked-further name most more among l (λ q. n (ap search_case (h from most) ∙ q))) ∙ sym (h from most)

  -- with a limit of as many as there are, it does not stop
  pub search-ends : length among ≤ most → search_case (search d name from most a) ≡ 2 → ⊥
  search-ends l q = go (goes d name a)
    where
      of-told : (s : Search) → Told name most among s → search_case (Ok s) ≡ 2 → ⊥
      of-told _ (told-found h b) q = omega arith
      of-told _ (told-absent h b) q = omega arith
      of-told _ (told-stopped h b) q = omega arith

      go : Goes d name a → ⊥
      go (refused x h) = let y : ◌≡◌ {A = ℕ} 0 2 = sym (ap search_case (h from most)) ∙ q in omega arith
      go (looks h) = of-told (looked_through name most among) (told name most among) (sym (ap search_case (h from most)) ∙ q)

  -- going on from where it stopped gives in all what one search gives whose limit is the sum of both
  pub search-goes-on : Named a → {index looked : ℕ} → search d name from most a ≡ Ok (Stopped index looked) → (more : ℕ) → in_all looked (search d name index more a) ≡ search d name from (looked + more) a
  unfolding position
  search-goes-on g {index} {looked} e more = go (goes d name a)
    where
      at : (looked ≡ most) × (most < length among) × (most < lead (other name) among + 1) × (index ≡ (get_or among most (read_entry [])).index)
      at = search-stopped e

      rest : entries_from d index a.entries ≡ drop most among
      rest = ap (λ i. entries_from d i a.entries) at.3 ∙ entries-on d from a.entries g.entry_order most at.1

      go : Goes d name a → in_all looked (search d name index more a) ≡ search d name from (looked + more) a
      go (refused x h) = rw (h index more, h from (looked + more))
      go (looks h) =
          ap (in_all looked) (h index more ∙ ap (λ es. Ok (looked_through name more es)) rest) ∙ ap (λ k. Ok (found_in_all k (looked_through name more (drop most among)))) at.0 ∙ ap Ok (looked-on name most more among (omega (arith, at.2)))
          ∙ ap (λ k. Ok (looked_through name (k + more) among)) (sym at.0) ∙ sym (h from (looked + more))
