-- A search among a directory's entries tells what the definitions tell: of the entry that has the name, of a limit, and that there is none.
-- Assumes nothing.
use Rattle.std.specs.Prelude.{Some, None}
use mathlib.Core.Path.{◌≡◌, refl, sym, ap, ◌∙◌}
use mathlib.Core.Bool.{Bool, true, false, false≢true}
use mathlib.Core.List.{List, [], ◌∷◌}
use mathlib.Core.Option.{none, some}
use Prim.Native.Nat.{ℕ, zero, suc, ◌+◌, ◌-◌, ◌≤◌, ◌<◌}
use native.Mathlib.Nat.{not-suc-le-zero}
use native.Mathlib.Omega.{arith}
use native.Mathlib.Decide.{dec_lt}
use lib.Dec.{eqb, ltb}
use lib.ListN.{length, take, drop, get_or, length-drop}
use lib.Seq.{length-take-le, get_or-drop, get_or-take}
use borrow.Author.Tests.{lt-ltb, le-ltb}
use Rattle.words.specs.Rules.{pick, both}
use Rattle.words.specs.Tables.{lead, lead_of, Asc}
use Rattle.words.proofs.Rules.{pick_true, pick-false, stop, go_on}
use Rattle.words.proofs.Search.{lead-le, lead-ends}
use Rattle.types.specs.declared.Search.{Search}
use Rattle.types.specs.declared.Search.TheVariants as told
use Rattle.volume.specs.Rows.{Entry, read_entry}
use Rattle.volume.specs.Search.{entry_under}
use Rattle.volume.specs.Sound.{entry_before}
use Rattle.tables.specs.Tables.{entry_at}
use Rattle.names.specs.Entries.{entry_named}
use Rattle.names.specs.Searching.{entries_from, named_from, looked_through}
use Rattle.names.proofs.LookedThrough.{other, Told, told-found, told-absent, told-stopped, told, first-named, none_named}
use Rattle.names.proofs.EntryRuns.{mine, entries-run}
use Rattle.names.proofs.SearchLaws.{named-all}
use Rattle.directories.specs.declared.searching.Searched.{Searched}
use Rattle.directories.specs.declared.searching.Searched.TheVariants.{At, Absent, Stopped}
use Rattle.directories.specs.Searches.{other_name, entry_there, searched_from, searched, found_from, entry_found}
use Rattle.directories.proofs.EntrySearch.{there-inside}

-- ---- rows that lead

module _ {R : Type 0} where
  -- those that pass a second test too, among those that pass the first
  lead-both : (f g : R → Bool) (rs : List R) → lead (λ r. both (f r) (g r)) rs ≡ lead g (take (lead f rs) rs)
  unfolding lead lead_of both
  lead-both f g [] = refl
  lead-both f g (r ∷ rs) = go (f r) (lead-both f g rs)
    where
      go : (b : Bool) → lead (λ s. both (f s) (g s)) rs ≡ lead g (take (lead f rs) rs) → lead_of (both b (g r)) (lead (λ s. both (f s) (g s)) rs) ≡ lead g (take (lead_of b (lead f rs)) (r ∷ rs))
      go true h = ap (lead_of (g r)) h
      go false h = refl

  lead-passes : (f : R → Bool) (d : R) (rs : List R) (i : ℕ) → i < lead f rs → f (get_or rs i d) ≡ true
  unfolding lead lead_of
  lead-passes f d [] i h = absurd (not-suc-le-zero h)
  lead-passes f d (r ∷ rs) i h = go (f r) refl i h (lead-passes f d rs)
    where
      go : (b : Bool) → f r ≡ b → (i : ℕ) → i < lead_of b (lead f rs) → ((j : ℕ) → j < lead f rs → f (get_or rs j d) ≡ true) → f (get_or (r ∷ rs) i d) ≡ true
      go true q zero k ih = q
      go true q (suc i) k ih = ih i (omega arith)
      go false q i k ih = absurd (not-suc-le-zero k)

-- ---- the directory's entries from an index on

module _ (d : ℕ) (name : List ℕ) (from : ℕ) (es : List Entry) (asc : Asc entry_before es) where
  abbrev first : ℕ
  first = lead (entry_under d from) es

  abbrev behind : List Entry
  behind = drop first es

  abbrev among : List Entry
  among = entries_from d from es

  abbrev many : ℕ
  many = lead (mine d from) behind

  many-there : length among ≡ many
  many-there = rw (entries-run d from es asc) (length-take-le many behind (lead-le (mine d from) behind))

  passed-there : lead (other_name d name) behind ≡ lead (other name) among
  passed-there = lead-both (mine d from) (other name) behind ∙ ap (lead (other name)) (sym (entries-run d from es asc))

  there-in : (j : ℕ) → j < length among → (entry_there d es (first + j) ≡ true) × (get_or among j (read_entry []) ≡ entry_at es (first + j))
  unfolding entry_there
  there-in j h =
      let k : j < many = omega (arith, many-there) in
      let long : many ≤ length es - first = rw (length-drop first es) at (lead-le (mine d from) behind) in
      let e : get_or behind j (read_entry []) ≡ entry_at es (first + j) = get_or-drop first es j (read_entry []) in
      let p : mine d from (entry_at es (first + j)) ≡ true = ap (mine d from) (sym e) ∙ lead-passes (mine d from) (read_entry []) behind j k in
      (sym (go_on _ _ (lt-ltb (first + j) (length es) (omega arith)) (sym p)), ap (λ (l : List Entry). get_or l j (read_entry [])) (entries-run d from es asc) ∙ get_or-take many behind j (read_entry []) k ∙ e)

  there-end : entry_there d es (first + length among) ≡ false
  unfolding entry_there
  there-end = rw many-there (go (dec_lt (first + many) (length es)))
    where
      go : Dec (first + many < length es) → both (ltb (first + many) (length es)) (eqb (entry_at es (first + many)).parent d) ≡ false
      go (yes h) =
          let k : many < length behind = rw (length-drop first es) (omega arith) in
          let p : mine d from (entry_at es (first + many)) ≡ false = ap (mine d from) (sym (get_or-drop first es many (read_entry []))) ∙ lead-ends (mine d from) (read_entry []) behind k in
          sym (go_on _ _ (lt-ltb (first + many) (length es) h) (sym p))
      go (no h) = let k : length es ≤ first + many = omega arith in sym (stop _ _ (le-ltb (first + many) (length es) k))

  -- ---- what is told of them

  -- a place that a search ends at is that of the entry told of, and the number looked at is the same
  pub data ShowsSearch : Searched → Search → Type 0 where
    shows-found : (p k : ℕ) → p < length es → ShowsSearch (At p k) (told.Found (entry_at es p).index (entry_at es p).node k)
    shows-absent : (k : ℕ) → ShowsSearch (Absent k) (told.Absent k)
    shows-stopped : (p k : ℕ) → p < length es → ShowsSearch (Stopped p k) (told.Stopped (entry_at es p).index k)

  pub search-shows : (most : ℕ) → ShowsSearch (searched d name from most es) (looked_through name most among)
  unfolding searched searched_from
  search-shows most = rw passed-there (go (looked_through name most among) (told name most among))
    where
      passed : ℕ
      passed = lead (other name) among

      ended : passed ≡ length among → length among ≤ most → Dec (passed < most) → searched_from d es first most passed ≡ Absent (length among)
      ended q l (yes h) = unfold searched_from in sym (pick_true _ _ _ _ (lt-ltb passed most h) (pick-false _ _ _ _ (ap (λ j. entry_there d es (first + j)) q ∙ there-end) (ap Absent (sym q))))
      ended q l (no h) =
          let k : most ≡ length among = omega arith in
          unfold searched_from in sym (pick-false _ _ _ _ (le-ltb passed most (omega arith)) (pick-false _ _ _ _ (ap (λ j. entry_there d es (first + j)) k ∙ there-end) (ap Absent (sym k))))

      go : (s : Search) → Told name most among s → ShowsSearch (searched_from d es first most passed) s
      go _ (told-found h b) =
          let t = there-in passed b in
          let e : searched_from d es first most passed ≡ At (first + passed) (passed + 1) = unfold searched_from in sym (pick_true _ _ _ _ (lt-ltb passed most h) (pick_true _ _ _ _ t.0 refl)) in
          rw (e, t.1) (shows-found (first + passed) (passed + 1) (there-inside d es t.0))
      go _ (told-absent q l) = rw (ended q l (dec_lt passed most)) (shows-absent (length among))
      go _ (told-stopped h b) =
          let t = there-in most b in
          let e : searched_from d es first most passed ≡ Stopped (first + most) most = unfold searched_from in sym (pick-false _ _ _ _ (le-ltb passed most h) (pick_true _ _ _ _ t.0 refl)) in
          rw (e, t.1) (shows-stopped (first + most) most (there-inside d es t.0))

  -- the numbers that code makes of a place are the entry's
  module _ (most : ℕ) where
    pub found-told : {p k : ℕ} → At p k ≡ searched d name from most es → (p < length es) × ((i n : ℕ) → i ≡ (entry_at es p).index → n ≡ (entry_at es p).node → told.Found i n k ≡ looked_through name most among)
    found-told {p} {k} q = go (searched d name from most es) (looked_through name most among) (search-shows most) q
      where
        go : (x : Searched) (s : Search) → ShowsSearch x s → At p k ≡ x → (p < length es) × ((i n : ℕ) → i ≡ (entry_at es p).index → n ≡ (entry_at es p).node → told.Found i n k ≡ s)
        go _ _ (shows-found q j b) e = let y : p ≡ q = cc in let z : k ≡ j = cc in (rw y b, λ i n u v. rw (u, v, y, z))
        go _ _ (shows-absent j) e = absurd cc
        go _ _ (shows-stopped q j b) e = absurd cc

    pub absent-told : {k : ℕ} → Absent k ≡ searched d name from most es → told.Absent k ≡ looked_through name most among
    absent-told {k} q = go (searched d name from most es) (looked_through name most among) (search-shows most) q
      where
        go : (x : Searched) (s : Search) → ShowsSearch x s → Absent k ≡ x → told.Absent k ≡ s
        go _ _ (shows-found q j b) e = absurd cc
        go _ _ (shows-absent j) e = let z : k ≡ j = cc in ap told.Absent z
        go _ _ (shows-stopped q j b) e = absurd cc

    pub stopped-told : {p k : ℕ} → Stopped p k ≡ searched d name from most es → (p < length es) × ((i : ℕ) → i ≡ (entry_at es p).index → told.Stopped i k ≡ looked_through name most among)
    stopped-told {p} {k} q = go (searched d name from most es) (looked_through name most among) (search-shows most) q
      where
        go : (x : Searched) (s : Search) → ShowsSearch x s → Stopped p k ≡ x → (p < length es) × ((i : ℕ) → i ≡ (entry_at es p).index → told.Stopped i k ≡ s)
        go _ _ (shows-found q j b) e = absurd cc
        go _ _ (shows-absent j) e = absurd cc
        go _ _ (shows-stopped q j b) e = let y : p ≡ q = cc in let z : k ≡ j = cc in (rw y b, λ i u. rw (u, y, z))

-- ---- the entry that has a name

module _ (d : ℕ) (name : List ℕ) (es : List Entry) (asc : Asc entry_before es) where
  abbrev all : List Entry
  all = entries_from d 0 es

  abbrev place : ℕ
  place = lead (entry_under d 0) es + lead (other name) all

  place-there : lead (entry_under d 0) es + lead (other_name d name) (drop (lead (entry_under d 0) es) es) ≡ place
  place-there = ap (λ k. lead (entry_under d 0) es + k) (passed-there d name 0 es asc)

  here : lead (other name) all < length all → entry_named d name es ≡ some (entry_at es place)
  unfolding named_from
  here h = sym (named-all d name es) ∙ first-named name all h ∙ ap some (there-in d name 0 es asc (lead (other name) all) h).1

  nowhere : lead (other name) all ≡ length all → entry_named d name es ≡ none
  unfolding named_from
  nowhere h = sym (named-all d name es) ∙ none_named name all h

  -- it is there, or all are passed
  inside : entry_there d es place ≡ true → lead (other name) all < length all
  inside t = go (dec_lt (lead (other name) all) (length all))
    where
      go : Dec (lead (other name) all < length all) → lead (other name) all < length all
      go (yes h) = h
      go (no h) = let k : length all ≡ lead (other name) all = omega (arith, lead-le (other name) all) in absurd (false≢true (sym (there-end d name 0 es asc) ∙ ap (λ j. entry_there d es (lead (entry_under d 0) es + j)) k ∙ t))

  outside : entry_there d es place ≡ false → lead (other name) all ≡ length all
  outside t = go (dec_lt (lead (other name) all) (length all))
    where
      go : Dec (lead (other name) all < length all) → lead (other name) all ≡ length all
      go (yes h) = absurd (false≢true (sym t ∙ (there-in d name 0 es asc (lead (other name) all) h).0))
      go (no h) = omega (arith, lead-le (other name) all)

  pub entry_found_lem : {p : ℕ} → Some p ≡ entry_found d name es → (p < length es) × (entry_named d name es ≡ some (entry_at es p))
  unfolding entry_found found_from pick
  entry_found_lem {p} e = go (entry_there d es place) refl (e ∙ ap (found_from d es) place-there)
    where
      go : (b : Bool) → entry_there d es place ≡ b → Some p ≡ pick b (Some place) None → (p < length es) × (entry_named d name es ≡ some (entry_at es p))
      go true t q = let i : p ≡ place = cc in rw i (there-inside d es t, here (inside t))
      go false t q = absurd cc

  pub entry-missing : None ≡ entry_found d name es → entry_named d name es ≡ none
  unfolding entry_found found_from pick
  entry-missing e = go (entry_there d es place) refl (e ∙ ap (found_from d es) place-there)
    where
      go : (b : Bool) → entry_there d es place ≡ b → None ≡ pick b (Some place) None → entry_named d name es ≡ none
      go true t q = absurd cc
      go false t q = nowhere (outside t)
