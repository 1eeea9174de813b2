-- The place and the index of a new entry: it stands behind its directory's other entries, and the last of them has the greatest index.
-- Then what a search for them gives, and what a call makes of it.
-- Assumes nothing.
use Rattle.std.specs.Prelude.{Result, Some, None, Ok, Err, is_some}
use mathlib.Core.Path.{◌≡◌, refl, sym, ap, ◌∙◌, subst}
use mathlib.Core.Bool.{Bool, true, false}
use mathlib.Core.List.{List, []}
use mathlib.Core.Logic.{inl, inr}
use mathlib.Core.Option.{Option, none, some}
use Prim.Native.Nat.{ℕ, ◌+◌, ◌-◌, ◌≤◌, ◌<◌}
use native.Mathlib.Decide.{dec_lt}
use native.Mathlib.Omega.{arith}
use lib.Dec.{eqb, ltb}
use lib.ListN.{length}
use borrow.Author.Tests.{eq-eqb, ne_eqb, lt-ltb}
use Rattle.words.specs.Rules.{pick, Says, holds, fails}
use Rattle.words.specs.Tables.{lead, Each, Asc}
use Rattle.words.proofs.Order.{each_at}
use Rattle.words.proofs.Places.{places-each, asc-at}
use Rattle.words.proofs.Rules.{says-true, true-says, says-eqb, pick_true, pick-false}
use Rattle.words.proofs.Search.{asc-falls, lead-le, lead-same, lead-above, lead-below}
use Rattle.types.specs.declared.Error.{Error}
use Rattle.types.specs.declared.Error.TheVariants.{NoRowRoom, NameExists, NoIndexLeft}
use Rattle.paths.specs.Path.{name_allowed}
use Rattle.volume.specs.Framed.{EntryFits}
use Rattle.volume.specs.Rows.{Entry, read_entry}
use Rattle.volume.specs.Search.{PairBefore, pair_before, entry_under}
use Rattle.volume.specs.Volume.{Names}
use Rattle.volume.specs.Sound.{entry_before}
use Rattle.volume.specs.Steps.{NamesStep, remain}
use Rattle.volume.proofs.PairOrder.{says-pair}
use Rattle.tables.specs.Tables.{entry_at, Found}
use Rattle.tables.proofs.TableSearch.{entry-falls}
use Rattle.names.specs.Entries.{entry_named, greatest, on_entry}
use Rattle.names.specs.Entering.{most_index, where_new}
use Rattle.names.proofs.Entered.{greatest-above, greatest-within}
use Rattle.directories.specs.declared.entering.Spot.{Spot}
use Rattle.directories.specs.Searches.{entry_found}
use Rattle.directories.specs.Spots.{past_indexes, new_spot, spot_found}
use Rattle.directories.proofs.NamedEntry.{entry_found_lem, entry-missing}
use Rattle.names.specs.Enterable.{Enterable}

-- ---- pairs in order

-- (a, b) before (x, y), and that before (d, m): if a is d then x is
stays-in : (a b x y d m : ℕ) → PairBefore a b x y → PairBefore x y d m → a ≡ d → x ≡ d
stays-in a b x y d m (inl h) (inl k) e = absurd (omega arith)
stays-in a b x y d m (inl h) (inr k) e = k.0
stays-in a b x y d m (inr h) (inl k) e = sym h.0 ∙ e
stays-in a b x y d m (inr h) (inr k) e = k.0

-- of one directory, the index is the less
rises : (a b x y : ℕ) → PairBefore a b x y → a ≡ x → b < y
rises a b x y (inl h) e = absurd (omega arith)
rises a b x y (inr h) e = h.1

-- a test against two indexes, both above those of the directory
same_test : (a b d g m : ℕ) → (a ≡ d → b < g) → (a ≡ d → b < m) → pair_before a b d g ≡ pair_before a b d m
unfolding pair_before pick
same_test a b d g m h k = go (says-eqb a d)
  where
    go : {t : Bool} → Says (a ≡ d) t → pick t (ltb b g) (ltb a d) ≡ pick t (ltb b m) (ltb a d)
    go (holds e) = lt-ltb b g (h e) ∙ sym (lt-ltb b m (k e))
    go (fails e) = refl

-- ---- the place behind a directory's entries

module _ (d : ℕ) (es : List Entry) (asc : Asc entry_before es) (fits : Each EntryFits es) where
  abbrev behind : ℕ
  behind = lead (entry_under d past_indexes) es

  index_below : (i : ℕ) → i < length es → (entry_at es i).index < past_indexes
  index_below i h = omega (arith, (each_at EntryFits es i (read_entry []) fits h).index)

  -- its entries stand before it
  stands-before : (i : ℕ) → i < length es → (entry_at es i).parent ≡ d → i < behind
  stands-before i h e =
      lead-above (entry_under d past_indexes) es i (read_entry []) (asc-falls entry_before (entry_under d past_indexes) (entry-falls d past_indexes) es asc) h
      (true-says (says-pair (entry_at es i).parent (entry_at es i).index d past_indexes) (inr (e, index_below i h)))

  -- what stands before it
  place-under : (i : ℕ) → i < length es → i < behind → PairBefore (entry_at es i).parent (entry_at es i).index d past_indexes
  place-under i h b = go (entry_under d past_indexes (entry_at es i)) refl
    where
      go : (t : Bool) → entry_under d past_indexes (entry_at es i) ≡ t → PairBefore (entry_at es i).parent (entry_at es i).index d past_indexes
      go true e = says-true (says-pair (entry_at es i).parent (entry_at es i).index d past_indexes) e
      go false e = absurd (omega (arith, lead-below (entry_under d past_indexes) es i (read_entry []) h e))

  -- it is the place of the new entry
  pub spot-place : lead (entry_under d (greatest d es + 1)) es ≡ behind
  spot-place =
      lead-same (entry_under d (greatest d es + 1)) (entry_under d past_indexes) es
      (places-each _ (read_entry []) es
      (λ i h. same_test (entry_at es i).parent (entry_at es i).index d (greatest d es + 1) past_indexes (λ e. omega (arith, each_at (λ x. x.parent ≡ d → x.index ≤ greatest d es) es i (read_entry []) (greatest-above d es) h e)) (λ e. index_below i h)))

  -- ---- the greatest index, as code finds it from that place

  module _ {b : ℕ} (at_place : b ≡ behind) where
    pub greatest-none : (1 ≤ b → ⊥) → (0 ≡ greatest d es) × (0 ≤ most_index)
    greatest-none z =
        (omega (arith, greatest-within d 0 es (places-each (λ e. e.parent ≡ d → e.index ≤ 0) (read_entry []) es (λ i h e. absurd (omega (arith, stands-before i h e))))), omega arith)

    module _ {z : ℕ} (before : (1 ≤ b) × (z ≡ b - 1)) where
      pub last-there : z < length es
      last-there = omega (arith, lead-le (entry_under d past_indexes) es)

      -- where the directory has an entry, the last before the place is one
      last-in : (i : ℕ) → i < length es → (entry_at es i).parent ≡ d → (entry_at es z).parent ≡ d
      last-in i h e = go (dec_lt i z)
        where
          go : Dec (i < z) → (entry_at es z).parent ≡ d
          go (yes k) =
              stays-in (entry_at es i).parent (entry_at es i).index (entry_at es z).parent (entry_at es z).index d past_indexes (asc-at entry_before (read_entry []) es asc i z k last-there) (place-under z last-there (omega arith)) e
          go (no k) = let q : z ≡ i = omega (arith, stands-before i h e) in ap (λ (j : ℕ). (entry_at es j).parent) q ∙ e

      -- and no other has a greater index
      last-most : (entry_at es z).parent ≡ d → (i : ℕ) → i < length es → (entry_at es i).parent ≡ d → (entry_at es i).index ≤ (entry_at es z).index
      last-most p i h e = go (dec_lt i z)
        where
          go : Dec (i < z) → (entry_at es i).index ≤ (entry_at es z).index
          go (yes k) = omega (arith, rises (entry_at es i).parent (entry_at es i).index (entry_at es z).parent (entry_at es z).index (asc-at entry_before (read_entry []) es asc i z k last-there) (e ∙ sym p))
          go (no k) =
              let q : i ≡ z = omega (arith, stands-before i h e) in
              let s : (entry_at es i).index ≡ (entry_at es z).index = ap (λ (j : ℕ). (entry_at es j).index) q in
              omega arith

      module _ {x : ℕ} (its-parent : x ≡ (entry_at es z).parent) where
        pub greatest-other : (x ≡ d → ⊥) → (0 ≡ greatest d es) × (0 ≤ most_index)
        greatest-other n =
            (omega (arith, greatest-within d 0 es (places-each (λ e. e.parent ≡ d → e.index ≤ 0) (read_entry []) es (λ i h e. absurd (n (its-parent ∙ last-in i h e))))), omega arith)

        pub greatest-last : x ≡ d → {k : ℕ} → (k ≡ (entry_at es z).index) × (k < past_indexes) → (k ≡ greatest d es) × (k ≤ most_index)
        greatest-last q i =
            let p : (entry_at es z).parent ≡ d = sym its-parent ∙ q in
            let most = greatest-within d (entry_at es z).index es (places-each (λ e. e.parent ≡ d → e.index ≤ (entry_at es z).index) (read_entry []) es (last-most p)) in
            let least = each_at (λ e. e.parent ≡ d → e.index ≤ greatest d es) es z (read_entry []) (greatest-above d es) last-there p in
            (omega (arith, i.0, most, least), omega (arith, i.1))

-- ---- the ends of the search for a spot

module _ (d : ℕ) (name : List ℕ) (full : Bool) (es : List Entry) (asc : Asc entry_before es) where
  pub spot-taken : (r : Found) → is_some r ≡ true → r ≡ entry_found d name es → Err NameExists ≡ spot_found d name full es
  unfolding spot_found on_entry
  spot-taken (Some p) t h = rw (entry_found_lem d name es asc h).1 refl
  spot-taken None t h = absurd cc

  -- the name is new
  pub spot-new : (r : Found) → is_some r ≡ false → r ≡ entry_found d name es → entry_named d name es ≡ none
  spot-new (Some p) t h = absurd cc
  spot-new None t h = entry-missing d name es asc h

  module _ (new : entry_named d name es ≡ none) where
    pub spot-full : full ≡ true → Err NoRowRoom ≡ spot_found d name full es
    unfolding spot_found on_entry
    spot-full e = rw new (pick_true _ _ _ _ e refl)

    module _ (free : full ≡ false) {g : ℕ} (is : (g ≡ greatest d es) × (g ≤ most_index)) where
      pub spot-last : g ≡ most_index → Err NoIndexLeft ≡ spot_found d name full es
      unfolding spot_found on_entry
      spot-last e = rw new (pick-false _ _ _ _ free (pick_true _ _ _ _ (rw (← is.0) (eq-eqb g most_index e)) refl))

      pub spot-at : (g ≡ most_index → ⊥) → Each EntryFits es → {p : ℕ} → p ≡ lead (entry_under d past_indexes) es → Ok (record { place = p; index = g + 1 }) ≡ spot_found d name full es
      unfolding spot_found on_entry
      spot-at n fits {p} o =
          let q : p ≡ lead (entry_under d (greatest d es + 1)) es = o ∙ sym (spot-place d es asc fits) in
          rw new (pick-false _ _ _ _ free (pick-false _ _ _ _ (rw (← is.0) (ne_eqb g most_index n)) (rw (q, is.0))))

-- ---- what was found

-- a spot is that of a new name in a directory, where there is room for its entry
pub record IsSpot (d : ℕ) (name : List ℕ) (full : Bool) (a : Names) (s : Spot) : Type 0 where
  pub spot : s ≡ new_spot d a.entries
  pub new : entry_named d name a.entries ≡ none
  pub free : full ≡ false
  pub index : greatest d a.entries ≡ most_index → ⊥

-- a search ends with such a spot, or with the refusal that a call gives
data FoundSpot (d : ℕ) (name : List ℕ) (full : Bool) (a : Names) (call : NamesStep) : Result Spot Error → Type 0 where
  at-spot : (s : Spot) → IsSpot d name full a s → FoundSpot d name full a call (Ok s)
  at_none : (e : Error) → remain e a ≡ where_new d name full a call → FoundSpot d name full a call (Err e)

module _ (d : ℕ) (name : List ℕ) (full : Bool) (a : Names) (call : NamesStep) where
  found-spot : FoundSpot d name full a call (spot_found d name full a.entries)
  unfolding spot_found where_new on_entry pick
  found-spot = go (entry_named d name a.entries) refl
    where
      free : entry_named d name a.entries ≡ none → (f : Bool) → full ≡ f → (b : Bool) → Says (greatest d a.entries ≡ most_index) b
          → ((s : NamesStep) → s ≡ pick f (remain NoRowRoom a) (pick b (remain NoIndexLeft a) call) → s ≡ where_new d name full a call)
          → FoundSpot d name full a call (pick f (Err NoRowRoom) (pick b (Err NoIndexLeft) (Ok (new_spot d a.entries))))
      free e true q b s up = at_none NoRowRoom (up (remain NoRowRoom a) refl)
      free e false q true s up = at_none NoIndexLeft (up (remain NoIndexLeft a) refl)
      free e false q false (fails s) up = at-spot (new_spot d a.entries) (record { spot = refl; new = e; free = q; index = s })

      go : (o : Option Entry) → entry_named d name a.entries ≡ o
          → FoundSpot d name full a call (on_entry (pick full (Err NoRowRoom) (pick (eqb (greatest d a.entries) most_index) (Err NoIndexLeft) (Ok (new_spot d a.entries)))) (λ e. Err NameExists) o)
      go none e = free e full refl (eqb (greatest d a.entries) most_index) (says-eqb (greatest d a.entries) most_index) (λ s h. h ∙ rw e refl)
      go (some x) e = at_none NameExists (rw e refl)

  -- a call goes on
  pub spot-goes-on : {s : Spot} → IsSpot d name full a s → call ≡ where_new d name full a call
  unfolding where_new on_entry
  spot-goes-on i = rw i.new (pick-false _ _ _ _ i.free (pick-false _ _ _ _ (ne_eqb (greatest d a.entries) most_index i.index) refl))

  -- none found: it gives its refusal
  pub spot-refused : {e : Error} → Err e ≡ spot_found d name full a.entries → remain e a ≡ where_new d name full a call
  spot-refused {e} h = go (spot_found d name full a.entries) found-spot h
    where
      go : (o : Result Spot Error) → FoundSpot d name full a call o → Err e ≡ o → remain e a ≡ where_new d name full a call
      go o (at-spot c i) z = absurd cc
      go o (at_none x c) z = let q : e ≡ x = cc in rw q c

module _ (d : ℕ) (name : List ℕ) (full : Bool) (a : Names) where
  -- the spot found is one
  pub spot-found : {s : Spot} → Ok s ≡ spot_found d name full a.entries → IsSpot d name full a s
  spot-found {s} h = go (spot_found d name full a.entries) (found-spot d name full a (remain NameExists a)) h
    where
      go : (o : Result Spot Error) → FoundSpot d name full a (remain NameExists a) o → Ok s ≡ o → IsSpot d name full a s
      go o (at-spot c i) z = let q : c ≡ s = cc in subst (IsSpot d name full a) q i
      go o (at_none e c) z = absurd cc

  -- and an allowed name can be entered there
  pub spot-enters : {s : Spot} → IsSpot d name full a s → name_allowed name ≡ true → length a.entries < a.entry_room → Enterable d name a
  spot-enters i n r = record { allowed = n; new = i.new; room = r; index = i.index }
