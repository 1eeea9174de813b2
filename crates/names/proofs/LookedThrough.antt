-- Entries looked through up to a limit: what is told of them, by the position of the one that has the name; that a greater limit changes nothing
-- but where it stopped; and that one goes on from there.
-- Assumes nothing.
use Rattle.std.specs.Prelude.{Ok}
use mathlib.Core.Path.{◌≡◌, refl, sym, ap, ◌∙◌}
use mathlib.Core.Bool.{Bool, true, false, not, false≢true}
use mathlib.Core.List.{List, [], ◌∷◌}
use mathlib.Core.Option.{Option, none, some}
use Prim.Native.Nat.{ℕ, zero, suc, ◌+◌, ◌≤◌, ◌<◌}
use native.Mathlib.Nat.{not-suc-le-zero, zero-add, suc-add}
use native.Mathlib.Numerals.{one-add}
use native.Mathlib.Omega.{arith}
use native.Mathlib.Decide.{dec_lt}
use lib.ListN.{length, take, drop, get_or}
use lib.Seq.{drop-length}
use Rattle.words.specs.Rules.{pick}
use Rattle.words.specs.Tables.{lead, lead_of, find}
use Rattle.words.proofs.Search.{lead-le, lead-ends, find-found, find-behind}
use Rattle.types.specs.Answers.{search_case}
use Rattle.types.specs.declared.Search.{Search}
use Rattle.types.specs.declared.Search.TheVariants.{Found, Absent, Stopped}
use Rattle.volume.specs.Rows.{Entry, read_entry}
use Rattle.names.specs.Entries.{on_entry}
use Rattle.names.specs.Searching.{named, position, unfound, looked_through, found_in_all}

-- ---- numbers looked at, added up

all_none : (s : Search) → found_in_all 0 s ≡ s
all_none (Found i n k) = ap (Found i n) (zero-add k)
all_none (Absent k) = ap Absent (zero-add k)
all_none (Stopped i k) = ap (Stopped i) (zero-add k)

all_one : (m : ℕ) (s : Search) → found_in_all 1 (found_in_all m s) ≡ found_in_all (suc m) s
all_one m (Found i n k) = let e : 1 + (m + k) ≡ suc m + k = omega arith in ap (Found i n) e
all_one m (Absent k) = let e : 1 + (m + k) ≡ suc m + k = omega arith in ap Absent e
all_one m (Stopped i k) = let e : 1 + (m + k) ≡ suc m + k = omega arith in ap (Stopped i) e

module _ (name : List ℕ) where
  abbrev pub other : Entry → Bool
  other e = not (named name e)

  -- ---- one entry behind another

  walk_none : (most : ℕ) → looked_through name most [] ≡ Absent 0
  unfolding looked_through unfound on_entry find
  walk_none zero = refl
  walk_none (suc most) = refl

  walk-stop : (e : Entry) (es : List Entry) → looked_through name 0 (e ∷ es) ≡ Stopped e.index 0
  unfolding looked_through unfound on_entry find
  walk-stop e es = refl

  unfound-more : (k : ℕ) (es : List Entry) → unfound (suc k) es ≡ found_in_all 1 (unfound k es)
  unfolding unfound
  unfound-more k [] = ap Absent (sym (one-add k))
  unfound-more k (e ∷ es) = ap (Stopped e.index) (sym (one-add k))

  walk-one : (most : ℕ) (e : Entry) (es : List Entry) → looked_through name (suc most) (e ∷ es) ≡ pick (named name e) (Found e.index e.node 1) (found_in_all 1 (looked_through name most es))
  unfolding looked_through on_entry find pick position lead lead_of
  walk-one most e es = go (named name e) (find (named name) (take most es))
    where
      go : (b : Bool) (o : Option Entry)
          → on_entry (unfound (suc (length (take most es))) (drop most es)) (λ x. Found x.index x.node (lead_of (not b) (lead other es) + 1)) (pick b (some e) o)
          ≡ pick b (Found e.index e.node 1) (found_in_all 1 (on_entry (unfound (length (take most es)) (drop most es)) (λ x. Found x.index x.node (lead other es + 1)) o))
      go true o = refl
      go false none = unfound-more (length (take most es)) (drop most es)
      go false (some x) = let h : suc (lead other es) + 1 ≡ 1 + (lead other es + 1) = omega arith in ap (Found x.index x.node) h

  -- ---- what is told

  abbrev entry : List Entry → ℕ → Entry
  entry es i = get_or es i (read_entry [])

  pub when-found : (most : ℕ) (es : List Entry) → lead other es < most → lead other es < length es → looked_through name most es ≡ Found (entry es (lead other es)).index (entry es (lead other es)).node (lead other es + 1)
  unfolding lead lead_of pick
  when-found zero es h b = absurd (not-suc-le-zero h)
  when-found (suc most) [] h b = absurd (not-suc-le-zero b)
  when-found (suc most) (e ∷ es) h b = walk-one most e es ∙ go (named name e) h b (when-found most es)
    where
      go : (t : Bool) → lead_of (not t) (lead other es) < suc most → lead_of (not t) (lead other es) < suc (length es)
          → (lead other es < most → lead other es < length es → looked_through name most es ≡ Found (entry es (lead other es)).index (entry es (lead other es)).node (lead other es + 1))
          → pick t (Found e.index e.node 1) (found_in_all 1 (looked_through name most es)) ≡ Found (entry (e ∷ es) (lead_of (not t) (lead other es))).index (entry (e ∷ es) (lead_of (not t) (lead other es))).node (lead_of (not t) (lead other es) + 1)
      go true h b ih = refl
      go false h b ih =
          let k : 1 + (lead other es + 1) ≡ suc (lead other es) + 1 = omega arith in
          rw (ih (omega arith) (omega arith)) (ap (Found (entry es (lead other es)).index (entry es (lead other es)).node) k)

  pub when-absent : (most : ℕ) (es : List Entry) → lead other es ≡ length es → length es ≤ most → looked_through name most es ≡ Absent (length es)
  unfolding lead lead_of pick
  when-absent most [] h b = walk_none most
  when-absent zero (e ∷ es) h b = absurd (not-suc-le-zero b)
  when-absent (suc most) (e ∷ es) h b = walk-one most e es ∙ go (named name e) h (when-absent most es)
    where
      go : (t : Bool) → lead_of (not t) (lead other es) ≡ suc (length es) → (lead other es ≡ length es → length es ≤ most → looked_through name most es ≡ Absent (length es))
          → pick t (Found e.index e.node 1) (found_in_all 1 (looked_through name most es)) ≡ Absent (suc (length es))
      go true h ih = absurd (omega arith)
      go false h ih = rw (ih (omega arith) (omega arith)) (ap Absent (one-add (length es)))

  pub when-stopped : (most : ℕ) (es : List Entry) → most ≤ lead other es → most < length es → looked_through name most es ≡ Stopped (entry es most).index most
  unfolding lead lead_of pick
  when-stopped most [] h b = absurd (not-suc-le-zero b)
  when-stopped zero (e ∷ es) h b = walk-stop e es
  when-stopped (suc most) (e ∷ es) h b = walk-one most e es ∙ go (named name e) h (when-stopped most es)
    where
      go : (t : Bool) → suc most ≤ lead_of (not t) (lead other es) → (most ≤ lead other es → most < length es → looked_through name most es ≡ Stopped (entry es most).index most)
          → pick t (Found e.index e.node 1) (found_in_all 1 (looked_through name most es)) ≡ Stopped (entry es most).index (suc most)
      go true h ih = absurd (not-suc-le-zero h)
      go false h ih = rw (ih (omega arith) (omega arith)) (ap (Stopped (entry es most).index) (one-add most))

  -- which of the three it is
  pub data Told (most : ℕ) (es : List Entry) : Search → Type 0 where
    told-found : lead other es < most → lead other es < length es → Told most es (Found (entry es (lead other es)).index (entry es (lead other es)).node (lead other es + 1))
    told-absent : lead other es ≡ length es → length es ≤ most → Told most es (Absent (length es))
    told-stopped : most ≤ lead other es → most < length es → Told most es (Stopped (entry es most).index most)

  pub told : (most : ℕ) (es : List Entry) → Told most es (looked_through name most es)
  told most es = go (dec_lt (lead other es) most) (dec_lt (lead other es) (length es)) (dec_lt most (length es))
    where
      le : lead other es ≤ length es
      le = lead-le other es

      go : Dec (lead other es < most) → Dec (lead other es < length es) → Dec (most < length es) → Told most es (looked_through name most es)
      go (yes h) (yes b) m = rw (when-found most es h b) (told-found h b)
      go (yes h) (no b) m =
          let q : lead other es ≡ length es = omega (arith, le) in
          let l : length es ≤ most = omega arith in
          rw (when-absent most es q l) (told-absent q l)
      go (no h) b (yes m) = let k : most ≤ lead other es = omega arith in rw (when-stopped most es k m) (told-stopped k m)
      go (no h) b (no m) =
          let q : lead other es ≡ length es = omega (arith, le) in
          let l : length es ≤ most = omega arith in
          rw (when-absent most es q l) (told-absent q l)

  -- ---- a greater limit

  pub looked-further : (most more : ℕ) (es : List Entry) → most ≤ more → (search_case (Ok (looked_through name most es)) ≡ 2 → ⊥) → looked_through name more es ≡ looked_through name most es
  looked-further most more es l n = go (looked_through name most es) (told most es) n
    where
      go : (s : Search) → Told most es s → (search_case (Ok s) ≡ 2 → ⊥) → looked_through name more es ≡ s
      go _ (told-found h b) n = when-found more es (omega arith) b
      go _ (told-absent h b) n = when-absent more es h (omega arith)
      go _ (told-stopped h b) n = absurd (n refl)

  -- ---- where it stopped, one goes on

  pub looked-on : (most more : ℕ) (es : List Entry) → most ≤ lead other es → found_in_all most (looked_through name more (drop most es)) ≡ looked_through name (most + more) es
  unfolding lead lead_of pick
  looked-on zero more es h = all_none (looked_through name more es) ∙ ap (λ m. looked_through name m es) (sym (zero-add more))
  looked-on (suc most) more [] h = absurd (not-suc-le-zero h)
  looked-on (suc most) more (e ∷ es) h = go (named name e) h refl (looked-on most more es) ∙ sym (walk-one (most + more) e es) ∙ ap (λ m. looked_through name m (e ∷ es)) (sym (suc-add most more))
    where
      go : (t : Bool) → suc most ≤ lead_of (not t) (lead other es) → named name e ≡ t → (most ≤ lead other es → found_in_all most (looked_through name more (drop most es)) ≡ looked_through name (most + more) es)
          → found_in_all (suc most) (looked_through name more (drop most es)) ≡ pick (named name e) (Found e.index e.node 1) (found_in_all 1 (looked_through name (most + more) es))
      go true h q ih = absurd (not-suc-le-zero h)
      go false h q ih = let k : most ≤ lead other es = omega arith in rw q (sym (all_one most (looked_through name more (drop most es))) ∙ ap (found_in_all 1) (ih k))

  -- ---- the full search

  other-unnamed : (e : Entry) → other e ≡ true → named name e ≡ false
  other-unnamed e h = go (named name e) h
    where
      go : (b : Bool) → not b ≡ true → b ≡ false
      go true q = absurd (false≢true q)
      go false q = refl

  pub first-named : (es : List Entry) → lead other es < length es → find (named name) es ≡ some (entry es (lead other es))
  first-named es h = find-found other (named name) (read_entry []) other-unnamed es h (go (named name (entry es (lead other es))) (lead-ends other (read_entry []) es h))
    where
      go : (b : Bool) → not b ≡ false → b ≡ true
      go true q = refl
      go false q = absurd (false≢true (sym q))

  pub none_named : (es : List Entry) → lead other es ≡ length es → find (named name) es ≡ none
  none_named es h = find-behind other (named name) other-unnamed es ∙ ap (λ k. find (named name) (drop k es)) h ∙ nothing
    where
      nothing : find (named name) (drop (length es) es) ≡ none
      nothing = unfold find in rw (drop-length es)
