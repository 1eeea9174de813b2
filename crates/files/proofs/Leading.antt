-- What a chain answers that counts, from a row on, the rows that pass a test until one fails it.
-- Assumes nothing.
use Rattle.std.specs.Prelude.{Bool, true, false, cond}
use mathlib.Core.Path.{◌≡◌, refl, sym, ◌∙◌}
use mathlib.Core.List.{List, [], ◌∷◌, map}
use Prim.Native.Nat.{ℕ, zero, suc, ◌+◌, ◌-◌, ◌≤◌, ◌<◌}
use native.Mathlib.Numerals.{add-one, one-add}
use native.Mathlib.Omega.{arith}
use denote.Param.Members.{Mut}
use denote.Ref.{Bor}
use lib.ListN.{length, drop, get_or, drop_of_length-le}
use lib.Seq.{drop-cons}
use Rattle.std.specs.Fn.{Called, CalledAt}
use Rattle.std.specs.Iterator.{Drains}
use Rattle.std.specs.Iterator.Adapters.{map_source, map_callee, map_steps, take_while_source, take_while_done, take_while_callee, take_while_steps}
use Rattle.std.specs.List.{range_with_len, prefix_len}
use Rattle.std.specs.declared.ops.Range.{Range}
use Rattle.std.specs.declared.iter.Map.{Map}
use Rattle.std.specs.declared.iter.TakeWhile.{TakeWhile}
use Rattle.std.proofs.iter.Yields.{nat_range_steps}
use Rattle.std.proofs.lemmas.Iterator.{YieldsList-from_range, YieldsList-from_map}
use Rattle.std.proofs.lemmas.Iterator.Consumers.{YieldsList-at, count_from_yields_List}
use Rattle.std.proofs.lemmas.Iterator.Search.{YieldsList-from_take_while}
use Rattle.std.proofs.lemmas.List.Folds.{length-prefix_len}
use Rattle.words.specs.Tables.{lead, lead_of}

drop-next : {R : Type 0} (rs : List R) (d : R) (a : ℕ) → a < length rs → drop a rs ≡ get_or rs a d ∷ drop (a + 1) rs
drop-next rs d a h = rw (add-one) (drop-cons rs a d h)

-- the rows from one on, each read by its place
rows_read : {R : Type 0} (rs : List R) (d : R) (a n : ℕ) → a + n ≡ length rs → map (λ i. get_or rs i d) (range_with_len a n) ≡ drop a rs
rows_read rs d a zero e = sym (drop_of_length-le rs (omega arith))
rows_read rs d a (suc n) e = rw (rows_read rs d (a + 1) n (omega arith)) (sym (drop-next rs d a (omega arith)))

lead_more : (b : Bool) (k : ℕ) → cond b (1 + k) 0 ≡ lead_of b k
unfolding lead_of
lead_more true k = one-add k
lead_more false k = refl

-- as many rows lead as std counts at the front
prefix-lead : {R : Type 0} (test : R → Bool) (rs : List R) → prefix_len test rs ≡ lead test rs
unfolding lead lead_of
prefix-lead test [] = refl
prefix-lead test (r ∷ rs) = rw (prefix-lead test rs) (lead_more (test r) (lead test rs))

module _ {F G R : Type 0} {row : Mut F (ℕ × Unit {0}) R} {passes : Mut G (Bor R × Unit {0}) Bool} {f : F} {g : G} {m : Map (Range ℕ) F} {w : TakeWhile (Map (Range ℕ) F) G} {first used r : ℕ} where
  pub leading_from_count : (rs : List R) (d : R) (test : R → Bool) → used ≡ length rs → first ≤ length rs
      → map_source m ≡ record { start = first; end = used } → map_callee m ≡ f → take_while_source w ≡ m → take_while_callee w ≡ g → take_while_done w ≡ false
      → (xs : List R) × Drains (take_while_steps (map_steps nat_range_steps row) passes) w xs × (r ≡ length xs)
      → ((i : ℕ) (x : R) (q : F) → Called row f (i, tt) x q → (q ≡ f) × (x ≡ get_or rs i d))
      → ((x : R) (b : Bool) (q : G) → CalledAt passes g x b q → (q ≡ g) × (b ≡ test x))
      → r ≡ lead test (drop first rs)
  leading_from_count rs d test u h ms mc ws wc wd ran reads tests =
      count_from_yields_List w r ran (YieldsList-from_take_while passes test (YieldsList-at ws (YieldsList-from_map row (λ i. get_or rs i d) (YieldsList-at ms (YieldsList-from_range first used _ refl refl)) mc reads)) wc wd tests) ∙ rw (length-prefix_len, rows_read rs d first (used - first) (omega arith)) (prefix-lead test (drop first rs))
