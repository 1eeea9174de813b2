-- The walk over the pieces that are left of a path from an index on: its start, a turn of it, and its end.
-- Assumes nothing.
use Rattle.std.specs.Prelude.{Ok, Err}
use mathlib.Core.Path.{◌≡◌, refl, sym, ◌∙◌}
use mathlib.Core.Bool.{Bool, true, false}
use mathlib.Core.List.{List, ◌∷◌}
use Prim.Native.Nat.{ℕ, ◌+◌, ◌-◌, ◌≤◌, ◌<◌}
use native.Mathlib.Omega.{arith}
use lib.Dec.{eqb, ltb}
use borrow.Author.Tests.{le-ltb}
use lib.ListN.{length, get_or}
use Rattle.words.specs.Bytes.{part}
use Rattle.words.specs.Rules.{pick, both}
use Rattle.words.proofs.Rules.{pick_true, pick-false}
use Rattle.words.proofs.Parts.{length_part}
use Rattle.types.specs.Sizes.{most_path}
use Rattle.paths.specs.declared.Sort.{Sort}
use Rattle.paths.specs.declared.Sort.TheVariants.{Dropped, Upward, Name}
use Rattle.paths.specs.Path.{slash}
use Rattle.paths.specs.Bounds.{Bounds, walk_bounds, cut_bounds}
use Rattle.paths.specs.Shown.{Cut, Cutout, cutout}
use Rattle.paths.specs.Pieces.{placed_as}
use Rattle.paths.proofs.Sorts.{Sorted, is-dropped, is-upward, is_plain_name}
use Rattle.paths.proofs.Dots.{Pieced, sort_of, sorted}
use Rattle.paths.proofs.Pieces.{left, left-all, left-none, left-more}

abbrev pub bounds : List ℕ → List ℕ → ℕ → Bool → Bounds
bounds ss ls k o = record { starts = ss; lengths = ls; count = k; opened = o }

-- ---- a piece is taken

unfoldable pub resumed : Cut → List ℕ → List ℕ → ℕ → List (List ℕ) → Cutout
resumed (Ok p) ss ls at rest = walk_bounds at (bounds ss ls p.count p.opened) rest
resumed (Err e) ss ls at rest = cutout (Err e) ss ls

resumed-pick : (t : Bool) (x y : Cutout) (at : ℕ) (rest : List (List ℕ)) → resumed (pick t x y).cut (pick t x y).starts (pick t x y).lengths at rest ≡ pick t (resumed x.cut x.starts x.lengths at rest) (resumed y.cut y.starts y.lengths at rest)
unfolding pick
resumed-pick true x y at rest = refl
resumed-pick false x y at rest = refl

pub walk-sorted : (at : ℕ) (b : Bounds) (p : List ℕ) (rest : List (List ℕ)) (s : Sort) {q : Cutout} → Sorted p s → q ≡ placed_as s at (length p) b.count b.starts b.lengths
    → walk_bounds at b (p ∷ rest) ≡ resumed q.cut q.starts q.lengths (at + length p + 1) rest
unfolding walk_bounds resumed
walk-sorted at b p rest Dropped (is-dropped h) e = rw e (sym (pick_true _ _ _ _ h refl))
walk-sorted at b p rest Upward (is-upward h k) e = rw e (sym (pick-false _ _ _ _ h (pick_true _ _ _ _ k (resumed-pick _ _ _ _ _))))
walk-sorted at b p rest Name (is_plain_name h k) e = rw e (sym (pick-false _ _ _ _ h (pick-false _ _ _ _ k refl)))

-- the pieces of a path from index at on, the first of which was placed
module _ (path : List ℕ) (at next dots k : ℕ) (o : Bool) (ss ls : List ℕ) {st : Cut} {ss' ls' : List ℕ} {w : Cutout}
    (i : w ≡ walk_bounds at (bounds ss ls k o) (left path at)) (h : at < next) (p : Pieced path at (next - at - 1) dots)
    (e : cutout st ss' ls' ≡ placed_as (sort_of (next - at - 1) dots) at (next - at - 1) k ss ls) where
  pub walk_more : w ≡ resumed st ss' ls' next (left path next)
  walk_more =
      let n = next - at - 1 in
      let q : length (part path at n) ≡ n = length_part path at n p.within in
      let r : at + n + 1 ≡ next = omega arith in
      let s : Sorted (part path at n) (sort_of n dots) = rw (q, ← p.dotted) at (sorted (part path at n)) in
      let f : cutout st ss' ls' ≡ placed_as (sort_of n dots) at (length (part path at n)) k ss ls = rw q e in
      i ∙ rw (left-more path at n p.within p.whole p.closed, r) (rw (q, r) at (walk-sorted at (bounds ss ls k o) (part path at n) (left path (at + n + 1)) (sort_of n dots) s f))

  pub walk_turn : {k' : ℕ} {o' : Bool} → st ≡ Ok (record { count = k'; opened = o' }) → w ≡ walk_bounds next (bounds ss' ls' k' o') (left path next)
  unfolding resumed
  walk_turn f = rw f at walk_more

-- ---- no piece is left

module _ (path : List ℕ) (at k : ℕ) (o : Bool) (ss ls : List ℕ) {w : Cutout} (i : w ≡ walk_bounds at (bounds ss ls k o) (left path at)) (h : length path < at) where
  pub walk_end : cutout (Ok (record { count = k; opened = both o (ltb 0 k) })) ss ls ≡ w
  unfolding walk_bounds
  walk_end = sym (rw (left-none path at h) at i)

-- ---- none is taken yet

module _ (path ss ls : List ℕ) {s : Bool} (h : length path ≤ most_path) (e : s ≡ eqb (get_or path 0 0) slash) where
  pub walk_start : s ≡ false → cut_bounds path ss ls ≡ walk_bounds 0 (bounds ss ls 0 true) (left path 0)
  unfolding cut_bounds
  walk_start f = sym (pick-false _ _ _ _ (le-ltb _ _ h) (pick-false _ _ _ _ (sym e ∙ f) (rw left-all)))
