-- One turn of the walk over the pieces of a path, as the code takes it.
-- Assumes nothing.
use Rattle.std.specs.Prelude.{Ok, Err}
use Rattle.std.specs.List.{starts_with}
use mathlib.Core.Path.{◌≡◌, refl, sym, ◌∙◌}
use mathlib.Core.Bool.{Bool, true, false, not, ◌&&◌}
use mathlib.Core.List.{List, [], ◌∷◌, ◌++◌}
use Prim.Native.Nat.{ℕ, ◌+◌, ◌-◌, ◌*◌, ◌≤◌, ◌<◌}
use native.Mathlib.Omega.{arith}
use lib.Dec.{eqb, ltb}
use borrow.Author.Tests.{eq-eqb, ne_eqb, eqb-true, eqb-false, lt-ltb, le-ltb}
use lib.ListN.{length, take, drop, get_or}
use Rattle.words.specs.Bytes.{part}
use Rattle.words.specs.Rules.{both, count}
use Rattle.words.proofs.Joined.{both_true}
use Rattle.words.proofs.Rules.{pick_true, pick-false}
use Rattle.words.proofs.Parts.{length_part, part-snoc, part_none}
use Rattle.types.specs.Sizes.{most_path}
use Rattle.paths.specs.declared.Parts.{Parts}
use Rattle.paths.specs.declared.PathError.TheVariants.{NotPermitted, TooLong}
use Rattle.paths.specs.declared.PathError.{PathError}
use Rattle.paths.specs.Path.{slash, dot, no_slash}
use Rattle.paths.specs.Bounds.{Bounds, walk_bounds, cut_bounds}
use Rattle.paths.specs.Shown.{Cut, Cutout, cutout}
use Rattle.paths.specs.Pieces.{sort_of, placed_as}
use Rattle.paths.proofs.Dots.{Pieced, dots_few, sort-dotted}
use Rattle.paths.proofs.Dots as dots
use Rattle.paths.proofs.Pieces.{left}
use Rattle.paths.proofs.LeftWalk.{bounds, resumed}
use Rattle.paths.proofs.LeftWalk as from

-- ---- the walk before a byte of the path

no-slash-snoc : (a : List ℕ) (x : ℕ) → no_slash a ≡ true → eqb x slash ≡ false → no_slash (a ++ (x ∷ [])) ≡ true
unfolding no_slash both
no-slash-snoc [] x h e = rw e refl
no-slash-snoc (y ∷ a) x h e = let k = both_true (not (eqb y slash)) (no_slash a) h in rw k.0 (no-slash-snoc a x k.1 e)

no-slash-none : no_slash [] ≡ true
unfolding no_slash
no-slash-none = refl

-- the pieces that end before index end are placed; the bytes from index at up to it, none of them a slash, begin the next one
pub record Walking (path : List ℕ) (at end : ℕ) (b : Bounds) (w : Cutout) : Type 0 where
  pub short : length path ≤ most_path
  pub begun : at ≤ end
  pub half : 2 * b.count ≤ at
  pub whole : no_slash (part path at (end - at)) ≡ true
  pub walks : w ≡ walk_bounds at b (left path at)

-- a byte that is no slash
pub walk-on : {path : List ℕ} {at end : ℕ} {b : Bounds} {w : Cutout} → Walking path at end b w → end < length path → (get_or path end 0 ≡ slash → ⊥) → Walking path at (end + 1) b w
walk-on {path} {at} {end} l h n =
    let m : end + 1 - at ≡ end - at + 1 = omega (arith, l.begun) in
    let i : at + (end - at) ≡ end = omega (arith, l.begun) in
    let p : part path at (end + 1 - at) ≡ part path at (end - at) ++ (get_or path end 0 ∷ []) = rw (m, part-snoc path at (end - at) (omega (arith, l.begun)), i) refl in
    record {
      short = l.short;
      begun = omega (arith, l.begun);
      half = l.half;
      whole = rw p (no-slash-snoc (part path at (end - at)) (get_or path end 0) l.whole (ne_eqb _ _ n));
      walks = l.walks;
    }

-- the piece ends at index end: a slash, or the path's end
module _ {path : List ℕ} {at end k : ℕ} {o : Bool} {ss ls : List ℕ} {w : Cutout} (l : Walking path at end (bounds ss ls k o) w) (within : end ≤ length path) where
  pub piece-length : length (take (end - at) (drop at path)) ≡ end - at
  unfolding part
  piece-length = length_part path at (end - at) (omega (arith, l.begun))

  module _ (closed : end < length path → get_or path end 0 ≡ slash) {c : Cut} {ss' ls' : List ℕ}
      (placed : cutout c ss' ls' ≡ placed_as (sort_of (take (end - at) (drop at path))) at (length (take (end - at) (drop at path))) k ss ls) where
    same-length : end + 1 - at - 1 ≡ end - at
    same-length = omega (arith, l.begun)

    pieced : Pieced path at (end + 1 - at - 1) (count dot (part path at (end - at)))
    pieced =
        let m : length (part path at (end - at)) ≡ end - at = length_part path at (end - at) (omega (arith, l.begun)) in
        let i : at + (end - at) ≡ end = omega (arith, l.begun) in
        rw same-length (record { within = omega (arith, l.begun); whole = l.whole; closed = λ h. rw i (closed (omega (arith, i))); dotted = refl; few = rw m at (dots_few (part path at (end - at))) })

    dotted : cutout c ss' ls' ≡ placed_as (dots.sort_of (end + 1 - at - 1) (count dot (part path at (end - at)))) at (end + 1 - at - 1) k ss ls
    unfolding part
    dotted = rw same-length (rw (sort-dotted (take (end - at) (drop at path)), piece-length) at placed)

    walked : w ≡ resumed c ss' ls' (end + 1) (left path (end + 1))
    walked = from.walk_more path at (end + 1) _ k o ss ls l.walks (omega (arith, l.begun)) pieced dotted

    pub walk-barred : {error : PathError} → c ≡ Err error → cutout (Err error) ss' ls' ≡ w
    unfolding resumed
    walk-barred f = sym (rw f at walked)

    module _ {made : Parts} (f : c ≡ Ok made) where
      turned : w ≡ walk_bounds (end + 1) (bounds ss' ls' made.count made.opened) (left path (end + 1))
      turned = from.walk_turn path at (end + 1) _ k o ss ls l.walks (omega (arith, l.begun)) pieced dotted f

      pub walk_turn : 2 * made.count ≤ end + 1 → Walking path (end + 1) (end + 1) (bounds ss' ls' made.count made.opened) w
      walk_turn h = record { short = l.short; begun = omega arith; half = h; whole = rw (part_none path (end + 1) (end + 1)) no-slash-none; walks = turned }

      -- it was the last one: `opened && 0 < count`
      walk_end : length path ≤ end → cutout (Ok (record { count = made.count; opened = both made.opened (ltb 0 made.count) })) ss' ls' ≡ w
      walk_end h = from.walk_end path (end + 1) made.count made.opened ss' ls' turned (omega arith)

      pub walk-open : length path ≤ end → made.opened ≡ true → cutout (Ok (record { count = made.count; opened = ltb 0 made.count })) ss' ls' ≡ w
      unfolding both
      walk-open h e = rw e at (walk_end h)

      pub walk-shut : length path ≤ end → made.opened ≡ false → cutout (Ok (record { count = made.count; opened = made.opened })) ss' ls' ≡ w
      unfolding both
      walk-shut h e = rw e (rw e at (walk_end h))

-- ---- the whole of it

-- a slash in front, as std's `starts_with` says it
pub leads : (path : List ℕ) → starts_with eqb path (slash ∷ []) ≡ eqb (get_or path 0 0) slash
leads [] = refl
leads (x ∷ path) = go (eqb x slash) refl
  where
    go : (t : Bool) → eqb x slash ≡ t → (eqb slash x && true) ≡ t
    go true e = rw (eq-eqb slash x (sym (eqb-true _ _ e))) refl
    go false e = rw (ne_eqb slash x (λ k. eqb-false _ _ e (sym k))) refl

module _ (path ss ls : List ℕ) where
  pub cut-long : most_path < length path → cutout (Err TooLong) ss ls ≡ cut_bounds path ss ls
  unfolding cut_bounds
  cut-long h = pick_true _ _ _ _ (lt-ltb _ _ h) refl

  module _ {s : Bool} (h : length path ≤ most_path) (e : s ≡ eqb (get_or path 0 0) slash) where
    pub cut-led : s ≡ true → cutout (Err NotPermitted) ss ls ≡ cut_bounds path ss ls
    unfolding cut_bounds
    cut-led f = pick-false _ _ _ _ (le-ltb _ _ h) (pick_true _ _ _ _ (sym e ∙ f) refl)

    pub walk_start : s ≡ false → Walking path 0 0 (bounds ss ls 0 true) (cut_bounds path ss ls)
    walk_start f = record { short = h; begun = omega arith; half = omega arith; whole = rw (part_none path 0 0) no-slash-none; walks = from.walk_start path ss ls h e f }

-- ---- what the code needs

pub ruleset walking = (cut-long)
