-- A path as code takes it: it is cut, and refused, or its parts lead somewhere.
-- Assumes nothing.
use Rattle.std.specs.Prelude.{Ok, Err}
use mathlib.Core.Path.{◌≡◌, refl, sym, ap, ◌∙◌}
use mathlib.Core.Bool.{Bool, true, false}
use mathlib.Core.List.{List}
use Prim.Native.Nat.{ℕ, ◌≤◌, ◌<◌}
use lib.ListN.{length}
use borrow.Author.Tests.{lt-ltb, le-ltb}
use Rattle.words.specs.Rules.{pick}
use Rattle.words.proofs.Rules.{pick_true, pick-false}
use Rattle.paths.specs.Path.{cut_path, ends_open}
use Rattle.paths.specs.declared.Parts.{Parts}
use Rattle.paths.specs.declared.PathError.{PathError}
use Rattle.paths.specs.declared.PathError.TheVariants.{NotPermitted, TooLong}
use Rattle.paths.specs.Shown.{Cut, Cutout, cutout, path_refusal, shown_parts, CutShows}
use Rattle.paths.proofs.Shown.{length-shown}
use Rattle.paths.proofs.Bounds.{told-parts, told-refused, told-long}
use Rattle.types.specs.declared.Error.{Error}
use Rattle.types.specs.declared.Error.TheVariants.{PathNotPermitted, InvalidArgument}
use Rattle.volume.specs.Volume.{Names}
use Rattle.names.specs.Walks.{on_cutting, means_directory}
use Rattle.directories.specs.Reaches.{Reach, reach_from, reach_directory, reach_parts, reach_path}

module _ (start : ℕ) (path : List ℕ) (least : ℕ) (a : Names) where
  -- the cut is refused
  pub path-uncut : (e : PathError) {ss ls : List ℕ} → CutShows path (cutout (Err e) ss ls) (cut_path path) (ends_open path) → Err (path_refusal e) ≡ reach_path start path least a
  unfolding reach_path on_cutting
  path-uncut NotPermitted told = rw (told-refused told refl) refl
  path-uncut TooLong told = rw (told-long told refl) refl

  pub path-barred : (c : Cut) → c ≡ Err NotPermitted → {ss ls : List ℕ} → CutShows path (cutout c ss ls) (cut_path path) (ends_open path) → Err PathNotPermitted ≡ reach_path start path least a
  path-barred c e told = path-uncut NotPermitted (rw e at told)

  pub path-long : (c : Cut) → c ≡ Err TooLong → {ss ls : List ℕ} → CutShows path (cutout c ss ls) (cut_path path) (ends_open path) → Err InvalidArgument ≡ reach_path start path least a
  path-long c e told = path-uncut TooLong (rw e at told)

  module _ {c : Cutout} (told : CutShows path c (cut_path path) (ends_open path)) {t : Parts} (cut : c.cut ≡ Ok t) where
    abbrev ps : List (List ℕ)
    ps = shown_parts path c.starts c.lengths t.count

    many : length ps ≡ t.count
    many = length-shown path c.starts c.lengths t.count

    pub path-few : t.count < least → Err PathNotPermitted ≡ reach_path start path least a
    unfolding reach_path on_cutting
    path-few h = rw (told-parts told cut) (pick_true _ _ _ _ (lt-ltb (length ps) least (rw many h)) refl)

    path-leads : least ≤ t.count → {r : Reach} → r ≡ reach_parts start path a ps → r ≡ reach_path start path least a
    unfolding reach_path on_cutting
    path-leads h e = rw (told-parts told cut) (pick-false _ _ _ _ (le-ltb (length ps) least (rw many h)) e)

    -- the flag of the cut says whether the path means a directory
    flagged : t.opened ≡ means_directory path ps
    unfolding means_directory
    flagged = rw many (told.flag t cut)

    -- its parts lead nowhere
    pub path-stopped : least ≤ t.count → {x : Error} → Err x ≡ reach_from start a ps → Err x ≡ reach_path start path least a
    unfolding reach_parts reach_directory pick
    path-stopped h {x} e = path-leads h (rw (← e) (go (means_directory path ps)))
      where
        go : (b : Bool) → ◌≡◌ {A = Reach} (Err x) (pick b (Err x) (Err x))
        go true = refl
        go false = refl

    module _ (h : least ≤ t.count) {r : Reach} (e : r ≡ reach_from start a ps) where
      pub path-anywhere : t.opened ≡ false → r ≡ reach_path start path least a
      unfolding reach_parts
      path-anywhere f = path-leads h (pick-false _ _ _ _ (sym flagged ∙ f) e)

      pub path-judged : t.opened ≡ true → {x : Reach} → x ≡ reach_directory a r → x ≡ reach_path start path least a
      unfolding reach_parts
      path-judged u i = path-leads h (pick_true _ _ _ _ (sym flagged ∙ u) (i ∙ ap (reach_directory a) e))
