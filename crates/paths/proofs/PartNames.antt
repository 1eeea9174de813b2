-- The parts that a path is cut into: each is a name but for its length, and there are no more than the arrays hold.
-- Assumes nothing.
use Rattle.std.specs.Prelude.{Ok, Err}
use mathlib.Core.Path.{◌≡◌, refl, ap}
use mathlib.Core.Bool.{Bool, true, false}
use mathlib.Core.List.{List, [], ◌∷◌, ◌++◌}
use Prim.Native.Nat.{ℕ, ◌-◌, ◌≤◌, ◌<◌}
use native.Mathlib.Omega.{arith}
use lib.Dec.{eqb, ltb}
use lib.ListN.{length, take, get_or}
use Rattle.words.specs.Bytes.{zeros}
use Rattle.words.specs.Rules.{pick, both}
use Rattle.words.specs.Tables.{Each}
use Rattle.words.proofs.Parts.{length-zeros}
use Rattle.words.proofs.Order.{each_append, each_take}
use Rattle.types.specs.Sizes.{most_path, most_parts}
use Rattle.paths.specs.declared.PathError.TheVariants.{NotPermitted, TooLong}
use Rattle.paths.specs.declared.Sort.{Sort}
use Rattle.paths.specs.Path.{Cutting, parts, not_permitted, too_long, slash, cons, split, walk, cut_path, no_slash, IsPart}
use Rattle.paths.specs.Shown.{Cut, Cutout, shown_parts, CutShows}
use Rattle.paths.proofs.Sorts.{Sorted, is-dropped, is-upward, is_plain_name, sorted}
use Rattle.paths.proofs.Splitting.{split-some}
use Rattle.paths.proofs.Names.{named}
use Rattle.paths.proofs.Shown.{length-shown}
use Rattle.paths.proofs.Bounds.{cut-told, told-parts, told-refused, told-long}

abbrev Whole : List ℕ → Type 0
Whole p = no_slash p ≡ true

cons-whole : (b : ℕ) (ps : List (List ℕ)) → 0 < length ps → Each Whole ps → Each Whole (cons b ps)
unfolding Each cons pick no_slash both
cons-whole b [] h e = absurd (omega arith)
cons-whole b (p ∷ ps) h e = go (eqb b slash) refl
  where
    go : (t : Bool) → eqb b slash ≡ t → Each Whole (pick t ([] ∷ (p ∷ ps)) ((b ∷ p) ∷ ps))
    go true f = (refl, e)
    go false f = (rw f e.0, e.1)

pieces_whole : (l : List ℕ) → Each Whole (split l)
unfolding Each split no_slash
pieces_whole [] = (refl, tt)
pieces_whole (b ∷ l) = cons-whole b (split l) (split-some l) (pieces_whole l)

-- what a cutting gives are parts
AllParts : Cutting → Type 0
AllParts (parts ps) = Each IsPart ps
AllParts not_permitted = Unit {0}
AllParts too_long = Unit {0}

walk-sorted : (ps : List (List ℕ)) (p : List ℕ) (rest : List (List ℕ)) → Each IsPart ps → Each Whole (p ∷ rest)
    → ((qs : List (List ℕ)) → Each IsPart qs → AllParts (walk qs rest)) → {s : Sort} → Sorted p s → AllParts (walk ps (p ∷ rest))
unfolding walk pick AllParts Each
walk-sorted ps p rest e w more (is-dropped d) = rw d (more ps e)
walk-sorted ps p rest e w more (is-upward d u) = rw (d, u) (go (eqb (length ps) 0))
  where
    go : (t : Bool) → AllParts (pick t not_permitted (walk (take (length ps - 1) ps) rest))
    go true = tt
    go false = more (take (length ps - 1) ps) (each_take IsPart (length ps - 1) ps e)
walk-sorted ps p rest e w more (is_plain_name d u) = rw (d, u) (more (ps ++ (p ∷ [])) (each_append IsPart ps (p ∷ []) e (named p w.0 d u, tt)))

walk-good : (ps rest : List (List ℕ)) → Each IsPart ps → Each Whole rest → AllParts (walk ps rest)
unfolding walk AllParts Each
walk-good ps [] e w = e
walk-good ps (p ∷ rest) e w = walk-sorted ps p rest e w (λ qs f. walk-good qs rest f w.1) (sorted p)

cut-good : (path : List ℕ) → AllParts (cut_path path)
unfolding cut_path pick AllParts Each
cut-good path = go (ltb most_path (length path)) (eqb (get_or path 0 0) slash)
  where
    go : (t u : Bool) → AllParts (pick t too_long (pick u not_permitted (walk [] (split path))))
    go true u = tt
    go false true = tt
    go false false = walk-good [] (split path) tt (pieces_whole path)

pub parts-names : (path : List ℕ) (ps : List (List ℕ)) → cut_path path ≡ parts ps → Each IsPart ps
unfolding AllParts
parts-names path ps e = rw e at (cut-good path)

module _ (path : List ℕ) (ps : List (List ℕ)) (e : cut_path path ≡ parts ps) where
  few-of : (o : Cutout) (b : Bool) → CutShows path o (cut_path path) b → (r : Cut) → o.cut ≡ r → length ps ≤ most_parts
  few-of o b told (Ok p) f =
      let g = told-parts told f in
      let h : shown_parts path o.starts o.lengths p.count ≡ ps = cc in
      omega (arith, ap length h, length-shown path o.starts o.lengths p.count, (told.fits p f).few)
  few-of o b told (Err NotPermitted) f =
      let g = told-refused told f in
      let z : ◌≡◌ {A = ℕ} 0 1 = cc in omega arith
  few-of o b told (Err TooLong) f =
      let g = told-long told f in
      let z : ◌≡◌ {A = ℕ} 0 1 = cc in omega arith

  pub parts-few : length ps ≤ most_parts
  parts-few = few-of _ _ (cut-told path (zeros most_parts) (zeros most_parts) (length-zeros most_parts) (length-zeros most_parts) refl) _ refl
