-- The pieces left of a path from a place on, and what a piece of each sort makes of the bounds.
-- Assumes nothing.
use Rattle.std.specs.Prelude.{Ok, Err}
use mathlib.Core.Path.{◌≡◌, refl, sym, ap, ◌∙◌}
use mathlib.Core.Bool.{Bool, true, false}
use mathlib.Core.List.{List, [], ◌∷◌, ◌++◌, append-nil}
use Prim.Native.Nat.{ℕ, suc, ◌+◌, ◌-◌, ◌≤◌, ◌<◌}
use native.Mathlib.Numerals.{add-one}
use native.Mathlib.Omega.{arith}
use native.Mathlib.Decide.{dec_lt}
use lib.Dec.{eqb, ltb}
use borrow.Author.Tests.{eq-eqb, ne_eqb, eqb-true, lt-ltb, le-ltb, not-true}
use lib.ListN.{length, take, drop, get_or, set, length-drop, drop_of_length-le}
use lib.Seq.{drop-cons, get_or-drop}
use Rattle.words.specs.Bytes.{part}
use Rattle.words.specs.Rules.{pick, both}
use Rattle.words.proofs.Joined.{both_true}
use Rattle.words.proofs.Rules.{pick_true, pick-false}
use Rattle.words.proofs.Parts.{cut-drop}
use Rattle.paths.specs.declared.Sort.{Sort}
use Rattle.paths.specs.declared.Sort.TheVariants.{Dropped, Upward, Name}
use Rattle.paths.specs.declared.PathError.TheVariants.{NotPermitted}
use Rattle.paths.specs.Path.{slash, cons, split, no_slash}
use Rattle.paths.specs.Shown.{cutout}
use Rattle.paths.specs.Pieces.{placed_as}
use Rattle.paths.proofs.Splitting.{split-some, cons-slash}

-- ---- the pieces from index at on: none past the path's end

unfoldable pub left : List ℕ → ℕ → List (List ℕ)
left path at = pick (ltb (length path) at) [] (split (drop at path))

-- a byte that is no slash in front of pieces
cons-other : (b : ℕ) (p : List ℕ) {ps qs : List (List ℕ)} → eqb b slash ≡ false → qs ≡ p ∷ ps → cons b qs ≡ (b ∷ p) ∷ ps
unfolding cons pick
cons-other b p e f = rw (f, e)

split-whole : (p : List ℕ) → no_slash p ≡ true → split p ≡ p ∷ []
unfolding split no_slash
split-whole [] h = refl
split-whole (b ∷ p) h = let k = both_true _ _ h in cons-other b p (not-true _ k.0) (split-whole p k.1)

split-slash : (p l : List ℕ) → no_slash p ≡ true → split (p ++ (slash ∷ l)) ≡ p ∷ split l
unfolding split no_slash
split-slash [] l h = cons-slash slash (split l) refl (split-some l)
split-slash (b ∷ p) l h = let k = both_true _ _ h in cons-other b p (not-true _ k.0) (split-slash p l k.1)

left_in : (path : List ℕ) (at : ℕ) → at ≤ length path → left path at ≡ split (drop at path)
unfolding left
left_in path at h = sym (pick-false _ _ _ _ (le-ltb (length path) at h) refl)

pub left-all : (path : List ℕ) → left path 0 ≡ split path
left-all path = left_in path 0 (omega arith)

pub left-none : (path : List ℕ) (at : ℕ) → length path < at → left path at ≡ []
unfolding left
left-none path at h = sym (pick_true _ _ _ _ (lt-ltb (length path) at h) refl)

-- a whole piece, and those behind it
pub left-more : (path : List ℕ) (at n : ℕ) → at + n ≤ length path → no_slash (part path at n) ≡ true → (at + n < length path → get_or path (at + n) 0 ≡ slash) → left path at ≡ part path at n ∷ left path (at + n + 1)
left-more path at n within whole closed = here ∙ go (dec_lt (at + n) (length path))
  where
    here : left path at ≡ split (part path at n ++ drop (at + n) path)
    here = left_in path at (omega arith) ∙ ap split (cut-drop path at n)

    go : Dec (at + n < length path) → split (part path at n ++ drop (at + n) path) ≡ part path at n ∷ left path (at + n + 1)
    go (yes h) =
        let d : drop (at + n) path ≡ slash ∷ drop (at + n + 1) path = drop-cons path (at + n) 0 h ∙ rw (closed h, add-one (at + n)) in
        rw (d, left_in path (at + n + 1) (omega arith)) (split-slash (part path at n) (drop (at + n + 1) path) whole)
    go (no h) =
        let d : drop (at + n) path ≡ [] = drop_of_length-le path (omega arith) in
        rw (d, left-none path (at + n + 1) (omega arith), append-nil) (split-whole (part path at n) whole)

-- ---- the first of them

-- l begins with the whole piece p
record Begins (l p : List ℕ) : Type 0 where
  within : length p ≤ length l
  stands : take (length p) l ≡ p
  whole : no_slash p ≡ true
  closed : length p < length l → get_or l (length p) 0 ≡ slash

begins-cons : (b : ℕ) (l : List ℕ) (ps : List (List ℕ)) (t : Bool) → eqb b slash ≡ t → 0 < length ps → Begins l (get_or ps 0 []) → Begins (b ∷ l) (get_or (cons b ps) 0 [])
unfolding cons pick no_slash both
begins-cons b l [] t e s h = absurd (omega arith)
begins-cons b l (p ∷ ps) true e s h = rw e (record { within = omega arith; stands = refl; whole = refl; closed = λ k. eqb-true b slash e })
begins-cons b l (p ∷ ps) false e s h = rw e (record { within = omega (arith, h.within); stands = ap (λ m. b ∷ m) h.stands; whole = rw (e, h.whole) refl; closed = λ k. h.closed (omega arith) })

begins : (l : List ℕ) → Begins l (get_or (split l) 0 [])
unfolding split no_slash
begins [] = record { within = omega arith; stands = refl; whole = refl; closed = λ k. absurd (omega arith) }
begins (b ∷ l) = begins-cons b l (split l) (eqb b slash) refl (split-some l) (begins l)

begins-at : (path : List ℕ) (at : ℕ) (p : List ℕ) → Begins (drop at path) p → part path at (length p) ≡ p
unfolding part
begins-at path at p b = b.stands

-- it stands in the path, and the others behind it
pub left-first : (path : List ℕ) (at : ℕ) (p : List ℕ) (ps : List (List ℕ)) → left path at ≡ p ∷ ps → (at + length p ≤ length path) × (ps ≡ left path (at + length p + 1))
left-first path at p ps e = go (dec_lt (length path) at)
  where
    go : Dec (length path < at) → (at + length p ≤ length path) × (ps ≡ left path (at + length p + 1))
    go (yes k) = let z : ◌≡◌ {A = ℕ} 0 (suc (length ps)) = ap length (sym (left-none path at k) ∙ e) in absurd (omega arith)
    go (no k) =
        let first : get_or (split (drop at path)) 0 [] ≡ p = ap (λ l. get_or l 0 []) (sym (left_in path at (omega arith)) ∙ e) in
        let b : Begins (drop at path) p = rw first at (begins (drop at path)) in
        let n : length (drop at path) ≡ length path - at = length-drop at path in
        let within : at + length p ≤ length path = omega (arith, b.within) in
        let stands : part path at (length p) ≡ p = begins-at path at p b in
        let more = left-more path at (length p) within (rw stands b.whole) (λ h. sym (get_or-drop at path (length p) 0) ∙ b.closed (omega arith)) in
        (within, ap (drop 1) (sym e ∙ more))

-- ---- what a piece of each sort makes of the bounds

module _ {s : Sort} (at n k : ℕ) (ss ls : List ℕ) where
  pub as_dropped : Dropped ≡ s → cutout (Ok (record { count = k; opened = true })) ss ls ≡ placed_as s at n k ss ls
  as_dropped e = rw (← e)

  pub as-barred : Upward ≡ s → k ≡ 0 → cutout (Err NotPermitted) ss ls ≡ placed_as s at n k ss ls
  as-barred e z = rw (← e) (pick_true _ _ _ _ (eq-eqb k 0 z) refl)

  pub as-upward : Upward ≡ s → (k ≡ 0 → ⊥) → cutout (Ok (record { count = k - 1; opened = true })) ss ls ≡ placed_as s at n k ss ls
  as-upward e z = rw (← e) (pick-false _ _ _ _ (ne_eqb k 0 z) refl)

  pub as-name : Name ≡ s → cutout (Ok (record { count = k + 1; opened = false })) (set ss k at) (set ls k n) ≡ placed_as s at n k ss ls
  as-name e = rw (← e)
