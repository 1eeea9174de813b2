-- What a caller learns of a cut path: the bounds show the parts that the definition over lists gives, and lie in the path.
-- Assumes nothing.
use Rattle.std.specs.Prelude.{Ok, Err}
use mathlib.Core.Path.{◌≡◌, refl, sym, ◌∙◌}
use mathlib.Core.Bool.{Bool, true, false}
use mathlib.Core.List.{List, [], ◌∷◌, ◌++◌}
use Prim.Native.Nat.{ℕ, suc, ◌+◌, ◌-◌, ◌*◌, ◌≤◌, ◌<◌}
use native.Mathlib.Nat.{not-suc-le-zero}
use native.Mathlib.Omega.{arith}
use native.Mathlib.Decide.{dec_lt}
use lib.Dec.{eqb, ltb}
use borrow.Author.Tests.{ltb-false}
use lib.ListN.{length, get_or, set, length-set}
use lib.Seq.{get_or-set_same, get_or-set_other}
use Rattle.words.specs.Rules.{pick, both, either}
use Rattle.types.specs.Sizes.{most_path, most_parts}
use Rattle.types.specs.Outcomes.{OneOutcome}
use Rattle.types.proofs.Outcomes.{one-outcome}
use Rattle.paths.specs.declared.Parts.{Parts}
use Rattle.paths.specs.declared.PathError.TheVariants.{NotPermitted, TooLong}
use Rattle.paths.specs.declared.PathError.{PathError}
use Rattle.paths.specs.declared.Sort.{Sort}
use Rattle.paths.specs.Path.{Cutting, parts, not_permitted, too_long, slash, split, dropped, upward, walk, cut_path, ends_open}
use Rattle.paths.specs.Bounds.{Bounds, passed, less_one, kept, walk_bounds, cut_bounds}
use Rattle.paths.specs.Shown.{Cut, Cutout, cutout, shown_from, shown_parts, shown_cut, BoundsFit, CutShows}
use Rattle.paths.proofs.Sorts.{Sorted, is-dropped, is-upward, is_plain_name, sorted}
use Rattle.paths.proofs.Names.{kept-some}
use Rattle.paths.proofs.Splitting.{split-some}
use Rattle.paths.proofs.LeftWalk.{bounds}
use Rattle.paths.proofs.Shown.{length-shown, shown-less, shown-kept, Lie, pieces-lie}

-- the case of an outcome is the case of the definition
module _ {path : List ℕ} {o : Cutout} {c : Cutting} {opened : Bool} (told : CutShows path o c opened) where
  pub told-parts : {p : Parts} → o.cut ≡ Ok p → c ≡ parts (shown_parts path o.starts o.lengths p.count)
  told-parts e = sym (rw e at told.shows)

  pub told-refused : o.cut ≡ (Err NotPermitted) → c ≡ not_permitted
  told-refused e = sym (rw e at told.shows)

  pub told-long : o.cut ≡ (Err TooLong) → c ≡ too_long
  told-long e = sym (rw e at told.shows)

fit-kept : (path ss ls : List ℕ) (k a n : ℕ) → BoundsFit path ss ls k → k < length ss → k < length ls → k < most_parts → a + n ≤ length path → 0 < n → BoundsFit path (set ss k a) (set ls k n) (k + 1)
fit-kept path ss ls k a n f hs hl hk ha hn =
    record { few = omega arith; short = f.short; within = λ i h. within i h (dec_lt i k); some = λ i h. some i h (dec_lt i k) }
  where
    within : (i : ℕ) → i < k + 1 → Dec (i < k) → get_or (set ss k a) i 0 + get_or (set ls k n) i 0 ≤ length path
    within i h (yes b) =
        let e : i ≡ k → ⊥ = λ x. omega arith in
        rw (get_or-set_other ss k i a 0 e, get_or-set_other ls k i n 0 e) (f.within i b)
    within i h (no b) =
        let e : i ≡ k = omega arith in
        rw (e, get_or-set_same ss k a 0 hs, get_or-set_same ls k n 0 hl) ha

    some : (i : ℕ) → i < k + 1 → Dec (i < k) → 0 < get_or (set ls k n) i 0
    some i h (yes b) =
        let e : i ≡ k → ⊥ = λ x. omega arith in
        rw (get_or-set_other ls k i n 0 e) (f.some i b)
    some i h (no b) =
        let e : i ≡ k = omega arith in
        rw (e, get_or-set_same ls k n 0 hl) hn

-- ---- bounds on the way, before the piece at index at

record Held (path : List ℕ) (at : ℕ) (b : Bounds) : Type 0 where
  fit : BoundsFit path b.starts b.lengths b.count
  room_s : length b.starts ≡ most_parts
  room_l : length b.lengths ≡ most_parts
  half : 2 * b.count ≤ at

module _ (path : List ℕ) (at : ℕ) (b : Bounds) (h : Held path at b) (n : ℕ) (e : at + n ≤ length path) where
  held-passed : Held path (at + n + 1) (passed b)
  held-passed = record { fit = h.fit; room_s = h.room_s; room_l = h.room_l; half = omega arith }

  held-less : Held path (at + n + 1) (less_one b)
  held-less = record {
    fit = record { few = omega arith; short = h.fit.short; within = λ i k. h.fit.within i (omega arith); some = λ i k. h.fit.some i (omega arith) };
    room_s = h.room_s;
    room_l = h.room_l;
    half = omega arith;
  }

  held_kept : 0 < n → Held path (at + n + 1) (kept at n b)
  held_kept k = record {
    fit = fit-kept path b.starts b.lengths b.count at n h.fit (omega arith) (omega arith) (omega arith) e k;
    room_s = length-set b.starts b.count at ∙ h.room_s;
    room_l = length-set b.lengths b.count n ∙ h.room_l;
    half = omega arith;
  }

-- whether the last piece is no name
opened_after : Bool → List (List ℕ) → Bool
opened_after o [] = o
opened_after o (p ∷ rest) = opened_after (either (dropped p) (upward p)) rest

shown_of : List ℕ → Bounds → List (List ℕ)
shown_of path b = shown_parts path b.starts b.lengths b.count

-- the walk on bounds, beside the walk over lists
Walked : List ℕ → ℕ → Bounds → List (List ℕ) → Type 0
Walked path at b rest = CutShows path (walk_bounds at b rest) (walk (shown_of path b) rest) (opened_after b.opened rest)

walked_end : (path : List ℕ) (at : ℕ) (b : Bounds) → Held path at b → Walked path at b []
unfolding Walked walk_bounds walk shown_of opened_after
walked_end path at b h = record { shows = refl; fits = fits; flag = flag }
  where
    ended : Parts
    ended = record { count = b.count; opened = both b.opened (ltb 0 b.count) }

    fits : (p : Parts) → ◌≡◌ {A = Cut} (Ok ended) (Ok p) → BoundsFit path b.starts b.lengths p.count
    fits p e =
        let k : ended ≡ p = cc in
        rw (← k) h.fit

    flag : (p : Parts) → ◌≡◌ {A = Cut} (Ok ended) (Ok p) → p.opened ≡ both b.opened (ltb 0 p.count)
    flag p e =
        let k : ended ≡ p = cc in
        rw (← k) refl

-- a refusal shows no parts
refused : (path : List ℕ) (r : Cut) (ss ls : List ℕ) (opened : Bool) → ((p : Parts) → r ≡ Ok p → ⊥) → CutShows path (cutout r ss ls) (shown_cut path r ss ls) opened
refused path r ss ls opened h = record { shows = refl; fits = λ p e. absurd (h p e); flag = λ p e. absurd (h p e) }

not-parts : {e : PathError} → (p : Parts) → ◌≡◌ {A = Cut} (Err e) (Ok p) → ⊥
not-parts p h = cc

walked-sorted : (path : List ℕ) (at : ℕ) (b : Bounds) (p : List ℕ) (rest : List (List ℕ)) → Held path at b → Lie path at (p ∷ rest)
    → ((b' : Bounds) → Held path (at + length p + 1) b' → Walked path (at + length p + 1) b' rest) → {s : Sort} → Sorted p s → Walked path at b (p ∷ rest)
unfolding Walked walk_bounds walk shown_of opened_after Lie pick either dropped
walked-sorted path at b p rest h l more (is-dropped d) = rw d (more (passed b) (held-passed path at b h (length p) l.1))
walked-sorted path at b p rest h l more (is-upward d u) = rw (d, u, shown-less path b.starts b.lengths b.count, length-shown path b.starts b.lengths b.count) (go (eqb b.count 0))
  where
    go : (t : Bool) → CutShows path (pick t (cutout (Err NotPermitted) b.starts b.lengths) (walk_bounds (at + length p + 1) (less_one b) rest))
        (pick t not_permitted (walk (shown_parts path b.starts b.lengths (b.count - 1)) rest)) (opened_after true rest)
    go true = refused path (Err NotPermitted) b.starts b.lengths (opened_after true rest) not-parts
    go false = more (less_one b) (held-less path at b h (length p) l.1)
walked-sorted path at b p rest h l more (is_plain_name d u) =
    let n : 0 < length p = kept-some p d in
    let e : shown_of path (kept at (length p) b) ≡ shown_of path b ++ (p ∷ []) =
    shown-kept path b.starts b.lengths b.count at (length p) (omega arith) (omega arith) ∙ rw l.0 in
    rw (d, u, ← e) (more (kept at (length p) b) (held_kept path at b h (length p) l.1 n))

walked : (path : List ℕ) (at : ℕ) (b : Bounds) (rest : List (List ℕ)) → Held path at b → Lie path at rest → Walked path at b rest
unfolding Lie
walked path at b [] h l = walked_end path at b h
walked path at b (p ∷ rest) h l = walked-sorted path at b p rest h l (λ b' h'. walked path (at + length p + 1) b' rest h' l.2) (sorted p)

opened-last : (o : Bool) (ps : List (List ℕ)) → 0 < length ps → opened_after o ps ≡ either (dropped (get_or ps (length ps - 1) [])) (upward (get_or ps (length ps - 1) []))
unfolding opened_after
opened-last o [] h = absurd (not-suc-le-zero h)
opened-last o (p ∷ []) h = refl
opened-last o (p ∷ q ∷ ps) h =
    let a : suc (suc (length ps)) - 1 ≡ suc (length ps) = omega arith in
    let b : suc (length ps) - 1 ≡ length ps = omega arith in
    rw a (rw b at (opened-last (either (dropped p) (upward p)) (q ∷ ps) (omega arith)))

-- ---- the whole of it

module _ (path ss ls : List ℕ) (room_s : length ss ≡ most_parts) (room_l : length ls ≡ most_parts) where
  told-walk : length path ≤ most_path → CutShows path (walk_bounds 0 (bounds ss ls 0 true) (split path)) (walk [] (split path)) (ends_open path)
  unfolding Walked shown_of shown_parts shown_from ends_open
  told-walk h =
      let none : BoundsFit path ss ls 0 = record { few = omega arith; short = h; within = λ i k. absurd (not-suc-le-zero k); some = λ i k. absurd (not-suc-le-zero k) } in
      rw (← opened-last true (split path) (split-some path))
      (walked path 0 (bounds ss ls 0 true) (split path) (record { fit = none; room_s = room_s; room_l = room_l; half = omega arith }) (pieces-lie path))

  pub cut-told : {o : Cutout} → o ≡ cut_bounds path ss ls → CutShows path o (cut_path path) (ends_open path)
  unfolding cut_bounds cut_path pick
  cut-told e = rw e (go (ltb most_path (length path)) (eqb (get_or path 0 0) slash) refl)
    where
      go : (t u : Bool) → ltb most_path (length path) ≡ t → CutShows path (pick t (cutout (Err TooLong) ss ls) (pick u (cutout (Err NotPermitted) ss ls) (walk_bounds 0 (bounds ss ls 0 true) (split path))))
          (pick t too_long (pick u not_permitted (walk [] (split path)))) (ends_open path)
      go true u h = refused path (Err TooLong) ss ls (ends_open path) not-parts
      go false true h = refused path (Err NotPermitted) ss ls (ends_open path) not-parts
      go false false h = told-walk (ltb-false _ _ h)

  -- what the bounds show is the definition over lists
  pub cut-shows : shown_cut path (cut_bounds path ss ls).cut (cut_bounds path ss ls).starts (cut_bounds path ss ls).lengths ≡ cut_path path
  cut-shows = (cut-told refl).shows

  module _ (p : Parts) (e : (cut_bounds path ss ls).cut ≡ Ok p) where
    pub cut_fits : BoundsFit path (cut_bounds path ss ls).starts (cut_bounds path ss ls).lengths p.count
    cut_fits = (cut-told refl).fits p e

    pub cut-flag : p.opened ≡ both (ends_open path) (ltb 0 p.count)
    cut-flag = (cut-told refl).flag p e

-- the contract's equation leaves one outcome
pub one-cut : (path ss ls : List ℕ) → OneOutcome (cut_bounds path ss ls)
one-cut path ss ls = one-outcome (cut_bounds path ss ls)
