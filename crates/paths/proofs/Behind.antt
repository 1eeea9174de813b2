-- A path that goes on behind a slash: the pieces behind it are walked on from the parts before it, and they alone decide how the path ends.
-- So a slash behind a path leaves its parts as they are, and the path then ends open.
-- Assumes nothing.
use mathlib.Core.Path.{◌≡◌, refl, ap, ◌∙◌}
use mathlib.Core.Bool.{Bool, true, false}
use mathlib.Core.List.{List, [], ◌∷◌, ◌++◌}
use Prim.Native.Nat.{ℕ, ◌+◌, ◌-◌, ◌≤◌, ◌<◌}
use native.Mathlib.Omega.{arith}
use lib.Dec.{eqb, ltb}
use borrow.Author.Tests.{le-ltb}
use lib.ListN.{length, take, get_or, length-append, get_or-append}
use lib.Seq.{get_or-append-add}
use Rattle.words.specs.Rules.{pick, both, either, same}
use Rattle.types.specs.Sizes.{most_path}
use Rattle.paths.specs.Path.{parts, not_permitted, slash, cons, split, dropped, upward, walk, cut_path, ends_open}
use Rattle.paths.proofs.Splitting.{split-some, cons-slash}

-- ---- pieces

cons-behind : (b : ℕ) (ps qs : List (List ℕ)) → 0 < length ps → cons b (ps ++ qs) ≡ cons b ps ++ qs
unfolding cons pick
cons-behind b [] qs h = absurd (omega arith)
cons-behind b (p ∷ ps) qs h = go (eqb b slash)
  where
    go : (t : Bool) → pick t ([] ∷ (p ∷ (ps ++ qs))) ((b ∷ p) ∷ (ps ++ qs)) ≡ pick t ([] ∷ (p ∷ ps)) ((b ∷ p) ∷ ps) ++ qs
    go true = refl
    go false = refl

split-behind : (path more : List ℕ) → split (path ++ (slash ∷ more)) ≡ split path ++ split more
unfolding split
split-behind [] more = cons-slash slash (split more) refl (split-some more)
split-behind (b ∷ path) more = ap (cons b) (split-behind path more) ∙ cons-behind b (split path) (split more) (split-some path)

-- ---- parts

-- a piece, if those behind it are walked on from any parts
piece-behind : (p : List ℕ) (rest more qs : List (List ℕ)) → ((ps : List (List ℕ)) → walk ps rest ≡ parts qs → walk ps (rest ++ more) ≡ walk qs more)
    → (ps : List (List ℕ)) → walk ps (p ∷ rest) ≡ parts qs → walk ps (p ∷ (rest ++ more)) ≡ walk qs more
unfolding walk pick
piece-behind p rest more qs on ps = go (dropped p) (upward p) (eqb (length ps) 0)
  where
    go : (d u t : Bool) → pick d (walk ps rest) (pick u (pick t not_permitted (walk (take (length ps - 1) ps) rest)) (walk (ps ++ (p ∷ [])) rest)) ≡ parts qs
        → pick d (walk ps (rest ++ more)) (pick u (pick t not_permitted (walk (take (length ps - 1) ps) (rest ++ more))) (walk (ps ++ (p ∷ [])) (rest ++ more))) ≡ walk qs more
    go true u t z = on ps z
    go false true true z = let x : ◌≡◌ {A = ℕ} 0 1 = cc in absurd (omega arith)
    go false true false z = on (take (length ps - 1) ps) z
    go false false t z = on (ps ++ (p ∷ [])) z

walk-behind : (rest more qs ps : List (List ℕ)) → walk ps rest ≡ parts qs → walk ps (rest ++ more) ≡ walk qs more
unfolding walk
walk-behind [] more qs ps e = let h : ps ≡ qs = cc in rw h refl
walk-behind (p ∷ rest) more qs ps e = piece-behind p rest more qs (walk-behind rest more qs) ps e

-- ---- the path

module _ (path more : List ℕ) where
  abbrev whole : List ℕ
  whole = path ++ (slash ∷ more)

  -- how it ends
  pub ends-behind : ends_open whole ≡ ends_open more
  unfolding ends_open
  ends-behind = ap (λ q. either (dropped q) (upward q)) last
    where
      last : get_or (split whole) (length (split whole) - 1) [] ≡ get_or (split more) (length (split more) - 1) []
      last =
          let k : length (split path) + length (split more) - 1 ≡ length (split path) + (length (split more) - 1) = omega (arith, split-some more) in
          rw (split-behind path more, length-append (split path) (split more), k) (get_or-append-add (split path) (split more) (length (split more) - 1) [])

  -- its parts
  pub cut-behind : {ps : List (List ℕ)} → cut_path path ≡ parts ps → 0 < length path → length path + (1 + length more) ≤ most_path → cut_path whole ≡ walk ps (split more)
  unfolding cut_path pick
  cut-behind {ps} e some fits =
      let short : ltb most_path (length path) ≡ false = le-ltb most_path (length path) (omega arith) in
      let long : ltb most_path (length whole) ≡ false = le-ltb most_path (length whole) (rw (length-append path (slash ∷ more)) (omega arith)) in
      rw (long, get_or-append path (slash ∷ more) 0 0 some, split-behind path more) (go (eqb (get_or path 0 0) slash) (rw short at e))
    where
      go : (b : Bool) → pick b not_permitted (walk [] (split path)) ≡ parts ps → pick b not_permitted (walk [] (split path ++ split more)) ≡ walk ps (split more)
      go true z = let x : ◌≡◌ {A = ℕ} 0 1 = cc in absurd (omega arith)
      go false z = walk-behind (split path) (split more) ps [] z

-- ---- a slash behind it

module _ (path : List ℕ) where
  pub ends-slashed : ends_open (path ++ (slash ∷ [])) ≡ true
  unfolding ends_open split dropped either both same
  ends-slashed = ends-behind path []

  pub cut-slashed : {ps : List (List ℕ)} → cut_path path ≡ parts ps → 0 < length path → length path < most_path → cut_path (path ++ (slash ∷ [])) ≡ parts ps
  unfolding walk split dropped either both same pick
  cut-slashed e some fits = cut-behind path [] e some (omega arith)
