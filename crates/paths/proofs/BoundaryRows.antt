-- What the paths of the scope's boundary rows P8 to P11 are cut into, computed; which of them end open; that `a` and `b` are names, and `.` is none.
-- Assumes nothing.
use mathlib.Core.Path.{◌≡◌, refl}
use mathlib.Core.Bool.{true, false}
use mathlib.Core.List.{List, [], ◌∷◌}
use Prim.Native.Nat.{ℕ}
use Rattle.words.specs.Rules.{pick, both, either, same}
use Rattle.paths.specs.Path.{dot, parts, not_permitted, cons, split, dropped, upward, walk, cut_path, ends_open, no_slash, name_allowed}
use Rattle.paths.specs.Boundary.{byte_a, byte_b, path8, path9, path10, path11}
use Rattle.paths.specs.Bounds.{walk_bounds, cut_bounds}
use Rattle.paths.specs.Shown.{cut_number}

-- `a/../..`: 8
pub p8 : cut_path path8 ≡ not_permitted
unfolding cut_path walk split cons dropped upward either both same pick
p8 = refl

-- in the scope's number
pub p8-number : (ss ls : List ℕ) → cut_number (cut_bounds path8 ss ls).cut ≡ 8
unfolding cut_bounds walk_bounds split cons dropped upward either both same pick
p8-number ss ls = refl

-- `a/../b`: only `b`
pub p9 : cut_path path9 ≡ parts ((byte_b ∷ []) ∷ [])
unfolding cut_path walk split cons dropped upward either both same pick
p9 = refl

-- `./a//b/`: parts a, b
pub p10 : cut_path path10 ≡ parts ((byte_a ∷ []) ∷ (byte_b ∷ []) ∷ [])
unfolding cut_path walk split cons dropped upward either both same pick
p10 = refl

-- `...`: a name
pub p11 : (cut_path path11 ≡ parts (path11 ∷ [])) × (name_allowed path11 ≡ true)
unfolding cut_path walk split cons dropped upward either both same pick name_allowed no_slash
p11 = (refl, refl)

-- ---- how they end

pub shut9 : ends_open path9 ≡ false
unfolding ends_open split cons dropped upward either both same pick
shut9 = refl

pub open10 : ends_open path10 ≡ true
unfolding ends_open split cons dropped upward either both same pick
open10 = refl

pub shut11 : ends_open path11 ≡ false
unfolding ends_open split cons dropped upward either both same pick
shut11 = refl

-- ---- the names

pub a-allowed : name_allowed (byte_a ∷ []) ≡ true
unfolding name_allowed no_slash both same
a-allowed = refl

pub b-allowed : name_allowed (byte_b ∷ []) ≡ true
unfolding name_allowed no_slash both same
b-allowed = refl

pub dot-not-allowed : name_allowed (dot ∷ []) ≡ false
unfolding name_allowed no_slash both same
dot-not-allowed = refl
