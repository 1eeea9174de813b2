-- Believed: the paths of the scope's boundary rows P8 to P11. The rows stand in crates/sequences/specs/Boundary.antt.
-- Assumes nothing.
use Rattle.std.specs.Prelude.{List, [], ◌∷◌, ℕ}
use Rattle.paths.specs.Path.{slash, dot}

-- the bytes `a` and `b`
abbrev pub byte_a : ℕ
byte_a = 97

abbrev pub byte_b : ℕ
byte_b = 98

-- `a/../..`
abbrev pub path8 : List ℕ
path8 = byte_a ∷ slash ∷ dot ∷ dot ∷ slash ∷ dot ∷ dot ∷ []

-- `a/../b`
abbrev pub path9 : List ℕ
path9 = byte_a ∷ slash ∷ dot ∷ dot ∷ slash ∷ byte_b ∷ []

-- `./a//b/`
abbrev pub path10 : List ℕ
path10 = dot ∷ slash ∷ byte_a ∷ slash ∷ slash ∷ byte_b ∷ slash ∷ []

-- `...`
abbrev pub path11 : List ℕ
path11 = dot ∷ dot ∷ dot ∷ []
