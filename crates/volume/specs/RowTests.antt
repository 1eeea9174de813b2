-- Inner: whether bytes can be a row of a table, as tests.
-- Assumes nothing.
use Rattle.std.specs.Prelude.{ℕ, ◌+◌, ◌-◌, Bool, List, eqb, leb}
use Rattle.words.specs.Bytes.{word, num, part}
use Rattle.words.specs.Rules.{pick, both}
use Rattle.words.specs.Tests.{all_zero}
use Rattle.types.specs.Sizes.{most_size, most_name, name_room}
use Rattle.types.specs.Kinds.{kind_of, is_known}

-- a limit of at most 2^40 under flag 1, none under flag 0
unfoldable pub limit_formed : ℕ → ℕ → Bool
limit_formed flag n = pick (eqb flag 0) (eqb n 0) (both (eqb flag 1) (leb n most_size))

unfoldable pub node_formed : List ℕ → ℕ → Bool
node_formed l at = both (is_known (kind_of (num 1 l (at + 8)))) (both (limit_formed (num 1 l (at + 9)) (word l (at + 32))) (all_zero (part l (at + 10) 6)))

unfoldable pub entry_formed : List ℕ → ℕ → Bool
entry_formed l at =
    both (leb 1 (num 4 l (at + 20))) (both (leb (num 4 l (at + 20)) most_name) (all_zero (part l (at + 24 + num 4 l (at + 20)) (name_room - num 4 l (at + 20)))))
