-- Believed: a node's limit as the bytes of its row: the flag says whether there is a limit.
-- Assumes nothing.
use Rattle.std.specs.Prelude.{ℕ, eqb, Some, None}
use Rattle.words.specs.Rules.{pick}
use Rattle.types.specs.Nodes.{Limit}

unfoldable pub limit_of : ℕ → ℕ → Limit
limit_of flag word = pick (eqb flag 0) None (Some word)

abbrev pub limit_flag : Limit → ℕ
limit_flag None = 0
limit_flag (Some most) = 1
