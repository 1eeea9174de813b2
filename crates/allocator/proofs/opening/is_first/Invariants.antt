use mathlib.Core.Path.{◌≡◌}
use mathlib.Core.Bool.{true, not}
use lib.Dec.{eqb}
use Rattle.words.specs.Rules.{upto}
use Rattle.allocator.specs.Opening.{free_word}
use Rattle.allocator.proofs.opening.is_first.Given as goal

abbrev pub invariant-loop-j : goal.invariant-loop-j
invariant-loop-j l =
    upto l.j (λ k. not (eqb (free_word l.words k) (free_word l.words l.i))) ≡ true
