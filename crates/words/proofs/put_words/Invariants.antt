use mathlib.Core.Path.{◌≡◌}
use lib.ListN.{take}
use Rattle.words.specs.Bytes.{over}
use Rattle.words.specs.Tables.{lay_words}
use Rattle.words.proofs.put_words.Given as goal

abbrev pub invariant-loop-i : goal.invariant-loop-i
invariant-loop-i l =
    l.v ≡ over l.initial.v l.at (lay_words (take l.i l.ws))
