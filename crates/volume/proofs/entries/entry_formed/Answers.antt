use Rattle.words.proofs.Rules.{stop, go_on, by1, le_yes, le-no, le-yes2, le-no2}
use Rattle.words.proofs.Blocks.{zero-part}
use Rattle.words.specs.Bytes.{part}
use Rattle.words.specs.Tests.{all_zero}
use Rattle.volume.specs.RowTests.{entry_formed}
use mathlib.Core.Path.{refl}
use Prim.Native.Nat.{◌+◌, ◌-◌}
use Rattle.volume.proofs.entries.entry_formed.Goals as goal

pub returns-then-long-lt1 : goal.returns-then-long-lt1
unfolding entry_formed
returns-then-long-lt1 c =
    stop _ _ (le-no2 refl c.get-long.ensures.value c.if-long-lt1.true)

pub returns-then-long-gt-MOST_NAME : goal.returns-then-long-gt-MOST_NAME
unfolding entry_formed
returns-then-long-gt-MOST_NAME c =
    (go_on _ _ (le-yes2 refl c.get-long.ensures.value c.if-long-lt1.false)) (stop _ _ (le-no c.get-long.ensures.value c.if-long-gt-MOST_NAME.true))

pub returns : goal.returns
unfolding entry_formed
returns c =
    (go_on _ _ (le-yes2 refl c.get-long.ensures.value c.if-long-lt1.false)) ((go_on _ _ (le_yes c.get-long.ensures.value c.if-long-gt-MOST_NAME.false)) (by1 (λ n. all_zero (part c.args.volume.now (c.args.at + 24 + n) (256 - n))) (zero-part (c.args.volume.now) (c.args.at + 24 + (c.get-long.result)) (256 - (c.get-long.result)) c.is_zero.ensures) c.get-long.ensures.value))
