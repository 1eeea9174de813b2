use mathlib.Core.Path.{refl}
use borrow.Author.Tests.{le-leb, lt-leb}
use Rattle.words.proofs.Rules.{stop, go_on}
use Rattle.volume.specs.Geometry.{roomy}
use Rattle.volume.proofs.geometry.is_roomy.Goals as goal

pub returns-then-rows-lt1 : goal.returns-then-rows-lt1
unfolding roomy
returns-then-rows-lt1 c =
    stop _ _ (lt-leb 1 _ c.if-rows-lt1.true)

pub returns : goal.returns
unfolding roomy
returns c =
    go_on _ _ (le-leb 1 _ c.if-rows-lt1.false) refl
