use borrow.Author.Rules.{rules}
use mathlib.Core.Path.{refl}
use Prim.Native.Nat.{◌+◌, ◌-◌, ◌*◌}
use Rattle.words.proofs.Rules.{told, stop, go_on}
use Rattle.words.proofs.Blocks.{zero-part}
use Rattle.words.proofs.Upto.{upto_from_all}
use Rattle.soundness.specs.FrameRules.{rows_formed}
use Rattle.soundness.proofs.frame.rows_formed.Goals as goal

pub returns-then-not-all : goal.returns-then-not-all
unfolding rows_formed
returns-then-not-all g c =
    λ t same. stop _ _ (told (upto_from_all c.all.ensures.ran refl (λ i b q h k. search (rules, same i b h))) c.if-not-all.true)

pub returns : goal.returns
unfolding rows_formed
returns g c =
    λ t same. go_on _ _ (told (upto_from_all c.all.ensures.ran refl (λ i b q h k. search (rules, same i b h))) c.if-not-all.false) (zero-part (c.args.volume.now) (c.args.base + c.args.size * c.args.used) (c.args.size * (c.args.room - c.args.used)) c.is_zero.ensures)
