use Prim.Native.Nat.{◌+◌}
use Rattle.words.proofs.Rules.{told, stop, go_on, by2}
use Rattle.words.proofs.Blocks.{zero-part}
use Rattle.volume.specs.RowTests.{limit_formed, node_formed}
use Rattle.volume.proofs.RowFields.{kind-read}
use Rattle.volume.proofs.nodes.node_formed.Goals as goal

pub returns-then-is_err : goal.returns-then-is_err
unfolding node_formed
returns-then-is_err c =
    stop _ _ (kind-read c.get-byte.ensures.value c.try_from.ensures c.is_err.ensures.value c.if-is_err.true)

pub returns-then-not-limit_formed : goal.returns-then-not-limit_formed
unfolding node_formed
returns-then-not-limit_formed c =
    (go_on _ _ (kind-read c.get-byte.ensures.value c.try_from.ensures c.is_err.ensures.value c.if-is_err.false)) (stop _ _ (told ((by2 limit_formed c.limit_formed.ensures c.get.ensures.value c.get-2.ensures.value)) c.if-not-limit_formed.true))

pub returns : goal.returns
unfolding node_formed
returns c =
    (go_on _ _ (kind-read c.get-byte.ensures.value c.try_from.ensures c.is_err.ensures.value c.if-is_err.false)) (go_on _ _ (told ((by2 limit_formed c.limit_formed.ensures c.get.ensures.value c.get-2.ensures.value)) c.if-not-limit_formed.false) (zero-part (c.args.volume.now) (c.args.at + 10) 6 c.is_zero.ensures))
