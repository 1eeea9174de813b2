use mathlib.Core.Path.{ap}
use mathlib.Core.Bool.{not}
use lib.Dec.{eqb}
use Rattle.words.proofs.Rules.{upto-start, upto_turn, upto-fail, is-yes2, is-no2}
use Rattle.allocator.specs.Opening.{free_word}
use Rattle.allocator.proofs.opening.is_first.Goals as goal

pub loop-j-init : goal.loop-j-init
loop-j-init c =
    upto-start (λ j. not (eqb (free_word c.args.words.now j) (free_word c.args.words.now c.args.i)))

pub returns-then-get_ptr-pointer : goal.returns-then-get_ptr-pointer
unfolding free_word
returns-then-get_ptr-pointer c =
    upto-fail (λ j. not (eqb (free_word c.args.words.now j) (free_word c.args.words.now c.args.i))) c.args.i c.loop-j.j c.loop-j-test.true (ap not (is-yes2 c.get_ptr.ensures c.get_ptr-pointer.ensures c.if-get_ptr-pointer.true))

pub loop-j-preserved : goal.loop-j-preserved
unfolding free_word
loop-j-preserved c =
    upto_turn (λ j. not (eqb (free_word c.args.words.now j) (free_word c.args.words.now c.args.i))) c.loop-j.j c.loop-j.invariant (ap not (is-no2 c.get_ptr.ensures c.get_ptr-pointer.ensures c.if-get_ptr-pointer.false))
