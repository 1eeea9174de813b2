use mathlib.Core.Path.{sym}
use Rattle.words.proofs.Rules.{stop, go_on, is-yes, is-no, le-yes2, le-no2}
use Rattle.volume.proofs.GeometryRules.{nowhere}
use Rattle.soundness.proofs.FrameRules.{counts-over, header-place}
use Rattle.soundness.specs.FrameRules.{headed}
use borrow.Author.Tests.{le-leb, lt-leb}
use Rattle.soundness.proofs.frame.read_header.Goals as goal

pub returns-then-volume-lt-HEADER : goal.returns-then-volume-lt-HEADER
unfolding headed
returns-then-volume-lt-HEADER c =
    nowhere _ _ (sym (stop _ _ (lt-leb _ _ c.if-volume-lt-HEADER.true)))

pub returns-then-get-ne-FORM : goal.returns-then-get-ne-FORM
unfolding headed
returns-then-get-ne-FORM c =
    nowhere _ _ (sym (go_on _ _ (le-leb _ _ c.if-volume-lt-HEADER.false) (stop _ _ (is-no c.get.ensures.value c.if-get-ne-FORM.true))))

pub returns-then-nodes-get : goal.returns-then-nodes-get
unfolding headed
returns-then-nodes-get c =
    nowhere _ _ (sym (go_on _ _ (le-leb _ _ c.if-volume-lt-HEADER.false) (go_on _ _ (is-yes c.get.ensures.value c.if-get-ne-FORM.false) (counts-over _ _ (sym (stop _ _ (le-no2 c.get-2.ensures.value c.get-nodes.ensures.value c.if-nodes-get.true)))))))

pub returns-then-entries-get : goal.returns-then-entries-get
unfolding headed
returns-then-entries-get c =
    nowhere _ _ (sym (go_on _ _ (le-leb _ _ c.if-volume-lt-HEADER.false) (go_on _ _ (is-yes c.get.ensures.value c.if-get-ne-FORM.false) (counts-over _ _ (sym (go_on _ _ (le-yes2 c.get-2.ensures.value c.get-nodes.ensures.value c.if-nodes-get.false) (stop _ _ (le-no2 c.get-3.ensures.value c.get-entries.ensures.value c.if-entries-get.true))))))))

pub returns-then-chunks-get : goal.returns-then-chunks-get
unfolding headed
returns-then-chunks-get c =
    nowhere _ _ (sym (go_on _ _ (le-leb _ _ c.if-volume-lt-HEADER.false) (go_on _ _ (is-yes c.get.ensures.value c.if-get-ne-FORM.false) (counts-over _ _ (sym (go_on _ _ (le-yes2 c.get-2.ensures.value c.get-nodes.ensures.value c.if-nodes-get.false) (go_on _ _ (le-yes2 c.get-3.ensures.value c.get-entries.ensures.value c.if-entries-get.false) (sym (le-no2 c.get-4.ensures.value c.get-chunks.ensures.value c.if-chunks-get.true)))))))))

pub returns : goal.returns
unfolding headed
returns c =
    header-place c.args.volume.now (le-leb _ _ c.if-volume-lt-HEADER.false) (is-yes c.get.ensures.value c.if-get-ne-FORM.false) c.get-nodes.ensures.value c.get-entries.ensures.value c.get-chunks.ensures.value c.place_tables-place.ensures (go_on _ _ (le-yes2 c.get-2.ensures.value c.get-nodes.ensures.value c.if-nodes-get.false) (go_on _ _ (le-yes2 c.get-3.ensures.value c.get-entries.ensures.value c.if-entries-get.false) (sym (le-yes2 c.get-4.ensures.value c.get-chunks.ensures.value c.if-chunks-get.false))))
