use native.Mathlib.Omega.{arith}
use lib.ListN.{length}
use Rattle.words.proofs.Rules.{told, stop, go_on}
use Rattle.soundness.specs.PointerRules.{unmarked, marks_after, row_pointer, pointers_good}
use Rattle.soundness.proofs.PointerRules.{count_room, free-marked, as_many}
use Rattle.soundness.proofs.pointers.pointers_good.Goals as goal

pub returns-then-not-mark_rows : goal.returns-then-not-mark_rows
unfolding pointers_good
returns-then-not-mark_rows c =
    stop _ _ (told c.mark_rows.ensures.0 c.if-not-mark_rows.true)

pub mark_free-requires : goal.mark_free-requires
mark_free-requires c =
    (omega (arith, count_room c.allocator_words-words.ensures.0 c.allocator_words-words.ensures.2, c.free_count-count.ensures.0), c.requires.0, c.requires.1)

pub returns-then-not-mark_free : goal.returns-then-not-mark_free
unfolding pointers_good
returns-then-not-mark_free c =
    let w = c.allocator_words-words.ensures in
    let rows = c.args.tables.now.store.chunks in
    go_on _ _ (told c.mark_rows.ensures.0 c.if-not-mark_rows.false) (stop _ _ (told (free-marked w.0 w.2 c.args.span c.args.next (marks_after c.args.span (row_pointer rows) (length rows) unmarked) (c.mark_rows.ensures.1 c.if-not-mark_rows.false) c.free_count-count.ensures.0 c.mark_free.ensures.0) c.if-not-mark_free.true))

pub returns : goal.returns
unfolding pointers_good
returns c =
    let w = c.allocator_words-words.ensures in
    let rows = c.args.tables.now.store.chunks in
    go_on _ _ (told c.mark_rows.ensures.0 c.if-not-mark_rows.false) (go_on _ _ (told (free-marked w.0 w.2 c.args.span c.args.next (marks_after c.args.span (row_pointer rows) (length rows) unmarked) (c.mark_rows.ensures.1 c.if-not-mark_rows.false) c.free_count-count.ensures.0 c.mark_free.ensures.0) c.if-not-mark_free.false) (as_many w.0 w.2 _ c.chunks_used.ensures.0 c.free_count-count.ensures.0 c.quotient.ensures))
