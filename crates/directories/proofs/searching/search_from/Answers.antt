use mathlib.Core.Path.{◌≡◌, sym, ◌∙◌}
use native.Mathlib.Omega.{arith}
use Rattle.words.proofs.Search.{walk_start}
use mathlib.Core.List.{[]}
use Rattle.volume.specs.Rows.{read_entry}
use Rattle.directories.specs.Searches.{other_name}
use Rattle.directories.proofs.EntrySearch.{search-left, search-end, search-past, search-here, search-on}
use Rattle.directories.proofs.searching.search_from.Goals as goal

pub loop-place-init : goal.loop-place-init
loop-place-init c =
    (c.first_entry-first.ensures.0, walk_start (other_name c.args.directory c.args.name.now) (read_entry []) c.args.tables.now.names.entries c.first_entry-first.result, omega (arith, c.entries_used-used.ensures.0, c.looked_end-end.ensures))

pub returns-then-entry_parent-directory : goal.returns-then-entry_parent-directory
returns-then-entry_parent-directory c =
    search-past c.args.directory c.args.name.now c.args.from c.args.most c.args.tables.now.names.entries c.loop-place.invariant.0 c.loop-place.place c.loop-place.invariant.1 (omega arith) (omega (arith, c.loop-place-test.true, c.loop-place.invariant.2)) (omega (arith, c.loop-place-test.true, c.loop-place.invariant.2)) c.entry_parent.ensures c.if-entry_parent-directory.true

pub returns-then-has_name : goal.returns-then-has_name
returns-then-has_name c =
    search-here c.args.directory c.args.name.now c.args.from c.args.most c.args.tables.now.names.entries c.loop-place.invariant.0 c.loop-place.place c.loop-place.invariant.1 (omega arith) (omega (arith, c.loop-place-test.true, c.loop-place.invariant.2)) (omega (arith, c.loop-place-test.true, c.loop-place.invariant.2)) c.entry_parent.ensures c.if-entry_parent-directory.false c.has_name.ensures c.if-has_name.true

pub loop-place-preserved : goal.loop-place-preserved
loop-place-preserved c =
    (c.loop-place.invariant.0, search-on c.args.directory c.args.name.now c.args.from c.args.most c.args.tables.now.names.entries c.loop-place.invariant.0 c.loop-place.place c.loop-place.invariant.1 (omega arith) (omega (arith, c.loop-place-test.true, c.loop-place.invariant.2)) c.entry_parent.ensures c.if-entry_parent-directory.false c.has_name.ensures c.if-has_name.false, c.loop-place.invariant.2)

pub returns-then-entry_there : goal.returns-then-entry_there
returns-then-entry_there c =
    let e : c.loop-place.place ≡ c.looked_end-end.result = omega (arith, c.first_entry-first.ensures.1, c.entries_used-used.ensures.0, c.looked_end-end.ensures) in
    search-left c.args.directory c.args.name.now c.args.from c.args.most c.args.tables.now.names.entries c.loop-place.invariant.0 c.looked_end-end.result (rw e at c.loop-place.invariant.1) (omega (arith, c.first_entry-first.ensures.1, c.entries_used-used.ensures.0, c.looked_end-end.ensures)) c.loop-place.invariant.2 (sym c.entry_there.ensures ∙ c.if-entry_there.true)

pub returns : goal.returns
returns c =
    let e : c.loop-place.place ≡ c.looked_end-end.result = omega (arith, c.first_entry-first.ensures.1, c.entries_used-used.ensures.0, c.looked_end-end.ensures) in
    search-end c.args.directory c.args.name.now c.args.from c.args.most c.args.tables.now.names.entries c.loop-place.invariant.0 c.looked_end-end.result (rw e at c.loop-place.invariant.1) (omega (arith, c.first_entry-first.ensures.1, c.entries_used-used.ensures.0, c.looked_end-end.ensures)) c.loop-place.invariant.2 (sym c.entry_there.ensures ∙ c.if-entry_there.false)
