use borrow.Author.Rules.{rules}
use Rattle.tables.specs.Tables.{entry_at}
use Rattle.words.specs.Bytes.{Bytes}
use Rattle.soundness.proofs.NameOrder.{differ-apart, differ-beside}
use Rattle.soundness.proofs.names.names_differ.Goals as goal

pub returns-then-entry_parent : goal.returns-then-entry_parent
returns-then-entry_parent c =
    differ-apart (entry_at c.args.tables.now.names.entries c.args.i) (entry_at c.args.tables.now.names.entries c.args.j) c.entry_parent.ensures c.entry_parent-2.ensures c.if-entry_parent.true

pub returns : goal.returns
unfolding Bytes
returns c =
    let other : Bytes c.entry_name-other.result.now = λ k. search rules in
    let name : Bytes c.entry_name-name.result.now = λ k. search rules in
    differ-beside (entry_at c.args.tables.now.names.entries c.args.i) (entry_at c.args.tables.now.names.entries c.args.j) c.entry_parent.ensures c.entry_parent-2.ensures c.if-entry_parent.false (rw c.entry_name-other.ensures at other) (rw c.entry_name-name.ensures at name) c.entry_name-other.ensures c.entry_name-name.ensures c.same.ensures
