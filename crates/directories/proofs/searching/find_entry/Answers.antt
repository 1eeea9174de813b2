use mathlib.Core.Logic.{inl, inr}
use native.Mathlib.Omega.{arith}
use Rattle.directories.proofs.EntrySearch.{found-place, no_place}
use Rattle.directories.proofs.searching.find_entry.Goals as goal

pub returns-in-At : goal.returns-in-At
returns-in-At c =
    found-place c.args.directory c.args.name.now c.args.tables.now.names.entries (omega (arith, c.entries_used-rows.ensures.0)) c.in-At.ensures

pub returns-in-Absent : goal.returns-in-Absent
returns-in-Absent c =
    no_place c.args.directory c.args.name.now c.args.tables.now.names.entries (omega (arith, c.entries_used-rows.ensures.0)) (λ p k q. elim c.in-Absent.is [ inl w ↦ cc | inr w ↦ cc ]) c.search_from.ensures
