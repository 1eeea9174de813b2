use mathlib.Core.Path.{◌≡◌}
use Prim.Native.Nat.{◌+◌, ◌-◌, min}
use lib.ListN.{drop, length}
use Rattle.words.specs.Tables.{lead}
use Rattle.volume.specs.Search.{entry_under}
use Rattle.directories.specs.Searches.{other_name}
use Rattle.directories.proofs.searching.search_from.Given as goal

abbrev pub invariant-loop-place : goal.invariant-loop-place
invariant-loop-place l =
    (l.first ≡ lead (entry_under l.directory l.from) l.tables.names.entries) × (lead (other_name l.directory l.name) (drop l.first l.tables.names.entries) ≡ l.place - l.first + lead (other_name l.directory l.name) (drop l.place l.tables.names.entries)) × (l.end ≡ min (l.first + l.most) (length l.tables.names.entries))
