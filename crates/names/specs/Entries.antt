-- Believed: the entries of a directory, by name and by index.
-- Assumes nothing.
use Rattle.std.specs.Prelude.{ℕ, Bool, List, [], ◌∷◌, eqb, leb, ltb}
use Rattle.std.proofs.Math.Option.{Option, none, some}
use Rattle.words.specs.Rules.{pick, both, same}
use Rattle.words.specs.Tables.{find}
use Rattle.volume.specs.Rows.{Entry}

-- the entry of directory d that has a name
abbrev pub has_name : ℕ → List ℕ → Entry → Bool
has_name d name e = both (eqb e.parent d) (same e.name name)

unfoldable pub entry_named : ℕ → List ℕ → List Entry → Option Entry
entry_named d name es = find (has_name d name) es

-- the first entry of directory d at or above an index
abbrev pub from_index : ℕ → ℕ → Entry → Bool
from_index d i e = both (eqb e.parent d) (leb i e.index)

unfoldable pub entry_from : ℕ → ℕ → List Entry → Option Entry
entry_from d i es = find (from_index d i) es

-- the greatest index in directory d, 0 where it has no entry
unfoldable pub greatest : ℕ → List Entry → ℕ
greatest d [] = 0
greatest d (e ∷ es) = pick (both (eqb e.parent d) (ltb (greatest d es) e.index)) e.index (greatest d es)

-- what is made of an entry that may be there
unfoldable pub on_entry : {A : Type 0} → A → (Entry → A) → Option Entry → A
on_entry missing call none = missing
on_entry missing call (some e) = call e
