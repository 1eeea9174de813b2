-- Believed: what next entry gives its caller: the name as a part of the volume, and number, index and node through lent places. A refusal
-- gives its number, an empty part, and zeros. And the same by where the name stands, for callers that cannot be lent a part.
-- Assumes nothing.
use Rattle.std.specs.Prelude.{◌≡◌, List, ℕ, ◌+◌, ◌*◌, length, Result, Ok, Err}
use Rattle.words.specs.Bytes.{word}
use Rattle.words.specs.Tables.{lead}
use Rattle.volume.specs.Header.{at_node_room, at_chunk_room}
use Rattle.volume.specs.Rows.{entry_row, name_start}
use Rattle.volume.specs.Search.{entry_under}
use Rattle.volume.specs.Volume.{at_entries}
use Rattle.names.specs.Listing as Listing
use Rattle.names.specs.Listing.{Listed, listed, unlisted, listed_number, listed_index, listed_node, listed_name}
use Rattle.lentilraft.specs.Door.{if_sound}
use Rattle.lentilraft.specs.declared.naming.NameAt.{NameAt}
use Rattle.types.specs.declared.Error.{Error}

pub record GivesEntry (o : Listed) (name : List ℕ) (number index node : ℕ) : Type 0 where
  pub named : name ≡ listed_name o
  pub numbered : number ≡ listed_number o
  pub indexed : index ≡ listed_index o
  pub noded : node ≡ listed_node o

-- where the name of the entry stands whose row is at a place
abbrev pub name_at : List ℕ → ℕ → ℕ
name_at l place = at_entries (word l at_node_room) (word l at_chunk_room) + entry_row * place + name_start

abbrev pub name_placed : List ℕ → ℕ → Listed → Result NameAt Error
name_placed l place (listed e) = Ok (record { at = name_at l place; long = length e.name; index = e.index; node = e.node })
name_placed l place (unlisted e) = Err e

-- the first entry at or above the index stands first in the table that is not below (directory, index)
unfoldable pub next_name : ℕ → ℕ → List ℕ → Result NameAt Error
next_name d from l = if_sound l Err (λ v. name_placed l (lead (entry_under d from) v.names.entries) (Listing.next_entry d from v.names))
