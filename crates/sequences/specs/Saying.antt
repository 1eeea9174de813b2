-- Believed: what calls say of one byte of a file: the byte last written there by a write that no cut, removal or new volume took away since,
-- else zero. Over the list of calls alone.
-- Assumes nothing.
use Rattle.std.specs.Prelude.{List, [], ◌∷◌, ℕ, ◌-◌, eqb, leb, length, get_or}
use Rattle.std.proofs.Math.Option.{Option, none, some}
use Rattle.words.specs.Rules.{pick, both}
use Rattle.sequences.specs.Fs.{Fs, NodeSeen}
use Rattle.sequences.specs.Calls.{Call, new_volume, check, report, set_chunk_size, read, write, resize, set_limit, find_node, next_entry, search, create, link, unlink, remove}
use Rattle.sequences.specs.Act.{within}

-- what one call says of byte j of node n, if anything
abbrev pub says : ℕ → ℕ → Call → Option ℕ
says n j (new_volume nodes entries chunks s) = some 0
says n j check = none
says n j (report out) = none
says n j (set_chunk_size s) = none
says n j (read m offset buffer) = none
says n j (write m offset bs) = pick (both (eqb m n) (within offset (length bs.list) j)) (some (get_or bs.list (j - offset) 0)) none
says n j (resize m z) = pick (both (eqb m n) (leb z j)) (some 0) none
says n j (set_limit m most) = none
says n j (find_node start path) = none
says n j (next_entry d from) = none
says n j (search d name from most) = none
says n j (create p name byte) = none
says n j (link p name t) = none
says n j (unlink start path want opens) = none
says n j (remove m) = pick (eqb m n) (some 0) none

-- what was said, else what there was before
abbrev pub said_or : Option ℕ → ℕ → ℕ
said_or none old = old
said_or (some b) old = b

-- a later call's word counts
abbrev pub later : Option ℕ → Option ℕ → Option ℕ
later none first = first
later (some b) first = some b

abbrev pub last_said : ℕ → ℕ → List Call → Option ℕ
last_said n j [] = none
last_said n j (c ∷ cs) = later (last_said n j cs) (says n j c)

abbrev pub byte_said : ℕ → ℕ → List Call → ℕ
byte_said n j cs = said_or (last_said n j cs) 0

-- byte j of node n of a file system, zero where there is no such node
abbrev pub byte_of : Option NodeSeen → ℕ → ℕ
byte_of none j = 0
byte_of (some x) j = x.bytes j

abbrev pub byte_seen : Fs → ℕ → ℕ → ℕ
byte_seen fs n j = byte_of (fs.at n) j
