-- Believed: the scope's boundary table, P1 to P11, as data: what is called, and what must come out. It starts from chunks of 16,384 bytes,
-- room for at least two of them, and a file of its own that is empty and has no limit, first in the volume (`Start`). And a table of paths
-- that mean a directory, which starts from a new volume.
-- Assumes nothing.
use Rattle.std.specs.Prelude.{◌≡◌, true, List, [], ◌∷◌, ℕ, ◌^◌, Ok}
use Rattle.std.proofs.Math.Option.{Option, none, some}
use Rattle.std.proofs.Common.{arith}
use Rattle.words.specs.Bytes.{Bytes}
use Rattle.words.specs.Tables.{Each}
use Rattle.types.specs.Outcomes.{done}
use Rattle.types.specs.declared.Expected.TheVariants.{Any}
use Rattle.paths.specs.Boundary.{byte_a, byte_b, path8, path9, path10, path11}
use Rattle.paths.specs.Path.{slash, dot, name_allowed}
use Rattle.allocator.specs.Allocator.{free}
use Rattle.volume.specs.declared.ChunkRow.{ChunkRow}
use Rattle.volume.specs.Volume.{shown}
use Rattle.names.specs.Walks.{walk_from, as_directory, node_reached}
use Rattle.files.specs.Boundary.{row}
use Rattle.sequences.specs.Fs.{NodeSeen}
use Rattle.sequences.specs.Show.{show}
use Rattle.sequences.specs.Calls.{Lent, Call, new_volume, read, write, resize, find_node, create, unlink}
use Rattle.sequences.specs.Run.{told, filled, reply_number, run, run_all}

-- ---- what comes out of a call

pub data Comes : Type 0 where
  -- the number of a refusal, and the memory as it was
  refused_with : ℕ → Comes
  -- a value
  answered : ℕ → Comes
  -- a count, and the buffer's bytes
  gives : ℕ → List ℕ → Comes
  -- the chunk rows
  rows_are : List ChunkRow → Comes
  -- the free pointers, from word 16 on
  free_are : List ℕ → Comes
  -- a node's size
  size_is : ℕ → ℕ → Comes
  -- from a start these parts are looked up, one by one, and nothing else; each is a name
  looks_up : ℕ → List (List ℕ) → Comes
  -- the same, and what they lead to has to pass as a directory
  looks_up_directory : ℕ → List (List ℕ) → Comes

abbrev pub HasSize : ℕ → Option NodeSeen → Type 0
HasSize z none = ⊥
HasSize z (some x) = x.size ≡ z

abbrev pub ComesOut : List ℕ → Call → Comes → Type 0
ComesOut l c (refused_with k) = (reply_number (run c l).reply ≡ k) × ((run c l).memory ≡ l)
ComesOut l c (answered k) = (run c l).reply ≡ told (Ok k)
ComesOut l c (gives k bs) = (run c l).reply ≡ filled (done k bs)
ComesOut l c (rows_are cs) = (shown (run c l).memory).store.chunks ≡ cs
ComesOut l c (free_are ps) = free (shown (run c l).memory).store.allocator ≡ ps
ComesOut l c (size_is n z) = HasSize z ((show (shown (run c l).memory)).at n)
ComesOut l c (looks_up start ps) = ((run c l).reply ≡ told (node_reached (walk_from start (shown l).names ps))) × Each (λ p. name_allowed p ≡ true) ps
ComesOut l c (looks_up_directory start ps) =
    ((run c l).reply ≡ told (node_reached (as_directory (shown l).names (walk_from start (shown l).names ps)))) × Each (λ p. name_allowed p ≡ true) ps

-- ---- the table

-- calls before, the call, and what comes of it
pub record BoundaryRow : Type 0 where
  pub before : List Call
  pub call : Call
  pub comes : List Comes

-- it holds of a memory
abbrev pub Holds : List ℕ → BoundaryRow → Type 0
Holds l r = Each (ComesOut (run_all r.before l) r.call) r.comes

unfoldable pub nothing : Lent
unfolding Bytes
nothing = record { list = []; bytes = λ i. omega arith }

-- of a file, three bytes, one byte, and a start to find from
abbrev pub boundary_table : ℕ → Lent → Lent → ℕ → List BoundaryRow
boundary_table n three one start =
    -- P1: write 3 bytes at 16,383, first in the volume: pointers 0 and 16,384, size 16,386
    record { before = []; call = write n 16383 three; comes = answered 3 ∷ rows_are (row n 0 0 ∷ row n 1 16384 ∷ []) ∷ size_is n 16386 ∷ [] }
    -- P2: then resize to 16,383: free word 16 is 16,384
    ∷ record { before = write n 16383 three ∷ []; call = resize n 16383; comes = answered 0 ∷ free_are (16384 ∷ []) ∷ [] }
    -- P3: back to 16,386, read there: 0 0 0
    ∷ record { before = write n 16383 three ∷ resize n 16383 ∷ resize n 16386 ∷ []; call = read n 16383 (1 ∷ 1 ∷ 1 ∷ []); comes = gives 3 (0 ∷ 0 ∷ 0 ∷ []) ∷ [] }
    -- P4: empty write at u64::MAX: 0, size kept
    ∷ record { before = write n 16383 three ∷ []; call = write n 18446744073709551615 nothing; comes = answered 0 ∷ size_is n 16386 ∷ [] }
    -- P5: one byte at 2^40: 5
    ∷ record { before = []; call = write n (2 ^ 40) one; comes = refused_with 5 ∷ [] }
    -- P6: at 2^40 - 1: index 67,108,863
    ∷ record { before = []; call = write n 1099511627775 one; comes = answered 1 ∷ rows_are (row n 67108863 0 ∷ []) ∷ [] }
    -- P7: empty file to 40,000, then 20,000: no row
    ∷ record { before = resize n 40000 ∷ []; call = resize n 20000; comes = answered 0 ∷ rows_are [] ∷ [] }
    -- P8: `a/../..`: 8
    ∷ record { before = []; call = find_node start path8; comes = refused_with 8 ∷ [] }
    -- P9: `a/../b`: only `b` is looked up
    ∷ record { before = []; call = find_node start path9; comes = looks_up start ((byte_b ∷ []) ∷ []) ∷ [] }
    -- P10: `./a//b/`: parts a, b
    ∷ record { before = []; call = find_node start path10; comes = looks_up_directory start ((byte_a ∷ []) ∷ (byte_b ∷ []) ∷ []) ∷ [] }
    -- P11: `...`: a name
    ∷ record { before = []; call = find_node start path11; comes = looks_up start (path11 ∷ []) ∷ [] }
    ∷ []

-- ---- paths that mean a directory

-- the byte `c`
abbrev pub byte_c : ℕ
byte_c = 99

-- a new volume whose root has a regular file `a`, node 1, a directory `b`, node 2, and a symbolic link `c`, node 3
abbrev pub kinds_made : Lent → Lent → Lent → List Call
kinds_made a b c = new_volume 4 3 1 16384 ∷ create 0 a 1 ∷ create 0 b 0 ∷ create 0 c 2 ∷ []

-- behind these calls
abbrev pub folder_table : List Call → List BoundaryRow
folder_table made =
    -- `a` ends in a name
    record { before = made; call = find_node 0 (byte_a ∷ []); comes = answered 1 ∷ [] }
    -- `a/`, `a/.`, `a/b/..`: 4
    ∷ record { before = made; call = find_node 0 (byte_a ∷ slash ∷ []); comes = refused_with 4 ∷ [] }
    ∷ record { before = made; call = find_node 0 (byte_a ∷ slash ∷ dot ∷ []); comes = refused_with 4 ∷ [] }
    ∷ record { before = made; call = find_node 0 (byte_a ∷ slash ∷ byte_b ∷ slash ∷ dot ∷ dot ∷ []); comes = refused_with 4 ∷ [] }
    -- `a/b/`: below a file there is no entry, so that the walk's 2 comes first
    ∷ record { before = made; call = find_node 0 (byte_a ∷ slash ∷ byte_b ∷ slash ∷ []); comes = refused_with 2 ∷ [] }
    -- `b/`, `c/`: a directory and a symbolic link pass
    ∷ record { before = made; call = find_node 0 (byte_b ∷ slash ∷ []); comes = answered 2 ∷ [] }
    ∷ record { before = made; call = find_node 0 (byte_c ∷ slash ∷ []); comes = answered 3 ∷ [] }
    -- `./` from the file: no part is left
    ∷ record { before = made; call = find_node 1 (dot ∷ slash ∷ []); comes = answered 1 ∷ [] }
    -- unlink `a/`, open: 4 before 12; `c/`
    ∷ record { before = made; call = unlink 0 (byte_a ∷ slash ∷ []) Any 1; comes = refused_with 4 ∷ [] }
    ∷ record { before = made; call = unlink 0 (byte_c ∷ slash ∷ []) Any 0; comes = answered 3 ∷ [] }
    ∷ []
