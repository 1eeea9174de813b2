-- The row of a file, found: what it is, and what a call on a file makes of it; what every call gives where there is none.
-- Assumes nothing.
use Rattle.std.specs.Prelude.{Result, Some, None, Ok, Err}
use mathlib.Core.Path.{◌≡◌, refl, sym, ◌∙◌, subst}
use mathlib.Core.Bool.{Bool, true, false}
use mathlib.Core.List.{List}
use mathlib.Core.Option.{some}
use Prim.Native.Nat.{ℕ, ◌≤◌, ◌<◌}
use lib.Count.{ones}
use lib.ListN.{length}
use Rattle.words.specs.Rules.{pick}
use Rattle.words.specs.Tables.{Asc}
use Rattle.words.proofs.Rules.{pick_true, pick-false}
use Rattle.types.specs.Nodes.{is_directory}
use Rattle.types.specs.declared.Error.{Error}
use Rattle.types.specs.declared.Error.TheVariants.{NoSuchEntry, IsDirectory}
use Rattle.types.specs.declared.NodeRecord.{NodeRecord}
use Rattle.volume.specs.Volume.{Names, Store}
use Rattle.volume.specs.Sound.{node, node_before}
use Rattle.volume.specs.Files.{on_row, on_file}
use Rattle.tables.specs.Tables.{node_at, found_node, Found}
use Rattle.tables.proofs.TableSearch.{node-found, node-absent}
use Rattle.tables.proofs.NodeRows.{node-is}
use Rattle.files.specs.declared.files.RowAt.{RowAt}
use Rattle.files.specs.FileRows.{IsSpan, file_at, file_found}

-- what a place gives whose row is a file's
abbrev at_place : List NodeRecord → ℕ → Result RowAt Error
at_place rs j = Ok (record { place = j; row = node_at rs j })

-- ---- the ends of the search

module _ (n : ℕ) (rs : List NodeRecord) where
  pub no_row : {r : Found} → r ≡ None → r ≡ found_node n rs → Err NoSuchEntry ≡ file_found n rs
  unfolding file_found file_at
  no_row k h = rw (← (sym k ∙ h)) refl

  module _ {r : Found} {i : ℕ} (k : r ≡ Some i) (h : r ≡ found_node n rs) where
    pub row-there : i < length rs
    row-there = (node-found n rs i (sym k ∙ h)).0

    module _ {d : NodeRecord} (q : d ≡ node_at rs i) {b : Bool} (t : b ≡ is_directory d.kind) where
      pub directory-row : b ≡ true → Err IsDirectory ≡ file_found n rs
      unfolding file_found file_at
      directory-row e = rw (← (sym k ∙ h)) (pick_true _ _ _ _ (rw (← q) (sym t ∙ e)) refl)

      pub file-row : b ≡ false → Ok (record { place = i; row = d }) ≡ file_found n rs
      unfolding file_found file_at
      file-row e = rw (← (sym k ∙ h)) (pick-false _ _ _ _ (rw (← q) (sym t ∙ e)) (rw q))

-- ---- a file found

-- a row and its place are those of a node's file
pub record IsFile (n : ℕ) (a : Names) (f : RowAt) : Type 0 where
  pub place : f.place < length a.nodes
  pub found : Some f.place ≡ found_node n a.nodes
  pub here : f.row ≡ node_at a.nodes f.place
  pub row : node n a ≡ some f.row
  pub number : f.row.node ≡ n
  pub file : is_directory f.row.kind ≡ false

module _ (n : ℕ) (a : Names) {r : Result RowAt Error} {f : RowAt} (k : r ≡ Ok f) (h : r ≡ file_found n a.nodes) where
  pub file-found : IsFile n a f
  unfolding file_found file_at node pick
  file-found = go (found_node n a.nodes) refl (sym k ∙ h)
    where
      row : (j : ℕ) → Some j ≡ found_node n a.nodes → (b : Bool) → is_directory (node_at a.nodes j).kind ≡ b → Ok f ≡ pick b (Err IsDirectory) (at_place a.nodes j) → IsFile n a f
      row j g true e z = absurd cc
      row j g false e z =
          let s : record { place = j; row = node_at a.nodes j } ≡ f = cc in
          let t = node-found n a.nodes j g in
          subst (IsFile n a) s (record { place = t.0; found = g; here = refl; row = t.1; number = node-is n a (node_at a.nodes j) t.1; file = e })

      go : (o : Found) → o ≡ found_node n a.nodes → Ok f ≡ file_at a.nodes o → IsFile n a f
      go None g z = absurd cc
      go (Some j) g z = row j g (is_directory (node_at a.nodes j).kind) refl z

  -- a call goes on with its row
  pub file-goes-on : {X : Type 0} (refuse : Error → X) (call : NodeRecord → X) → call f.row ≡ on_file n a refuse call
  unfolding on_file on_row
  file-goes-on refuse call = rw file-found.row (pick-false _ _ _ _ file-found.file refl)

-- ---- none found: a call gives its refusal

module _ {X : Type 0} (refuse : Error → X) (call : NodeRecord → X) (n : ℕ) (a : Names) where
  pub file-refused : Asc node_before a.nodes → {r : Result RowAt Error} {e : Error} → r ≡ Err e → r ≡ file_found n a.nodes → refuse e ≡ on_file n a refuse call
  unfolding on_file on_row file_found file_at node pick
  file-refused asc {r} {e} k h = go (found_node n a.nodes) refl (sym k ∙ h)
    where
      row : (j : ℕ) → Some j ≡ found_node n a.nodes → (b : Bool) → is_directory (node_at a.nodes j).kind ≡ b → Err e ≡ pick b (Err IsDirectory) (at_place a.nodes j) → refuse e ≡ on_row refuse call (node n a)
      row j f true q z =
          let s : e ≡ IsDirectory = cc in
          rw (s, (node-found n a.nodes j f).1) (pick_true _ _ _ _ q refl)
      row j f false q z = absurd cc

      go : (o : Found) → o ≡ found_node n a.nodes → Err e ≡ file_at a.nodes o → refuse e ≡ on_row refuse call (node n a)
      go None f z =
          let s : e ≡ NoSuchEntry = cc in
          rw (s, node-absent n a.nodes asc f) refl
      go (Some j) f z = row j f (is_directory (node_at a.nodes j).kind) refl z

-- ---- the chunk size, as the volume tells it

pub span_of : (v : Store) {s : ℕ} → (s ≡ v.allocator.chunk_size) × (0 < s) × (s ≤ 65536) × (ones s ≡ 1) → IsSpan v s
span_of v h = (h.0, h.1, h.2)
