-- Believed: what an accepted call gives, and what a list of them gives from nothing: the file system worked out afresh.
-- Assumes nothing.
use Rattle.std.specs.Prelude.{ℕ, ◌+◌, ◌-◌, max, Bool, not, List, [], ◌∷◌, ◌++◌, eqb, leb, ltb, length, get_or, None}
use Rattle.std.proofs.Math.Option.{Option, none, some}
use Rattle.words.specs.Rules.{pick, both, same}
use Rattle.words.specs.Tables.{find, only}
use Rattle.types.specs.declared.FileType.{FileType}
use Rattle.types.specs.declared.FileType.TheVariants.{Directory}
use Rattle.types.specs.Nodes.{Limit}
use Rattle.paths.specs.Path.{cut_path}
use Rattle.types.specs.Kinds.{kind_of}
use Rattle.names.specs.Entering.{on_kind}
use Rattle.names.specs.Walks.{on_cutting}
use Rattle.sequences.specs.Fs.{NameSeen, NodeSeen, Fs}
use Rattle.sequences.specs.Calls.{Call, new_volume, check, report, set_chunk_size, read, write, resize, set_limit, find_node, next_entry, search, create, link, unlink, remove}

-- ---- one node

abbrev pub changed_if : (NodeSeen → NodeSeen) → Option NodeSeen → Option NodeSeen
changed_if f none = none
changed_if f (some x) = some (f x)

-- node n changed, if it is there
unfoldable pub change_at : ℕ → (NodeSeen → NodeSeen) → Fs → Fs
change_at n f fs = record { next = fs.next; at = λ m. pick (eqb m n) (changed_if f (fs.at m)) (fs.at m) }

-- node n put there, or taken away, and the next node
unfoldable pub put_at : ℕ → Option NodeSeen → ℕ → Fs → Fs
put_at n o next fs = record { next = next; at = λ m. pick (eqb m n) o (fs.at m) }

-- ---- its bytes, its limit, its links

-- byte j is one of so many from an offset on
abbrev pub within : ℕ → ℕ → ℕ → Bool
within offset long j = both (leb offset j) (ltb j (offset + long))

abbrev pub with_written : ℕ → List ℕ → NodeSeen → NodeSeen
with_written offset bs x = record {
  kind = x.kind;
  limit = x.limit;
  links = x.links;
  size = max x.size (offset + length bs);
  bytes = λ j. pick (within offset (length bs) j) (get_or bs (j - offset) 0) (x.bytes j);
  names = x.names;
}

-- size z: nothing stays at or above it
abbrev pub with_cut : ℕ → NodeSeen → NodeSeen
with_cut z x = record { kind = x.kind; limit = x.limit; links = x.links; size = z; bytes = λ j. pick (ltb j z) (x.bytes j) 0; names = x.names }

abbrev pub with_limit : Limit → NodeSeen → NodeSeen
with_limit m x = record { kind = x.kind; limit = m; links = x.links; size = x.size; bytes = x.bytes; names = x.names }

abbrev pub with_links : ℕ → NodeSeen → NodeSeen
with_links k x = record { kind = x.kind; limit = x.limit; links = k; size = x.size; bytes = x.bytes; names = x.names }

-- ---- its names

-- the greatest index, 0 where there is no name
unfoldable pub greatest_seen : List NameSeen → ℕ
greatest_seen [] = 0
greatest_seen (y ∷ ys) = max y.index (greatest_seen ys)

-- one name more, behind the others; its index is the greatest plus 1
abbrev pub with_name : List ℕ → ℕ → NodeSeen → NodeSeen
with_name name n x = record {
  kind = x.kind;
  limit = x.limit;
  links = x.links;
  size = x.size + 1;
  bytes = x.bytes;
  names = x.names ++ (record { index = greatest_seen x.names + 1; node = n; name = name } ∷ []);
}

-- the name with an index less
abbrev pub without_name : ℕ → NodeSeen → NodeSeen
without_name i x = record {
  kind = x.kind;
  limit = x.limit;
  links = x.links;
  size = x.size - 1;
  bytes = x.bytes;
  names = only (λ y. not (eqb y.index i)) x.names;
}

-- a node with no bytes and no names, named once
abbrev pub new_seen : FileType → NodeSeen
new_seen kind = record { kind = kind; limit = None; links = 1; size = 0; bytes = λ j. 0; names = [] }

-- ---- names followed

-- a name, and the directory it stands in
pub record NameIn : Type 0 where
  pub directory : ℕ
  pub seen : NameSeen

abbrev pub names_of : Option NodeSeen → List NameSeen
names_of none = []
names_of (some x) = x.names

abbrev pub on_name : {A B : Type 0} → A → (B → A) → Option B → A
on_name missing call none = missing
on_name missing call (some y) = call y

-- the last name that parts lead by from node n, each looked up among the names of the node before
unfoldable pub followed : Fs → ℕ → Option NameIn → List (List ℕ) → Option NameIn
followed fs n last [] = last
followed fs n last (p ∷ ps) =
    on_name none (λ y. followed fs y.node (some (record { directory = n; seen = y })) ps) (find (λ y. same y.name p) (names_of (fs.at n)))

-- the name that a path leads to
abbrev pub path_name : Fs → ℕ → List ℕ → Option NameIn
path_name fs start path = on_cutting (λ e. none) (followed fs start none) (cut_path path)

-- ---- the calls

abbrev pub created_as : ℕ → List ℕ → FileType → Fs → Fs
created_as p name kind fs = change_at p (with_name name fs.next) (put_at fs.next (some (new_seen kind)) (fs.next + 1) fs)

abbrev pub linked_as : ℕ → List ℕ → ℕ → Fs → Fs
linked_as p name t fs = change_at p (with_name name t) (change_at t (λ x. with_links (x.links + 1) x) fs)

abbrev pub unlinked_from : Fs → NameIn → Fs
unlinked_from fs x = change_at x.directory (without_name x.seen.index) (change_at x.seen.node (λ y. with_links (y.links - 1) y) fs)

-- what new volume gives: node 0, a directory that no name names and that has links 1
unfoldable pub empty_fs : Fs
empty_fs = record { next = 1; at = λ n. pick (eqb n 0) (some (new_seen Directory)) none }

abbrev pub act : Call → Fs → Fs
act (new_volume n e c s) fs = empty_fs
act check fs = fs
act (report out) fs = fs
act (set_chunk_size s) fs = fs
act (read n offset buffer) fs = fs
act (write n offset bs) fs = pick (eqb (length bs.list) 0) fs (change_at n (with_written offset bs.list) fs)
act (resize n z) fs = change_at n (with_cut z) fs
act (set_limit n m) fs = change_at n (with_limit m) fs
act (find_node start path) fs = fs
act (next_entry d from) fs = fs
act (search d name from most) fs = fs
act (create p name byte) fs = on_kind fs (λ kind. created_as p name.list kind fs) (kind_of byte)
act (link p name t) fs = linked_as p name.list t fs
act (unlink start path want opens) fs = on_name fs (unlinked_from fs) (path_name fs start path)
act (remove n) fs = put_at n none fs.next fs

-- calls one behind another
abbrev pub replay : List Call → Fs → Fs
replay [] fs = fs
replay (c ∷ cs) fs = replay cs (act c fs)
