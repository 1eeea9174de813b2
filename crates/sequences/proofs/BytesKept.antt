-- Every call keeps a volume of bytes one: what it writes are bytes that it was lent, names that it was lent, and zeros.
-- Assumes nothing.
use mathlib.Core.List.{List}
use mathlib.Core.Option.{Option, none, some}
use Prim.Native.Nat.{ℕ, zero, suc}
use Rattle.words.specs.Bytes.{zeros, Bytes}
use Rattle.words.specs.Tables.{Each}
use Rattle.words.proofs.Order.{each-insert}
use Rattle.words.proofs.Only.{each-only}
use Rattle.types.specs.declared.Expected.{Expected}
use Rattle.types.specs.Nodes.{Limit}
use Rattle.allocator.proofs.Sizes.{size-cases}
use Rattle.volume.specs.declared.ChunkRow.{ChunkRow}
use Rattle.volume.specs.Volume.{Names, Store, Volume, with_allocator, on_store}
use Rattle.volume.specs.Sound.{Good}
use Rattle.volume.specs.Steps.{Step, NamesStep, name_step}
use Rattle.tables.specs.OneRow.{chunk}
use Rattle.store.specs.Taken.{taken, ensured}
use Rattle.store.specs.Written.{put_for, put, write_chunk, write_chunks, written}
use Rattle.store.specs.Cut.{cut_from, tail_zeroed, shrunk}
use Rattle.store.proofs.Taken.{ensured-cases}
use Rattle.files.specs.Write as Write
use Rattle.files.specs.Resize as Resize
use Rattle.files.specs.Limits as Limits
use Rattle.files.proofs.WriteKept.{write-cases}
use Rattle.files.proofs.ResizeKept.{resize-cases}
use Rattle.files.proofs.LimitSteps.{limit-cases}
use Rattle.names.specs.Entering.{new_entry, entered, with_entry, created, linked_to}
use Rattle.names.specs.Entering as Entering
use Rattle.names.specs.Unlinking.{without, unlinked}
use Rattle.names.specs.Unlinking as Unlinking
use Rattle.names.specs.Removing.{without_node}
use Rattle.names.specs.Removing as Removing
use Rattle.names.proofs.Created.{Creates, refuses-create, creates, creates-view}
use Rattle.names.proofs.Linked.{Links, refuses-link, links, links-view}
use Rattle.names.proofs.Unlinked.{Unlinks, refuses, unlinks, unlink-cases}
use Rattle.names.proofs.Removed.{Removes, remove-cases}
use Rattle.names.proofs.Removed as Removed
use Rattle.lentilraft.specs.Door.{chunk_size_set}
use Rattle.sequences.proofs.RawBytes.{RawBytes, bytes-piece, bytes-over, bytes-zeros}

-- ---- the chunk area

-- a chunk taken is all zeros
taken-bytes : (n k : ℕ) (s : Store) → Bytes s.bytes → Bytes (taken n k s).bytes
unfolding taken
taken-bytes n k s h = bytes-over s.bytes _ (zeros s.allocator.chunk_size) h (bytes-zeros s.allocator.chunk_size)

-- bytes written chunk by chunk
module _ (n offset : ℕ) (bs : List ℕ) (b : Bytes bs) where
  put-bytes : (k : ℕ) (s : Store) → Bytes s.bytes → Bytes (put n offset bs k s).bytes
  unfolding put put_for
  put-bytes k s h = go (chunk n k s.chunks)
    where
      go : (o : Option ChunkRow) → Bytes (put_for o offset bs k s).bytes
      go none = h
      go (some c) = bytes-over s.bytes _ _ h (bytes-piece bs _ _ b)

  chunk_bytes : (k : ℕ) (s : Store) → Bytes s.bytes → Bytes (write_chunk n offset bs k s).bytes
  unfolding write_chunk
  chunk_bytes k s h = put-bytes k (ensured n k s) (ensured-cases n k s (λ t. Bytes t.bytes) (λ e. taken-bytes n k s h) (λ c e. h))

  chunks-bytes : (c k : ℕ) (s : Store) → Bytes s.bytes → Bytes (write_chunks n offset bs c k s).bytes
  unfolding write_chunks
  chunks-bytes zero k s h = h
  chunks-bytes (suc c) k s h = chunks-bytes c (suc k) (write_chunk n offset bs k s) (chunk_bytes k s h)

  written-bytes : (s : Store) → Bytes s.bytes → Bytes (written n offset bs s).bytes
  unfolding written
  written-bytes s h = chunks-bytes _ _ s h

-- chunks that are freed keep their bytes
cut-bytes : (n c : ℕ) (s : Store) → Bytes s.bytes → Bytes (cut_from n c s).bytes
unfolding cut_from
cut-bytes n c s h = h

shrunk-bytes : (n z : ℕ) (s : Store) → Bytes s.bytes → Bytes (shrunk n z s).bytes
unfolding shrunk tail_zeroed
shrunk-bytes n z s h = put-bytes n z _ (bytes-zeros _) _ (cut_from n _ s) (cut-bytes n _ s h)

-- ---- the names

-- an entry more
entry-bytes : (p : ℕ) (name : List ℕ) (t : ℕ) (a : Names) → Bytes name → Each (λ e. Bytes e.name) a.entries → Each (λ e. Bytes e.name) (with_entry p name t a).entries
unfolding with_entry entered
entry-bytes p name t a b h = each-insert (λ e. Bytes e.name) _ (new_entry p name t a.entries) a.entries b h

-- ---- the calls on files, each in the form that `door-bytes` asks for

pub size-raw : (s : ℕ) (v : Volume) → Good v → RawBytes v → RawBytes (chunk_size_set s v).after
unfolding chunk_size_set
size-raw s v g h = size-cases (λ t. RawBytes (on_store (with_allocator t.after) v)) s v.store.allocator (λ e. h) h (λ e z. record { names = h.names; area = h.area })

pub limit-raw : (n : ℕ) (m : Limit) (v : Volume) → Good v → RawBytes v → RawBytes (Limits.set_limit n m v).after
limit-raw n m v g h = limit-cases (λ s. RawBytes s.after) n m v (λ e. h) (λ r there file most size. record { names = h.names; area = h.area })

pub resize-raw : (n z : ℕ) (v : Volume) → Good v → RawBytes v → RawBytes (Resize.resize n z v).after
resize-raw n z v g h =
    resize-cases (λ s. RawBytes s.after) n z v (λ e. h) (λ r a e. record { names = h.names; area = h.area }) (λ r a e. record { names = h.names; area = shrunk-bytes n z v.store h.area })

pub write-raw : (n offset : ℕ) (bs : List ℕ) → Bytes bs → (v : Volume) → Good v → RawBytes v → RawBytes (Write.write n offset bs v).after
write-raw n offset bs b v g h = write-cases (λ s. RawBytes s.after) n offset bs v (λ e. h) (λ e. h) (λ r a. record { names = h.names; area = written-bytes n offset bs b v.store h.area })

-- ---- the calls on names

pub create-raw : (p : ℕ) (name : List ℕ) (byte : ℕ) → Bytes name → (v : Volume) → Good v → RawBytes v → RawBytes (name_step (Entering.create p name byte) v).after
create-raw p name byte b v g h = record { names = go (Entering.create p name byte v.names) (creates-view p name byte v.names); area = h.area }
  where
    go : (s : NamesStep) → Creates p name byte v.names s → Each (λ e. Bytes e.name) s.after.entries
    go s (refuses-create e) = h.names
    go s (creates r kind parent new k room next) = unfold created in entry-bytes p name v.names.next_node v.names b h.names

pub link-raw : (p : ℕ) (name : List ℕ) (t : ℕ) → Bytes name → (v : Volume) → Good v → RawBytes v → RawBytes (name_step (Entering.link p name t) v).after
link-raw p name t b v g h = record { names = go (Entering.link p name t v.names) (links-view p name t v.names); area = h.area }
  where
    go : (s : NamesStep) → Links p name t v.names s → Each (λ e. Bytes e.name) s.after.entries
    go s (refuses-link e) = h.names
    go s (links r d parent new target) = unfold linked_to in entry-bytes p name t v.names b h.names

pub unlink-raw : (start : ℕ) (path : List ℕ) (want : Expected) (opens : ℕ) (v : Volume) → Good v → RawBytes v → RawBytes (name_step (Unlinking.unlink start path want opens) v).after
unlink-raw start path want opens v g h = record { names = go (Unlinking.unlink start path want opens v.names) (unlink-cases start path want opens v.names g.named); area = h.area }
  where
    go : (s : NamesStep) → Unlinks start path v.names s → Each (λ e. Bytes e.name) s.after.entries
    go s (refuses e) = h.names
    go s (unlinks e l u) = unfold unlinked without in each-only (λ e. Bytes e.name) _ v.names.entries h.names

pub remove-raw : (n : ℕ) (v : Volume) → Good v → RawBytes v → RawBytes (Removing.remove n v).after
remove-raw n v g h = go (Removing.remove n v) (remove-cases n v)
  where
    go : (s : Step) → Removes n v s → RawBytes s.after
    go s (Removed.refuses e) = h
    go s (Removed.removes r there bare) = record { names = unfold without_node in h.names; area = cut-bytes n 0 v.store h.area }
