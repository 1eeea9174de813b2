-- What a call that goes on with a volume leaves of its allocator: word 3 never falls, and the chunk size stays once a pointer was given out.
-- Assumes nothing.
use mathlib.Core.Path.{◌≡◌, refl, ◌∙◌}
use mathlib.Core.Bool.{Bool, true, false}
use mathlib.Core.List.{List}
use mathlib.Core.Option.{Option, none, some}
use Prim.Native.Nat.{ℕ, zero, suc, ◌≤◌, ◌<◌}
use native.Mathlib.Omega.{arith}
use lib.Dec.{eqb}
use Rattle.words.specs.Rules.{pick}
use Rattle.types.specs.Nodes.{Limit}
use Rattle.allocator.specs.Allocator.{Allocator, allocate, grown, reused}
use Rattle.allocator.proofs.Sizes.{size-cases}
use Rattle.allocator.proofs.Allocated.{allocate-rest}
use Rattle.allocator.proofs.Released.{freed-all}
use Rattle.volume.specs.declared.ChunkRow.{ChunkRow}
use Rattle.volume.specs.Volume.{Store, Volume, with_allocator}
use Rattle.volume.specs.Sound.{round_up}
use Rattle.volume.specs.Steps.{Step}
use Rattle.tables.specs.OneRow.{chunk}
use Rattle.store.specs.Taken.{taken, ensured}
use Rattle.store.specs.Written.{put, put_for, write_chunk, write_chunks, written}
use Rattle.store.specs.Cut.{cut_from, tail_zeroed, shrunk}
use Rattle.store.proofs.Taken.{ensured-cases}
use Rattle.files.specs.Write.{write}
use Rattle.files.specs.Resize.{resize}
use Rattle.files.specs.Limits.{set_limit}
use Rattle.files.proofs.WriteKept.{write-cases}
use Rattle.files.proofs.ResizeKept.{resize-cases}
use Rattle.files.proofs.LimitSteps.{limit-cases}
use Rattle.names.specs.Removing.{remove}
use Rattle.names.proofs.Removed.{Removes, refuses, removes, remove-cases}
use Rattle.lentilraft.specs.Door.{chunk_size_set}

pub record Later (s t : Store) : Type 0 where
  pub size : 0 < s.allocator.next_ptr → t.allocator.chunk_size ≡ s.allocator.chunk_size
  pub next : s.allocator.next_ptr ≤ t.allocator.next_ptr

pub later_same : (s : Store) → Later s s
later_same s = record { size = λ h. refl; next = omega arith }

pub later-twice : {s t u : Store} → Later s t → Later t u → Later s u
later-twice a b = record { size = λ h. b.size (omega (arith, a.next)) ∙ a.size h; next = omega (arith, a.next, b.next) }

-- ---- the steps on chunks

allocate-next : (a : Allocator) → a.next_ptr ≤ (allocate a).after.next_ptr
unfolding allocate pick
allocate-next a = go (eqb a.free_count 0)
  where
    go : (t : Bool) → a.next_ptr ≤ (pick t (grown a) (reused a)).after.next_ptr
    go true = omega arith
    go false = omega arith

later-taken : (n k : ℕ) (s : Store) → Later s (taken n k s)
unfolding taken
later-taken n k s = record { size = λ h. (allocate-rest s.allocator).size; next = allocate-next s.allocator }

module _ (n offset : ℕ) (bs : List ℕ) where
  later-put : (k : ℕ) (s : Store) → Later s (put n offset bs k s)
  unfolding put put_for
  later-put k s = go (chunk n k s.chunks)
    where
      go : (o : Option ChunkRow) → Later s (put_for o offset bs k s)
      go none = later_same s
      go (some c) = record { size = λ h. refl; next = omega arith }

  later_chunk : (k : ℕ) (s : Store) → Later s (write_chunk n offset bs k s)
  unfolding write_chunk
  later_chunk k s = later-twice (ensured-cases n k s (Later s) (λ e. later-taken n k s) (λ c e. later_same s)) (later-put k (ensured n k s))

  later-chunks : (c k : ℕ) (s : Store) → Later s (write_chunks n offset bs c k s)
  unfolding write_chunks
  later-chunks zero k s = later_same s
  later-chunks (suc c) k s = later-twice (later_chunk k s) (later-chunks c (suc k) (write_chunk n offset bs k s))

  later-written : (s : Store) → Later s (written n offset bs s)
  unfolding written
  later-written s = later-chunks _ _ s

later-cut : (n c : ℕ) (s : Store) → Later s (cut_from n c s)
unfolding cut_from
later-cut n c s = let f = freed-all _ s.allocator in record { size = λ h. f.size; next = omega (arith, f.next) }

later-shrunk : (n z : ℕ) (s : Store) → Later s (shrunk n z s)
unfolding shrunk tail_zeroed
later-shrunk n z s = later-twice (later-cut n (round_up s.allocator.chunk_size z) s) (later-put n z _ _ (cut_from n (round_up s.allocator.chunk_size z) s))

-- ---- the calls

abbrev LaterAfter : Volume → Step → Type 0
LaterAfter v s = Later v.store s.after.store

pub write-later : (n offset : ℕ) (bs : List ℕ) (v : Volume) → LaterAfter v (write n offset bs v)
write-later n offset bs v = write-cases (LaterAfter v) n offset bs v (λ e. later_same v.store) (λ e. later_same v.store) (λ r a. later-written n offset bs v.store)

pub resize-later : (n z : ℕ) (v : Volume) → LaterAfter v (resize n z v)
resize-later n z v = resize-cases (LaterAfter v) n z v (λ e. later_same v.store) (λ r a h. later_same v.store) (λ r a h. later-shrunk n z v.store)

pub limit-later : (n : ℕ) (m : Limit) (v : Volume) → LaterAfter v (set_limit n m v)
limit-later n m v = limit-cases (LaterAfter v) n m v (λ e. later_same v.store) (λ r t file most size. later_same v.store)

pub remove-later : (n : ℕ) (v : Volume) → LaterAfter v (remove n v)
remove-later n v = go (remove n v) (remove-cases n v)
  where
    go : (s : Step) → Removes n v s → LaterAfter v s
    go s (refuses e) = later_same v.store
    go s (removes r t l) = later-cut n 0 v.store

-- another size is set only while word 3 is 0
pub size-later : (s : ℕ) (v : Volume) → LaterAfter v (chunk_size_set s v)
unfolding chunk_size_set
size-later s v =
    size-cases (λ t. Later v.store (with_allocator t.after v.store)) s v.store.allocator (λ e. later_same v.store) (later_same v.store)
    (λ a z. record { size = λ h. absurd (omega (arith, z)); next = omega arith })
