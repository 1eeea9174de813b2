-- Soundness is kept: what a call leaves of a sound volume is sound again, so that the next call is not refused with 1.
-- Assumes nothing.
use Rattle.std.specs.Prelude.{Option, Some, None}
use Prim.Native.Nat.{ℕ}
use mathlib.Core.List.{List}
use Rattle.words.specs.Bytes.{Bytes}
use Rattle.words.specs.Rules.{pick}
use Rattle.words.specs.Tables.{Each}
use Rattle.types.specs.declared.Expected.{Expected}
use Rattle.types.specs.Nodes.{Limit}
use Rattle.allocator.proofs.Sizes.{size-cases}
use Rattle.volume.specs.Volume.{Names, Store, Volume, shown, laid, with_allocator, on_store}
use Rattle.volume.specs.Steps.{Step, stays, NamesStep, name_step}
use Rattle.volume.specs.Framed.{NamesFits, Fits}
use Rattle.volume.specs.Sound.{Named, ChunksOwned, Good, Sound}
use Rattle.volume.proofs.Laid.{shown-laid, framed-formed}
use Rattle.volume.proofs.Framed.{framed-laid}
use Rattle.soundness.proofs.Checked.{true-sound}
use Rattle.store.proofs.SizeSet.{unused, size_fits, size-stored}
use Rattle.files.specs.Limits as Limits
use Rattle.files.proofs.LimitSteps.{limit-kept}
use Rattle.files.specs.Write as Write
use Rattle.files.proofs.WriteKept.{write_kept}
use Rattle.files.specs.Resize as Resize
use Rattle.files.proofs.ResizeKept.{resize-kept}
use Rattle.names.specs.Entering as Entering
use Rattle.names.specs.Unlinking as Unlinking
use Rattle.names.specs.Removing as Removing
use Rattle.names.proofs.Created.{create-kept, create-owned}
use Rattle.names.proofs.Linked.{link-kept, link-owned}
use Rattle.names.proofs.Unlinked.{unlink-kept, unlink-owned}
use Rattle.names.proofs.Removed.{remove-kept}
use Rattle.types.specs.declared.Error.TheVariants.{InvalidArgument}
use Rattle.types.specs.Kinds.{wanted_of}
use Rattle.lentilraft.specs.Door.{if_sound, door, chunk_size_set, set_chunk_size, set_limit, resize, write, create, link, unlink, on_wanted, unlink_wanted, unlink_byte, remove}

-- a volume that fits and is good is sound when it is laid out
pub laid-sound : (v : Volume) → Fits v → Good v → Sound (laid v)
laid-sound v f g = record { framed = framed-laid v f; good = rw (shown-laid v f) g }

-- a call that keeps what fits and is good leaves a sound memory sound, whatever it answers
pub door-sound : (call : Volume → Step) → ((v : Volume) → Fits v → Good v → Fits (call v).after × Good (call v).after) → (l : List ℕ) → Bytes l → Sound l → Sound (door l call).bytes
unfolding door if_sound pick
door-sound call keeps l b h =
    let k = keeps (shown l) (framed-formed l b h.framed).fits h.good in
    rw (true-sound l h) (laid-sound (call (shown l)).after k.0 k.1)

-- ---- set chunk size

pub set-kept : (s : ℕ) (v : Volume) → Fits v → Good v → Fits (chunk_size_set s v).after × Good (chunk_size_set s v).after
unfolding chunk_size_set
set-kept s v f g =
    size-cases (λ t. Fits (on_store (with_allocator t.after) v) × Good (on_store (with_allocator t.after) v)) s v.store.allocator (λ e. (f, g)) (f, g)
    (λ e z. (record { names = f.names; store = size_fits s v.store f.store e }, record { named = g.named; stored = size-stored s v.store g.stored z; owned = unfold Each in rw (unused v.store g.stored z).0 tt }))

-- set chunk size leaves a sound memory sound
pub set-sound : (s : ℕ) (l : List ℕ) → Bytes l → Sound l → Sound (set_chunk_size s l).bytes
unfolding set_chunk_size
set-sound s l b h = door-sound (chunk_size_set s) (set-kept s) l b h

-- ---- the calls on files

pub limit-sound : (n : ℕ) (m : Limit) (l : List ℕ) → Bytes l → Sound l → Sound (set_limit n m l).bytes
unfolding set_limit
limit-sound n m l b h = door-sound (Limits.set_limit n m) (limit-kept n m) l b h

pub resize-sound : (n size : ℕ) (l : List ℕ) → Bytes l → Sound l → Sound (resize n size l).bytes
unfolding resize
resize-sound n size l b h = door-sound (Resize.resize n size) (resize-kept n size) l b h

pub write-sound : (n offset : ℕ) (bs l : List ℕ) → Bytes l → Sound l → Sound (write n offset bs l).bytes
unfolding write
write-sound n offset bs l b h = door-sound (Write.write n offset bs) (write_kept n offset bs) l b h

-- ---- the calls on names

-- a step of nodes and entries that keeps them, and the owners of the chunks, keeps the volume
pub name-kept : (call : Names → NamesStep) → ((a : Names) → NamesFits a → Named a → NamesFits (call a).after × Named (call a).after) → ((a : Names) (s : Store) → Named a → ChunksOwned a s → ChunksOwned (call a).after s)
    → (v : Volume) → Fits v → Good v → Fits (name_step call v).after × Good (name_step call v).after
name-kept call keeps owns v f g =
    let k = keeps v.names f.names g.named in
    (record { names = k.0; store = f.store }, record { named = k.1; stored = g.stored; owned = owns v.names v.store g.named g.owned })

pub create-sound : (p : ℕ) (name : List ℕ) (byte : ℕ) (l : List ℕ) → Bytes l → Sound l → Sound (create p name byte l).bytes
unfolding create
create-sound p name byte l b h = door-sound (name_step (Entering.create p name byte)) (name-kept (Entering.create p name byte) (create-kept p name byte) (create-owned p name byte)) l b h

pub link-sound : (p : ℕ) (name : List ℕ) (target : ℕ) (l : List ℕ) → Bytes l → Sound l → Sound (link p name target l).bytes
unfolding link
link-sound p name target l b h = door-sound (name_step (Entering.link p name target)) (name-kept (Entering.link p name target) (link-kept p name target) (link-owned p name target)) l b h

pub unlink-sound : (start : ℕ) (path : List ℕ) (want : Expected) (opens : ℕ) (l : List ℕ) → Bytes l → Sound l → Sound (unlink start path want opens l).bytes
unfolding unlink
unlink-sound start path want opens l b h =
    door-sound (name_step (Unlinking.unlink start path want opens)) (name-kept (Unlinking.unlink start path want opens) (unlink-kept start path want opens) (unlink-owned start path want opens)) l b h

pub unlink-byte-sound : (start : ℕ) (path : List ℕ) (byte opens : ℕ) (l : List ℕ) → Bytes l → Sound l → Sound (unlink_byte start path byte opens l).bytes
unfolding unlink_byte
unlink-byte-sound start path byte opens l b h = door-sound (unlink_wanted start path byte opens) keeps l b h
  where
    keeps : (v : Volume) → Fits v → Good v → Fits (unlink_wanted start path byte opens v).after × Good (unlink_wanted start path byte opens v).after
    keeps v f g = go (wanted_of byte)
      where
        result : Option Expected → Step
        result w = on_wanted (stays InvalidArgument v) (λ want. name_step (Unlinking.unlink start path want opens) v) w

        go : (w : Option Expected) → Fits (result w).after × Good (result w).after
        go None = (f, g)
        go (Some want) = name-kept (Unlinking.unlink start path want opens) (unlink-kept start path want opens) (unlink-owned start path want opens) v f g

pub remove-sound : (n : ℕ) (l : List ℕ) → Bytes l → Sound l → Sound (remove n l).bytes
unfolding remove
remove-sound n l b h = door-sound (Removing.remove n) (remove-kept n) l b h
