-- Each call, on a sound memory of bytes: what it leaves is one again; accepted, it shows what the call gives; refused, it is the memory
-- there was.
-- Assumes nothing.
use Rattle.std.specs.Prelude.{Ok}
use mathlib.Core.Path.{◌≡◌, refl, sym, ap, ◌∙◌}
use mathlib.Core.Bool.{Bool, true, false}
use mathlib.Core.List.{List}
use Prim.Native.Nat.{ℕ, ◌-◌}
use native.Mathlib.Omega.{arith}
use lib.Dec.{eqb}
use lib.ListN.{length}
use Rattle.words.specs.Bytes.{Bytes}
use Rattle.types.specs.Answers.{number}
use Rattle.types.specs.Outcomes.{Outcome}
use Rattle.types.specs.declared.Expected.{Expected}
use Rattle.types.specs.Nodes.{Limit}
use Rattle.volume.specs.Volume.{Volume, shown, at_bytes}
use Rattle.volume.specs.Framed.{Fits}
use Rattle.volume.specs.Sound.{Good, Sound}
use Rattle.volume.specs.Steps.{Step, name_step}
use Rattle.volume.specs.Fresh as Fresh
use Rattle.volume.proofs.Laid.{shown-laid, framed-formed}
use Rattle.volume.proofs.FreshGood.{fits_fresh}
use Rattle.files.specs.Write as Write
use Rattle.files.specs.Resize as Resize
use Rattle.files.specs.Limits as Limits
use Rattle.files.proofs.WriteKept as WriteKept
use Rattle.files.proofs.ResizeKept.{resize-kept}
use Rattle.files.proofs.LimitSteps.{limit-kept}
use Rattle.names.specs.Entering as Entering
use Rattle.names.specs.Unlinking as Unlinking
use Rattle.names.specs.Removing as Removing
use Rattle.names.proofs.Created.{create-kept, create-owned, next-free}
use Rattle.names.proofs.Linked.{link-kept, link-owned}
use Rattle.names.proofs.Unlinked.{unlink-kept, unlink-owned}
use Rattle.names.proofs.Removed.{remove-kept}
use Rattle.lentilraft.specs.Door as Door
use Rattle.lentilraft.specs.Door.{door, chunk_size_set}
use Rattle.lentilraft.proofs.Kept.{door-sound, set-kept, name-kept}
use Rattle.lentilraft.proofs.NewVolume.{Made, new-volume-sound, new-made}
use Rattle.lentilraft.proofs.Refusal.{new-volume-refusal, set-chunk-size-refusal, set-limit-refusal, resize-file-refusal, write-refusal, create-refusal, link-refusal, unlink-refusal, remove-refusal}
use Rattle.lentilraft.specs.Refusal.{RefusalLeaves}
use Rattle.sequences.specs.Fs.{Fs}
use Rattle.sequences.specs.Show.{node_seen, show}
use Rattle.sequences.specs.Calls.{Lent, Call, new_volume, check, report, set_chunk_size, read, write, resize, set_limit, find_node, next_entry, search, create, link, unlink, remove}
use Rattle.sequences.specs.Act.{empty_fs, act}
use Rattle.sequences.specs.Run.{run, accepted}
use Rattle.sequences.specs.GivenOut.{GoesOn}
use Rattle.sequences.proofs.Shown.{show-there, show-missing}
use Rattle.sequences.proofs.Saying.{Able}
use Rattle.sequences.proofs.LaterStores.{Later, later_same, write-later, resize-later, limit-later, remove-later, size-later}
use Rattle.sequences.proofs.RawBytes.{RawBytes, door-bytes, fresh-bytes}
use Rattle.sequences.proofs.BytesKept.{size-raw, limit-raw, resize-raw, write-raw, create-raw, link-raw, unlink-raw, remove-raw}
use Rattle.sequences.proofs.FilesShown.{write-shows, resize-shows, limit-shows, size-shows, new-shows}
use Rattle.sequences.proofs.EnteredShown.{create-shows, link-shows}
use Rattle.sequences.proofs.UnlinkShown.{unlink-shows}
use Rattle.sequences.proofs.RemoveShown.{remove-shows}
use Rattle.sequences.proofs.OneCall.{is-done, is-refused, door-answer, door-shows, door-stays, door-later}

pub record Carried (c : Call) (l : List ℕ) : Type 0 where
  pub bytes : Bytes (run c l).memory
  pub sound : Sound (run c l).memory
  pub shows : accepted c l ≡ true → show (shown (run c l).memory) ≡ act c (show (shown l))
  pub able : accepted c l ≡ true → Able c (show (shown l))
  pub stays : accepted c l ≡ false → (run c l).memory ≡ l
  pub later : GoesOn c → Later (shown l).store (shown (run c l).memory).store

-- what a call does behind the door, and to what is shown
record Works (call : Volume → Step) (f : Fs → Fs) : Type 0 where
  keeps : (v : Volume) → Fits v → Good v → Fits (call v).after × Good (call v).after
  raw : (v : Volume) → Good v → RawBytes v → RawBytes (call v).after
  shows : (v : Volume) → Fits v → Good v → (k : ℕ) → (call v).answer ≡ Ok k → show (call v).after ≡ f (show v)
  later : (v : Volume) → Later v.store (call v).after.store

-- the same at the door
record AtDoor (call : Volume → Step) (f : Fs → Fs) (l : List ℕ) : Type 0 where
  bytes : Bytes (door l call).bytes
  sound : Sound (door l call).bytes
  shows : eqb (number (door l call).answer) 0 ≡ true → show (shown (door l call).bytes) ≡ f (show (shown l))
  stays : eqb (number (door l call).answer) 0 ≡ false → (door l call).bytes ≡ l
  later : Later (shown l).store (shown (door l call).bytes).store

at-door : (call : Volume → Step) (f : Fs → Fs) → Works call f → (l : List ℕ) → Bytes l → Sound l → RefusalLeaves (door l call) l → AtDoor call f l
at-door call f w l b h leaves = record {
  bytes = door-bytes call w.raw l b;
  sound = door-sound call w.keeps l b h;
  shows = door-shows call w.keeps l b h f w.shows;
  stays = door-stays call w.keeps l b h leaves;
  later = door-later call w.keeps l b h w.later;
}

-- ---- what each call does behind the door

size-works : (s : ℕ) → Works (chunk_size_set s) (λ fs. fs)
size-works s = record { keeps = set-kept s; raw = size-raw s; shows = λ v f g k q. size-shows s v f g; later = size-later s }

write-works : (n offset : ℕ) (bs : Lent) → Works (Write.write n offset bs.list) (act (write n offset bs))
write-works n offset bs = record { keeps = WriteKept.write_kept n offset bs.list; raw = write-raw n offset bs.list bs.bytes; shows = write-shows n offset bs.list; later = write-later n offset bs.list }

resize-works : (n z : ℕ) → Works (Resize.resize n z) (act (resize n z))
resize-works n z = record { keeps = resize-kept n z; raw = resize-raw n z; shows = resize-shows n z; later = resize-later n z }

limit-works : (n : ℕ) (m : Limit) → Works (Limits.set_limit n m) (act (set_limit n m))
limit-works n m = record { keeps = limit-kept n m; raw = limit-raw n m; shows = λ v f g k. limit-shows n m v f g k; later = limit-later n m }

create-works : (p : ℕ) (name : Lent) (byte : ℕ) → Works (name_step (Entering.create p name.list byte)) (act (create p name byte))
create-works p name byte = record {
  keeps = name-kept (Entering.create p name.list byte) (create-kept p name.list byte) (create-owned p name.list byte);
  raw = create-raw p name.list byte name.bytes;
  shows = λ v f g. create-shows p name.list byte v g;
  later = λ v. later_same v.store;
}

link-works : (p : ℕ) (name : Lent) (t : ℕ) → Works (name_step (Entering.link p name.list t)) (act (link p name t))
link-works p name t = record {
  keeps = name-kept (Entering.link p name.list t) (link-kept p name.list t) (link-owned p name.list t);
  raw = link-raw p name.list t name.bytes;
  shows = λ v f g. link-shows p name.list t v g;
  later = λ v. later_same v.store;
}

unlink-works : (start : ℕ) (path : List ℕ) (want : Expected) (opens : ℕ) → Works (name_step (Unlinking.unlink start path want opens)) (act (unlink start path want opens))
unlink-works start path want opens = record {
  keeps = name-kept (Unlinking.unlink start path want opens) (unlink-kept start path want opens) (unlink-owned start path want opens);
  raw = unlink-raw start path want opens;
  shows = λ v f g. unlink-shows start path want opens v g;
  later = λ v. later_same v.store;
}

remove-works : (n : ℕ) → Works (Removing.remove n) (act (remove n))
remove-works n = record { keeps = remove-kept n; raw = remove-raw n; shows = λ v f g. remove-shows n v; later = remove-later n }

-- ---- what an accepted write and an accepted create found

write-able : (n offset : ℕ) (bs : Lent) (l : List ℕ) → Bytes l → Sound l → accepted (write n offset bs) l ≡ true → Able (write n offset bs) (show (shown l))
unfolding Door.write
write-able n offset bs l b h q some_bytes =
    let call = Write.write n offset bs.list in
    let keeps = WriteKept.write_kept n offset bs.list in
    let d = is-done (door l call).answer q in
    let w = (WriteKept.write-shows n offset bs.list (shown l) (framed-formed l b h.framed).fits h.good (omega (arith, some_bytes)) d.0 (sym (door-answer call keeps l b h) ∙ d.1)).1 in
    (node_seen (shown l) n w.row, show-there (shown l) n w.there)

create-able : (p : ℕ) (name : Lent) (byte : ℕ) (l : List ℕ) → Sound l → Able (create p name byte) (show (shown l))
create-able p name byte l h = unfold show in show-missing (shown l) (shown l).names.next_node (next-free (shown l).names h.good.named)

-- ---- a new volume

module _ (n e c s : ℕ) (l : List ℕ) where
  abbrev new : Outcome
  new = Fresh.new_volume n e c s l

  made : accepted (new_volume n e c s) l ≡ true → (k : ℕ) × (new.answer ≡ Ok k) × Made n e c s l new.bytes
  made q = let d = is-done new.answer q in (d.0, d.1, new-made n e c s l d.0 d.1)

  pub new-bytes : accepted (new_volume n e c s) l ≡ true → Bytes new.bytes
  new-bytes q = rw (made q).2.bytes (fresh-bytes n e c s (length l))

  pub new-sound : accepted (new_volume n e c s) l ≡ true → Sound new.bytes
  new-sound q = let m = made q in new-volume-sound n e c s l m.0 m.1

  new-stays : accepted (new_volume n e c s) l ≡ false → new.bytes ≡ l
  new-stays q = let r = is-refused new.answer q in (new-volume-refusal n e c s l r.0 r.1).1

  pub new-empty : accepted (new_volume n e c s) l ≡ true → show (shown new.bytes) ≡ empty_fs
  unfolding Fresh.fresh_laid
  new-empty q = ap show (back (made q).2) ∙ new-shows n e c s (length l - at_bytes n e c)
    where
      back : Made n e c s l new.bytes → shown new.bytes ≡ Fresh.fresh n e c s (length l - at_bytes n e c)
      back m = ap shown m.bytes ∙ shown-laid (Fresh.fresh n e c s (length l - at_bytes n e c)) (fits_fresh n e c s (length l) m.placed m.accepted)

  new-carried : Bytes l → Sound l → Carried (new_volume n e c s) l
  new-carried b h = record { bytes = go-bytes (accepted (new_volume n e c s) l) refl; sound = go-sound (accepted (new_volume n e c s) l) refl; shows = new-empty; able = λ q. tt; stays = new-stays; later = λ never. absurd never }
    where
      go-bytes : (t : Bool) → accepted (new_volume n e c s) l ≡ t → Bytes new.bytes
      go-bytes true q = new-bytes q
      go-bytes false q = rw (new-stays q) b

      go-sound : (t : Bool) → accepted (new_volume n e c s) l ≡ t → Sound new.bytes
      go-sound true q = new-sound q
      go-sound false q = rw (new-stays q) h

-- ---- every call

pub carried : (c : Call) (l : List ℕ) → Bytes l → Sound l → Carried c l
unfolding Door.set_chunk_size Door.write Door.resize Door.set_limit Door.create Door.link Door.unlink Door.remove
carried (new_volume n e c s) l b h = new-carried n e c s l b h
carried check l b h = record { bytes = b; sound = h; shows = λ q. refl; able = λ q. tt; stays = λ q. refl; later = λ g. later_same (shown l).store }
carried (report out) l b h = record { bytes = b; sound = h; shows = λ q. refl; able = λ q. tt; stays = λ q. refl; later = λ g. later_same (shown l).store }
carried (set_chunk_size s) l b h =
    let d = at-door _ _ (size-works s) l b h (set-chunk-size-refusal s l b) in
    record { bytes = d.bytes; sound = d.sound; shows = d.shows; able = λ q. tt; stays = d.stays; later = λ g. d.later }
carried (read n offset buffer) l b h = record { bytes = b; sound = h; shows = λ q. refl; able = λ q. tt; stays = λ q. refl; later = λ g. later_same (shown l).store }
carried (write n offset bs) l b h =
    let d = at-door _ _ (write-works n offset bs) l b h (write-refusal n offset bs.list l b) in
    record { bytes = d.bytes; sound = d.sound; shows = d.shows; able = write-able n offset bs l b h; stays = d.stays; later = λ g. d.later }
carried (resize n z) l b h =
    let d = at-door _ _ (resize-works n z) l b h (resize-file-refusal n z l b) in
    record { bytes = d.bytes; sound = d.sound; shows = d.shows; able = λ q. tt; stays = d.stays; later = λ g. d.later }
carried (set_limit n m) l b h =
    let d = at-door _ _ (limit-works n m) l b h (set-limit-refusal n m l b) in
    record { bytes = d.bytes; sound = d.sound; shows = d.shows; able = λ q. tt; stays = d.stays; later = λ g. d.later }
carried (find_node start path) l b h = record { bytes = b; sound = h; shows = λ q. refl; able = λ q. tt; stays = λ q. refl; later = λ g. later_same (shown l).store }
carried (next_entry d from) l b h = record { bytes = b; sound = h; shows = λ q. refl; able = λ q. tt; stays = λ q. refl; later = λ g. later_same (shown l).store }
carried (search d name from most) l b h = record { bytes = b; sound = h; shows = λ q. refl; able = λ q. tt; stays = λ q. refl; later = λ g. later_same (shown l).store }
carried (create p name byte) l b h =
    let d = at-door _ _ (create-works p name byte) l b h (create-refusal p name.list byte l b) in
    record { bytes = d.bytes; sound = d.sound; shows = d.shows; able = λ q. create-able p name byte l h; stays = d.stays; later = λ g. d.later }
carried (link p name t) l b h =
    let d = at-door _ _ (link-works p name t) l b h (link-refusal p name.list t l b) in
    record { bytes = d.bytes; sound = d.sound; shows = d.shows; able = λ q. tt; stays = d.stays; later = λ g. d.later }
carried (unlink start path want opens) l b h =
    let d = at-door _ _ (unlink-works start path want opens) l b h (unlink-refusal start path want opens l b) in
    record { bytes = d.bytes; sound = d.sound; shows = d.shows; able = λ q. tt; stays = d.stays; later = λ g. d.later }
carried (remove n) l b h =
    let d = at-door _ _ (remove-works n) l b h (remove-refusal n l b) in
    record { bytes = d.bytes; sound = d.sound; shows = d.shows; able = λ q. tt; stays = d.stays; later = λ g. d.later }
