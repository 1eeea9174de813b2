-- Every row of the scope's boundary table holds, of any sound memory that shows what the rows start from; and a new volume and one create lead
-- to such a memory.
-- Assumes nothing.
use Rattle.std.specs.Prelude.{Err}
use mathlib.Core.Path.{◌≡◌, refl, ap, ◌∙◌}
use mathlib.Core.Bool.{true, false}
use mathlib.Core.List.{List, [], ◌∷◌}
use mathlib.Core.Option.{some}
use Prim.Native.Nat.{ℕ, ◌-◌, ◌^◌, ◌≤◌, ◌<◌}
use native.Mathlib.Omega.{arith}
use lib.ListN.{length}
use borrow.Author.Tests.{lt-leb}
use Rattle.words.specs.Bytes.{Bytes}
use Rattle.words.specs.Rules.{pick, either}
use Rattle.words.specs.Tables.{Each, find}
use Rattle.types.specs.Answers.{number}
use Rattle.types.specs.Outcomes.{Outcome}
use Rattle.types.specs.declared.Error.TheVariants.{FileTooLarge}
use Rattle.types.specs.declared.FileType.TheVariants.{RegularFile}
use Rattle.types.specs.declared.NodeRecord.{NodeRecord}
use Rattle.allocator.specs.Allocator.{free}
use Rattle.paths.specs.Path.{parts, not_permitted, cut_path, ends_open, name_allowed}
use Rattle.paths.proofs.BoundaryRows.{p8, p9, p10, p11, shut9, open10, shut11, a-allowed, b-allowed}
use Rattle.types.specs.Kinds.{kind_of}
use Rattle.volume.specs.Volume.{Volume, shown, at_bytes}
use Rattle.volume.specs.Framed.{Fits}
use Rattle.volume.specs.Fresh as Fresh
use Rattle.volume.specs.Fresh.{fresh, fresh_laid}
use Rattle.volume.specs.Sound.{node, Good, Sound}
use Rattle.volume.specs.Steps.{Step, name_step, turn, changed}
use Rattle.volume.proofs.Laid.{shown-laid}
use Rattle.volume.proofs.FreshGood.{fits_fresh, good-fresh, new-sound}
use Rattle.soundness.proofs.Checked.{true-sound}
use Rattle.tables.specs.OneRow.{sized}
use Rattle.files.specs.Read as Read
use Rattle.files.specs.Write as Write
use Rattle.files.specs.Resize as Resize
use Rattle.files.specs.Boundary.{Start}
use Rattle.files.proofs.WriteKept.{write_kept}
use Rattle.files.proofs.ResizeKept.{resize-kept}
use Rattle.files.proofs.BoundaryRows.{p1, p2, p3, p4, p5, p6, p7}
use Rattle.names.specs.Entries.{entry_named, greatest, on_entry}
use Rattle.names.specs.Entering as Entering
use Rattle.names.specs.Entering.{on_parent_row, on_parent, where_new, new_node, created, no_row_room, on_kind, with_entry}
use Rattle.names.specs.Walks as Walks
use Rattle.names.specs.Walks.{on_cutting, walk_path, node_reached}
use Rattle.names.proofs.Created.{create-kept, create-owned}
use Rattle.names.proofs.PathWalks.{path-named, path-meant}
use Rattle.lentilraft.specs.Door as Door
use Rattle.lentilraft.specs.Door.{if_sound, door, door_into}
use Rattle.lentilraft.proofs.Kept.{door-sound, name-kept}
use Rattle.lentilraft.proofs.NewVolume.{Made, new-made}
use Rattle.lentilraft.proofs.Refusal.{write-refusal}
use Rattle.sequences.specs.Show.{show}
use Rattle.sequences.specs.Calls.{Lent, new_volume, find_node, create}
use Rattle.sequences.specs.Run.{told, filled, accepted, run_all}
use Rattle.sequences.specs.Boundary.{looks_up, looks_up_directory, HasSize, ComesOut, Holds, nothing, boundary_table}
use Rattle.sequences.proofs.Shown.{show-there}
use Rattle.sequences.proofs.RawBytes.{RawBytes, door-bytes, fresh-bytes}
use Rattle.sequences.proofs.BytesKept.{write-raw, resize-raw, create-raw}
use Rattle.sequences.proofs.OneCall.{is-done, door-answer, door-after}

-- ---- a call on bytes, by what it makes of the volume that they show

-- bytes that are sound and show v
pub record Memory (l : List ℕ) (v : Volume) : Type 0 where
  pub bytes : Bytes l
  pub sound : Sound l
  pub volume : shown l ≡ v

-- a call's outcome, as a step of the volume
pub record Does (o : Outcome) (s : Step) : Type 0 where
  pub answer : o.answer ≡ s.answer
  pub after : Memory o.bytes s.after

pub door-does : (call : Volume → Step) → ((v : Volume) → Fits v → Good v → Fits (call v).after × Good (call v).after) → ((v : Volume) → Good v → RawBytes v → RawBytes (call v).after)
    → {l : List ℕ} {v : Volume} → Memory l v → Does (door l call) (call v)
door-does call keeps raw {l} {v} h = record {
  answer = door-answer call keeps l h.bytes h.sound ∙ ap (λ w. (call w).answer) h.volume;
  after = record {
    bytes = door-bytes call raw l h.bytes;
    sound = door-sound call keeps l h.bytes h.sound;
    volume = door-after call keeps l h.bytes h.sound ∙ ap (λ w. (call w).after) h.volume;
  };
}

write-does : (n offset : ℕ) (bs : Lent) {l : List ℕ} {v : Volume} → Memory l v → Does (Door.write n offset bs.list l) (Write.write n offset bs.list v)
unfolding Door.write
write-does n offset bs = door-does (Write.write n offset bs.list) (write_kept n offset bs.list) (write-raw n offset bs.list bs.bytes)

resize-does : (n z : ℕ) {l : List ℕ} {v : Volume} → Memory l v → Does (Door.resize n z l) (Resize.resize n z v)
unfolding Door.resize
resize-does n z = door-does (Resize.resize n z) (resize-kept n z) (resize-raw n z)

pub create-does : (p : ℕ) (name : Lent) (byte : ℕ) {l : List ℕ} {v : Volume} → Memory l v → Does (Door.create p name.list byte l) (name_step (Entering.create p name.list byte) v)
unfolding Door.create
create-does p name byte =
    door-does (name_step (Entering.create p name.list byte)) (name-kept (Entering.create p name.list byte) (create-kept p name.list byte) (create-owned p name.list byte)) (create-raw p name.list byte name.bytes)

read-does : (n offset : ℕ) (buffer : List ℕ) {l : List ℕ} {v : Volume} → Memory l v → Door.read n offset l buffer ≡ Read.read n offset v buffer
unfolding Door.read door_into if_sound pick
read-does n offset buffer {l} h = rw (true-sound l h.sound) (ap (λ w. Read.read n offset w buffer) h.volume)

pub find-does : (start : ℕ) (path l : List ℕ) → Sound l → Door.find_node start path l ≡ Walks.find_node start path (shown l).names
unfolding Door.find_node if_sound pick
find-does start path l h = rw (true-sound l h) refl

-- ---- what comes out

shows-size : (n z : ℕ) (r : NodeRecord) {l : List ℕ} {v : Volume} → Memory l v → node n v.names ≡ some (sized z r) → HasSize z ((show (shown l)).at n)
shows-size n z r {l} {v} h e = rw (h.volume, show-there v n e) refl

-- a path that is cut into parts
cut-does : (start : ℕ) (path : List ℕ) (ps : List (List ℕ)) (l : List ℕ) → Sound l → cut_path path ≡ parts ps → Door.find_node start path l ≡ node_reached (walk_path start path (shown l).names ps)
unfolding Walks.find_node on_cutting
cut-does start path ps l h e = find-does start path l h ∙ ap (on_cutting Err (λ qs. node_reached (walk_path start path (shown l).names qs))) e

-- it ends in a name
looks-up : (start : ℕ) (path : List ℕ) (ps : List (List ℕ)) (l : List ℕ) → Sound l → cut_path path ≡ parts ps → ends_open path ≡ false → Each (λ p. name_allowed p ≡ true) ps → ComesOut l (find_node start path) (looks_up start ps)
looks-up start path ps l h e shut allowed = (ap told (cut-does start path ps l h e ∙ ap node_reached (path-named start path (shown l).names ps shut)), allowed)

-- it means a directory
looks-up-directory : (start : ℕ) (path : List ℕ) (ps : List (List ℕ)) (l : List ℕ) → Sound l → cut_path path ≡ parts ps → ends_open path ≡ true → 0 < length ps → Each (λ p. name_allowed p ≡ true) ps
    → ComesOut l (find_node start path) (looks_up_directory start ps)
looks-up-directory start path ps l h e opened left allowed = (ap told (cut-does start path ps l h e ∙ ap node_reached (path-meant start path (shown l).names ps opened left)), allowed)

-- one that is not permitted
not_found : (start : ℕ) (path l : List ℕ) → Sound l → cut_path path ≡ not_permitted → number (Door.find_node start path l) ≡ 8
unfolding Walks.find_node on_cutting
not_found start path l h e = ap number (find-does start path l h ∙ ap (on_cutting Err (λ qs. node_reached (walk_path start path (shown l).names qs))) e)

-- ---- the table

-- row by row
infixr 20 ◌also◌
pub ◌also◌ : {A B : Type 0} → A → B → A × B
◌also◌ a b = (a, b)

pub boundary : (l : List ℕ) → Bytes l → Sound l → (n : ℕ) (r : NodeRecord) → Start n r (shown l) → (three one : Lent) → length three.list ≡ 3 → length one.list ≡ 1 → (start : ℕ)
    → Each (Holds l) (boundary_table n three one start)
unfolding Each nothing
boundary l b h n r s three one long short start =
    let v = shown l in
    let now : Memory l v = record { bytes = b; sound = h; volume = refl } in
    let w1 = write-does n 16383 three now in
    let w2 = resize-does n 16383 w1.after in
    let w3 = resize-does n 16386 w2.after in
    let w4 = write-does n 18446744073709551615 nothing w1.after in
    let w5 = write-does n (2 ^ 40) one now in
    let w6 = write-does n 1099511627775 one now in
    let w7 = resize-does n 20000 (resize-does n 40000 now).after in
    let r1 = p1 n r v s three.list long in
    let r2 = p2 n r v s three.list long in
    let r3 = p3 n r v s three.list long in
    let r4 = p4 n r v s three.list long in
    let r5 = p5 n r v s one.list short in
    let r6 = p6 n r v s one.list short in
    let r7 = p7 n r v s in
    (ap told (w1.answer ∙ r1.0) also ap (λ u. u.store.chunks) w1.after.volume ∙ r1.1 also shows-size n 16386 r w1.after r1.2 also tt)
    also (ap told (w2.answer ∙ r2.0) also ap (λ u. free u.store.allocator) w2.after.volume ∙ r2.1 also tt)
    also (ap filled (read-does n 16383 (1 ∷ 1 ∷ 1 ∷ []) w3.after ∙ r3) also tt)
    also (ap told (w4.answer ∙ r4.0) also shows-size n 16386 r w4.after r4.2 also tt)
    also ((ap number (w5.answer ∙ r5.0), (write-refusal n (2 ^ 40) one.list l b FileTooLarge (w5.answer ∙ r5.0)).1) also tt)
    also (ap told (w6.answer ∙ r6.0) also ap (λ u. u.store.chunks) w6.after.volume ∙ r6.1 also tt)
    also (ap told (w7.answer ∙ r7.0) also ap (λ u. u.store.chunks) w7.after.volume ∙ r7.1 also tt)
    also ((not_found start _ l h p8, refl) also tt)
    also (looks-up start _ _ l h p9 shut9 (b-allowed also tt) also tt)
    also (looks-up-directory start _ _ l h p10 open10 (omega arith) (a-allowed also b-allowed also tt) also tt)
    also (looks-up start _ _ l h p11.0 shut11 (p11.1 also tt) also tt)
    also tt

-- ---- the start is there

-- a file made in a new volume
module _ (n e c area : ℕ) (name : List ℕ) where
  abbrev new : Volume
  new = fresh n e c 16384 area

  abbrev made : Volume
  made = (name_step (Entering.create 0 name 1) new).after

  carried-out : 2 ≤ n → 1 ≤ e → name_allowed name ≡ true → Entering.create 0 name 1 new.names ≡ turn 1 (created 0 name RegularFile new.names)
  unfolding Entering.create on_parent on_parent_row on_kind where_new no_row_room on_entry entry_named greatest kind_of node find pick either fresh
  carried-out nodes entries allowed = rw (allowed, lt-leb n 1 nodes, lt-leb e 0 entries) refl

  its-row : node 1 (created 0 name RegularFile new.names) ≡ some (new_node 1 RegularFile)
  unfolding created with_entry changed node find pick fresh
  its-row = refl

  start-there : 2 ≤ n → 1 ≤ e → 2 ≤ c → name_allowed name ≡ true → Fits new → Start 1 (new_node 1 RegularFile) made
  unfolding fresh
  start-there nodes entries chunks allowed f =
      let k = name-kept (Entering.create 0 name 1) (create-kept 0 name 1) (create-owned 0 name 1) new f (good-fresh n e c 16384 area) in
      record {
        fits = k.0;
        good = k.1;
        size = refl;
        room = chunks;
        unused = refl;
        there = rw (carried-out nodes entries allowed) its-row;
        file = refl;
        empty = refl;
        unlimited = refl;
      }

-- the same on bytes
module _ (n e c : ℕ) (l : List ℕ) (q : accepted (new_volume n e c 16384) l ≡ true) where
  abbrev pub area : ℕ
  area = length l - at_bytes n e c

  abbrev given : Made n e c 16384 l (Fresh.new_volume n e c 16384 l).bytes
  given = let d = is-done (Fresh.new_volume n e c 16384 l).answer q in new-made n e c 16384 l d.0 d.1

  new-fits : Fits (fresh n e c 16384 area)
  new-fits = fits_fresh n e c 16384 (length l) given.placed given.accepted

  pub new-memory : Memory (Fresh.new_volume n e c 16384 l).bytes (fresh n e c 16384 area)
  unfolding fresh_laid
  new-memory = rw given.bytes (record {
    bytes = fresh-bytes n e c 16384 (length l);
    sound = new-sound n e c 16384 (length l) given.placed given.accepted;
    volume = shown-laid (fresh n e c 16384 area) new-fits;
  })

  made-memory : (name : Lent) → Memory (run_all (new_volume n e c 16384 ∷ create 0 name 1 ∷ []) l) (made n e c area name.list)
  made-memory name = (create-does 0 name 1 new-memory).after

-- a new volume and one create give the start
pub start-given : (n e c : ℕ) (l : List ℕ) (name : Lent) → accepted (new_volume n e c 16384) l ≡ true → 2 ≤ n → 2 ≤ c → name_allowed name.list ≡ true
    → Start 1 (new_node 1 RegularFile) (shown (run_all (new_volume n e c 16384 ∷ create 0 name 1 ∷ []) l))
start-given n e c l name q nodes chunks allowed =
    rw (made-memory n e c l q name).volume (start-there n e c (area n e c l q) name.list nodes (given n e c l q).placed.entries.0 chunks allowed (new-fits n e c l q))

-- in a memory that `boundary` speaks of
pub start-sound : (n e c : ℕ) (l : List ℕ) (name : Lent) → accepted (new_volume n e c 16384) l ≡ true
    → Bytes (run_all (new_volume n e c 16384 ∷ create 0 name 1 ∷ []) l) × Sound (run_all (new_volume n e c 16384 ∷ create 0 name 1 ∷ []) l)
start-sound n e c l name q = ((made-memory n e c l q name).bytes, (made-memory n e c l q name).sound)
