-- What the calls on files leave to be seen: a write, a cut and a limit change the one node; a new chunk size changes nothing; a new volume
-- shows the root alone.
-- Assumes nothing.
use Rattle.std.specs.Prelude.{Ok}
use mathlib.Core.Path.{◌≡◌, refl, sym, ap, ◌∙◌}
use mathlib.Core.Bool.{Bool}
use mathlib.Core.List.{List, []}
use mathlib.Core.Option.{some}
use Prim.Native.Nat.{ℕ, ◌+◌, ◌-◌, ◌≤◌, ◌<◌}
use native.Mathlib.Omega.{arith}
use lib.Dec.{eqb}
use lib.ListN.{length, get_or}
use borrow.Author.Tests.{ne_eqb}
use Rattle.words.specs.Rules.{pick, Says, holds, fails}
use Rattle.words.specs.Tables.{find, only}
use Rattle.words.proofs.Rules.{says-eqb, says-leb, says-ltb, says_both}
use Rattle.types.specs.declared.FileType.TheVariants.{Directory}
use Rattle.types.specs.Nodes.{Limit}
use Rattle.types.specs.declared.NodeRecord.{NodeRecord}
use Rattle.allocator.specs.Allocator.{with_size}
use Rattle.allocator.proofs.Sizes.{size-cases}
use Rattle.volume.specs.Volume.{Store, Volume, with_allocator, on_store}
use Rattle.volume.specs.Framed.{Fits}
use Rattle.volume.specs.Sound.{Good, node}
use Rattle.volume.specs.Fresh.{root, fresh}
use Rattle.tables.specs.OneRow.{chunk, sized, limited}
use Rattle.tables.proofs.ChangedNames.{node-here, node-other}
use Rattle.store.specs.Content.{byte_at}
use Rattle.store.proofs.SizeSet.{unused}
use Rattle.files.specs.Effects.{Wrote, Resized, written_size}
use Rattle.files.specs.Write as Write
use Rattle.files.specs.Resize as Resize
use Rattle.files.specs.Limits as Limits
use Rattle.files.proofs.WriteKept as WriteKept
use Rattle.files.proofs.ResizeKept as ResizeKept
use Rattle.files.proofs.LimitSteps.{limit-cases}
use Rattle.lentilraft.specs.Door.{chunk_size_set}
use Rattle.sequences.specs.Show.{names_in, show}
use Rattle.sequences.specs.Act.{change_at, with_written, with_cut, with_limit, new_seen, empty_fs}
use Rattle.sequences.proofs.Shown.{seen_same, fs-same, by-node, show-there, show-missing, shows_same, shows-changed}

-- ---- a write

-- bytes written show in their file, and nowhere else
wrote-shows : (n offset : ℕ) (bs : List ℕ) (v w : Volume) → Wrote n offset bs v w → show w ≡ change_at n (with_written offset bs) (show v)
wrote-shows n offset bs v w x =
    shows-changed n (with_written offset bs) v w x.row (sized (written_size offset bs x.row) x.row) x.next_node x.there x.changed
    (seen_same refl refl refl refl (λ j. byte j (says_both (says-leb offset j) (says-ltb j (offset + length bs)))) (ap (names_in n) x.entries))
    (λ m h. shows_same v w m (x.others m h) (λ j. x.outside m j (λ e. absurd (h e))) (ap (names_in m) x.entries))
  where
    byte : (j : ℕ) {t : Bool} → Says ((offset ≤ j) × (j < offset + length bs)) t → byte_at w.store n j ≡ pick t (get_or bs (j - offset) 0) (byte_at v.store n j)
    byte j (holds h) = unfold pick in x.inside j h.0 h.1
    byte j (fails h) = unfold pick in x.outside n j (λ e low high. h (low, high))

pub write-shows : (n offset : ℕ) (bs : List ℕ) (v : Volume) → Fits v → Good v → (k : ℕ) → (Write.write n offset bs v).answer ≡ Ok k
    → show (Write.write n offset bs v).after ≡ pick (eqb (length bs) 0) (show v) (change_at n (with_written offset bs) (show v))
write-shows n offset bs v f g k q = go (says-eqb (length bs) 0)
  where
    go : {t : Bool} → Says (length bs ≡ 0) t → show (Write.write n offset bs v).after ≡ pick t (show v) (change_at n (with_written offset bs) (show v))
    go (holds h) = unfold pick in ap show (WriteKept.write-empty n offset bs v h k q).1
    go (fails h) = unfold pick in wrote-shows n offset bs v (Write.write n offset bs v).after (WriteKept.write-shows n offset bs v f g (omega arith) k q).1

-- ---- a resize

-- a file of z bytes shows its old ones below z, and zeros from there on
resized-shows : (n z : ℕ) (v w : Volume) → Resized n z v w → show w ≡ change_at n (with_cut z) (show v)
resized-shows n z v w x =
    shows-changed n (with_cut z) v w x.row (sized z x.row) x.next_node x.there x.changed
    (seen_same refl refl refl refl (λ j. byte j (says-ltb j z)) (ap (names_in n) x.entries))
    (λ m h. shows_same v w m (x.others m h) (λ j. x.outside m j h) (ap (names_in m) x.entries))
  where
    byte : (j : ℕ) {t : Bool} → Says (j < z) t → byte_at w.store n j ≡ pick t (byte_at v.store n j) 0
    byte j (holds h) = unfold pick in x.below j h
    byte j (fails h) = unfold pick in x.above j (omega arith)

pub resize-shows : (n z : ℕ) (v : Volume) → Fits v → Good v → (k : ℕ) → (Resize.resize n z v).answer ≡ Ok k → show (Resize.resize n z v).after ≡ change_at n (with_cut z) (show v)
resize-shows n z v f g k q = resized-shows n z v (Resize.resize n z v).after (ResizeKept.resize-shows n z v f g k q).1

-- ---- a limit

module _ (n : ℕ) (m : Limit) (v : Volume) (f : Fits v) (g : Good v) (k : ℕ) where
  -- the row of the file, with its limit
  pub limit-row : (Limits.set_limit n m v).answer ≡ Ok k → (r : NodeRecord) → node n v.names ≡ some r → node n (Limits.set_limit n m v).after.names ≡ some (limited m r)
  limit-row =
      limit-cases (λ s. s.answer ≡ Ok k → (r : NodeRecord) → node n v.names ≡ some r → node n s.after.names ≡ some (limited m r)) n m v (λ e q. let x : ◌≡◌ {A = ℕ} 0 1 = cc in absurd (omega arith))
      (λ d there file most size q r. node-here n (limited m) (λ s. refl) r v.names)

  pub limit-shows : (Limits.set_limit n m v).answer ≡ Ok k → show (Limits.set_limit n m v).after ≡ change_at n (with_limit m) (show v)
  limit-shows =
      limit-cases (λ s. s.answer ≡ Ok k → show s.after ≡ change_at n (with_limit m) (show v)) n m v (λ e q. let x : ◌≡◌ {A = ℕ} 0 1 = cc in absurd (omega arith))
      (λ r there file most size q. shows-changed n (with_limit m) v _ r (limited m r) refl there (node-here n (limited m) (λ s. refl) r v.names there) refl
      (λ i h. shows_same v _ i (node-other n (limited m) (λ s. refl) r v.names there i h) (λ j. refl) refl))

-- ---- a chunk size

-- where there is no chunk every byte is zero, whatever the chunk size
no_chunk : (s : Store) (n j : ℕ) → s.chunks ≡ [] → byte_at s n j ≡ 0
unfolding byte_at chunk find
no_chunk s n j e = rw e refl

-- another size is set only while no chunk is in use
pub size-shows : (s : ℕ) (v : Volume) → Fits v → Good v → show (chunk_size_set s v).after ≡ show v
unfolding chunk_size_set
size-shows s v f g = size-cases (λ t. show (on_store (with_allocator t.after) v) ≡ show v) s v.store.allocator (λ e. refl) refl (λ e z. other (unused v.store g.stored z).0)
  where
    w : Volume
    w = on_store (with_allocator (with_size s v.store.allocator)) v

    other : v.store.chunks ≡ [] → show w ≡ show v
    other e = fs-same (unfold show in refl) (λ m. shows_same v w m refl (λ j. no_chunk w.store m j e ∙ sym (no_chunk v.store m j e)) refl)

-- ---- a new volume

pub new-shows : (n e c s : ℕ) (area : ℕ) → show (fresh n e c s area) ≡ empty_fs
unfolding fresh empty_fs node find pick names_in only
new-shows n e c s area = fs-same (unfold show in refl) (by-node (λ m. (show v).at m ≡ empty_fs.at m) 0 root-shows others)
  where
    v : Volume
    v = fresh n e c s area

    root-shows : (show v).at 0 ≡ some (new_seen Directory)
    root-shows = show-there v 0 {r = root} refl ∙ ap some (seen_same refl refl refl refl (λ j. no_chunk v.store 0 j refl) refl)

    others : (m : ℕ) → (m ≡ 0 → ⊥) → (show v).at m ≡ empty_fs.at m
    others m h = show-missing v m (rw (ne_eqb 0 m (λ q. h (sym q))) refl) ∙ rw (ne_eqb m 0 h) refl
