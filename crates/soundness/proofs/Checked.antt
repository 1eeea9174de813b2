-- What the whole check means: it accepts exactly what is sound.
-- Assumes nothing.
use Rattle.std.specs.Prelude.{Option, Some, Ok, Err, ok_or}
use mathlib.Core.Path.{◌≡◌, refl, ap}
use mathlib.Core.Bool.{true, false}
use mathlib.Core.List.{List}
use Prim.Native.Nat.{ℕ, ◌≤◌, ◌<◌}
use native.Mathlib.Omega.{arith}
use lib.ListN.{length}
use Rattle.words.specs.Bytes.{Bytes}
use Rattle.words.specs.Tables.{Asc}
use Rattle.words.specs.Rules.{Says}
use Rattle.words.proofs.Order.{each_map}
use Rattle.words.proofs.Middle.{each-pair}
use Rattle.words.proofs.Rules.{says_map, says_both, says-and, says-true, true-says}
use Rattle.allocator.specs.Allocator.{free}
use Rattle.allocator.proofs.Sizes.{accepted-bounds}
use Rattle.volume.specs.declared.Layout.{Layout}
use Rattle.volume.specs.Volume.{Names, Store, Volume, shown}
use Rattle.volume.specs.Layouts.{layout_in, place_if}
use Rattle.types.specs.declared.Error.{Error}
use Rattle.types.specs.declared.Error.TheVariants.{UnsoundMemory}
use Rattle.types.proofs.Results.{or-given, or-refused}
use Rattle.volume.specs.Framed.{Framed}
use Rattle.volume.specs.Sound.{node, DirectoryThere, NodeThere, node_before, entry_before, Named, Stored, Good, Sound}
use Rattle.volume.proofs.GeometryRules.{nowhere, somewhere, place-fails, place-passes, place-layout}
use Rattle.volume.proofs.Laid.{framed-formed}
use Rattle.volume.proofs.SoundWords.{size-accepted}
use Rattle.tables.specs.Tables.{Ready}
use Rattle.soundness.specs.Checked.{ordered, numbered, related, named, stored, good, sound, place_if_sound}
use Rattle.soundness.proofs.FrameRules.{says-framed}
use Rattle.soundness.proofs.OrderRules.{says-node-order, says-entry-order, says-chunk-order, says-below, says-numbered, says-root}
use Rattle.soundness.proofs.EntryRules.{says-related, says-once}
use Rattle.soundness.proofs.NodeRules.{says-nodes}
use Rattle.soundness.proofs.PointerRules.{says-next, next_low, says-pointers}
use Rattle.soundness.proofs.OwnerRules.{says-owned}

-- ---- the rules, group by group

pub says-ordered : (a : Names) → Says (Asc node_before a.nodes × Asc entry_before a.entries) (ordered a)
unfolding ordered
says-ordered a = says_both (says-node-order a.nodes) (says-entry-order a.entries)

pub ordered_nodes : (a : Names) → ordered a ≡ true → Asc node_before a.nodes
ordered_nodes a e = (says-true (says-ordered a) e).0

pub says-named : (a : Names) → Says (Named a) (named a)
unfolding named numbered related
says-named a =
    says_map
    (λ p. record {
      node_order = p.0.0;
      entry_order = p.0.1;
      indexes = p.1.0.1.1.0;
      fresh = p.1.0.0;
      root = p.1.0.1.0;
      unnamed = p.1.0.1.1.1;
      names = p.1.0.1.1.2;
      parents = each_map _ (λ e. DirectoryThere (node e.parent a)) (λ e h. h.0) a.entries p.1.1.0;
      targets = each_map _ (λ e. NodeThere (node e.node a)) (λ e h. h.1) a.entries p.1.1.0;
      nodes = p.1.1.1.0;
      once = p.1.1.1.1;
    })
    (λ n. ((n.node_order, n.entry_order), ((n.fresh, (n.root, (n.indexes, n.unnamed, n.names))), (each-pair _ _ a.entries n.parents n.targets, (n.nodes, n.once)))))
    (says-and (says-ordered a) (λ o. says_both
    (says_both (says-below a.next_node a.nodes) (says_both (says-root a o.0) (says-numbered a.entries)))
    (says_both (says-related a o.0) (says_both (says-nodes a.nodes a.entries) (says-once a.entries)))))

pub says-stored : (s : Store) → 0 < s.allocator.chunk_size → s.chunk_room ≤ 4096 → Says (Stored s) (stored s)
unfolding stored
says-stored s pos room =
    says_map (λ p. record { order = p.0; lined = p.1.0.0; inside = p.1.0.1.0; enough = p.1.0.1.1; pointers = p.1.1 })
    (λ t. (t.order, ((t.lined, (t.inside, t.enough)), t.pointers)))
    (says_both (says-chunk-order s.chunks) (says-and (says-next s.allocator.chunk_size s.allocator.next_ptr (length s.bytes) s.chunk_room)
    (λ f. says-pointers s.allocator.chunk_size s.allocator.next_ptr pos (next_low s.allocator.chunk_size s.allocator.next_ptr s.chunk_room room f.1.1) f.0 s.chunks (free s.allocator))))

says-good : (v : Volume) → 0 < v.store.allocator.chunk_size → v.store.chunk_room ≤ 4096 → Says (Good v) (good v)
unfolding good
says-good v pos room =
    says_map (λ p. record { named = p.0; stored = p.1.0; owned = p.1.1 }) (λ g. (g.named, (g.stored, g.owned)))
    (says-and (says-named v.names) (λ n. says_both (says-stored v.store pos room) (says-owned v.names v.store pos n.node_order)))

-- ---- of bytes

size-there : (l : List ℕ) → Framed l → 0 < (shown l).store.allocator.chunk_size
size-there l f = omega (arith, accepted-bounds (shown l).store.allocator.chunk_size (size-accepted l f))

pub room-there : (l : List ℕ) → Framed l → (shown l).store.chunk_room ≤ 4096
unfolding shown
room-there l f = f.headed.placed.chunks.1

-- the check accepts exactly what is sound
pub says-sound : (l : List ℕ) → Says (Sound l) (sound l)
unfolding sound
says-sound l = says_map (λ p. record { framed = p.0; good = p.1 }) (λ s. (s.framed, s.good)) (says-and (says-framed l) (λ f. says-good (shown l) (size-there l f) (room-there l f)))

pub sound-true : (l : List ℕ) → sound l ≡ true → Sound l
sound-true l e = says-true (says-sound l) e

pub true-sound : (l : List ℕ) → Sound l → sound l ≡ true
true-sound l s = true-says (says-sound l) s

-- ---- what the calls behind the check have of it

pub framed-ready : (l : List ℕ) → Bytes l → Framed l → {y : Layout} → y ≡ layout_in l → Ready l y
framed-ready l b f e = record { formed = framed-formed l b f; layout = unfold shown in e }

-- what the check answers, by its test
pub opens-not : (l : List ℕ) → sound l ≡ false → Err UnsoundMemory ≡ place_if_sound l
opens-not l e = ap (λ (o : Option Layout). ok_or o UnsoundMemory) (nowhere (sound l) (layout_in l) e)

pub opens : (l : List ℕ) → sound l ≡ true → {y : Layout} → y ≡ layout_in l → Ok y ≡ place_if_sound l
opens l e k = ap (λ (o : Option Layout). ok_or o UnsoundMemory) (somewhere (sound l) (layout_in l) e k)

-- a place that was given says whether the memory is sound, and where its areas start
module _ (l : List ℕ) where
  pub not_opened : {e : Error} → Err e ≡ place_if_sound l → (sound l ≡ false) × (e ≡ UnsoundMemory)
  not_opened h = let n = or-refused (place_if (sound l) (layout_in l)) UnsoundMemory h in (place-fails (sound l) (layout_in l) refl n.0, n.1)

  module _ {y : Layout} (h : Ok y ≡ place_if_sound l) where
    opened-place : place_if (sound l) (layout_in l) ≡ Some y
    opened-place = or-given (place_if (sound l) (layout_in l)) UnsoundMemory h

    pub opened-sound : sound l ≡ true
    opened-sound = place-passes (sound l) (layout_in l) refl opened-place

    pub opened-good : Good (shown l)
    opened-good = (sound-true l opened-sound).good

    pub opened-ready : Bytes l → Ready l y
    opened-ready b = framed-ready l b (sound-true l opened-sound).framed (place-layout (sound l) (layout_in l) refl opened-place)
