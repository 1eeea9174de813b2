-- What a resize leaves: after a refusal the volume as it was; after an accepted one a good volume that fits, in which the file has the new
-- size, its bytes below it and zeros from there on, and all else is as before.
-- Assumes nothing.
use Rattle.std.specs.Prelude.{Ok, Err}
use mathlib.Core.Path.{◌≡◌, refl, sym, ap, ◌∙◌}
use mathlib.Core.Bool.{Bool, true, false}
use mathlib.Core.Option.{some}
use Prim.Native.Nat.{ℕ, ◌*◌, ◌≤◌, ◌<◌}
use native.Mathlib.Omega.{arith}
use lib.Dec.{ltb}
use borrow.Author.Tests.{lt-ltb, le-ltb}
use Rattle.words.specs.Rules.{pick, Says, holds, fails}
use Rattle.words.proofs.Rules.{says-ltb, false-says, pick_true, pick-false}
use Rattle.types.specs.Nodes.{file_limit}
use Rattle.types.specs.Answers.{value}
use Rattle.types.specs.declared.Error.{Error}
use Rattle.types.specs.declared.Error.TheVariants.{FileTooLarge}
use Rattle.types.specs.declared.FileType.TheVariants.{Directory}
use Rattle.types.specs.declared.NodeRecord.{NodeRecord}
use Rattle.types.proofs.Nodes.{says-directory}
use Rattle.volume.specs.declared.ChunkRow.{ChunkRow}
use Rattle.volume.specs.Volume.{Store, Volume}
use Rattle.volume.specs.Sound.{Good, node}
use Rattle.volume.specs.Steps.{Step, stays, becomes}
use Rattle.volume.specs.Files.{on_row, on_file}
use Rattle.volume.specs.Framed.{Fits}
use Rattle.volume.proofs.Rounding.{lt_up}
use Rattle.tables.specs.OneRow.{sized, chunk}
use Rattle.store.specs.Content.{byte_at}
use Rattle.store.specs.Cut.{shrunk}
use Rattle.files.specs.Resize.{resize_file, resize}
use Rattle.files.specs.Effects.{Resized}
use Rattle.store.specs.Workable.{Workable}
use Rattle.files.specs.Posix.{file_of, ExtensionShowsZero}
use Rattle.store.proofs.Workable.{stored-workable}
use Rattle.tables.proofs.NodeRows.{node-is}
use Rattle.store.proofs.OwnedContent.{Reached, zero-above, owned-reached}
use Rattle.files.proofs.Reshaped.{Reshaped, reshaped, sized-kept}
use Rattle.tables.proofs.ChangedNames.{node-here, node-other}
use Rattle.tables.proofs.Files.{OnFile, stops, goes_on, on-file}
use Rattle.store.proofs.Shrunk.{shrunk-size, shrunk-stored, shrunk-fits, shrunk-rows, shrunk-below, shrunk-other, shrunk-low, shrunk-high}

-- ---- the cases of a resize

-- what an accepted resize has passed
pub record Accepts (n z : ℕ) (v : Volume) (r : NodeRecord) : Type 0 where
  pub there : node n v.names ≡ some r
  pub file : r.kind ≡ Directory → ⊥
  pub within : z ≤ file_limit r.limit

-- what holds of each case holds of a resize
pub resize-cases : (P : Step → Type 0) (n z : ℕ) (v : Volume) → ((e : Error) → P (stays e v)) → ((r : NodeRecord) → Accepts n z v r → r.size ≤ z → P (becomes 0 (reshaped n z v.store v)))
    → ((r : NodeRecord) → Accepts n z v r → z < r.size → P (becomes 0 (reshaped n z (shrunk n z v.store) v))) → P (resize n z v)
unfolding resize resize_file pick
resize-cases P n z v refusal grown cut = go (resize n z v) (on-file n v.names (λ e. stays e v) (resize_file z v))
  where
    from-file : (r : NodeRecord) → node n v.names ≡ some r → r.node ≡ n → (r.kind ≡ Directory → ⊥) → (b : Bool) → Says (file_limit r.limit < z) b → (c : Bool) → Says (z < r.size) c
        → P (pick b (stays FileTooLarge v) (pick c (becomes 0 (reshaped r.node z (shrunk r.node z v.store) v)) (becomes 0 (reshaped r.node z v.store v))))
    from-file r e i k true p c q = refusal FileTooLarge
    from-file r e i k false (fails p) true (holds q) = rw i (cut r (record { there = e; file = k; within = omega arith }) q)
    from-file r e i k false (fails p) false (fails q) = rw i (grown r (record { there = e; file = k; within = omega arith }) (omega arith))

    go : (s : Step) → OnFile Step n v.names (λ e. stays e v) (resize_file z v) s → P s
    go s (stops e) = refusal e
    go s (goes_on r e i k) =
        from-file r e i k (ltb (file_limit r.limit) z) (says-ltb (file_limit r.limit) z) (ltb z r.size) (says-ltb z r.size)

-- and one that passes them is accepted, whatever the store is: grown or cut
module _ (n z : ℕ) (v : Volume) (r : NodeRecord) (a : Accepts n z v r) where
  pub resize-grows : r.size ≤ z → resize n z v ≡ becomes 0 (reshaped n z v.store v)
  unfolding resize resize_file on_file on_row
  resize-grows h =
      rw (a.there, node-is n v.names r a.there)
      (sym (pick-false _ _ _ _ (false-says (says-directory r.kind) a.file) (pick-false _ _ _ _ (le-ltb _ _ a.within) (pick-false _ _ _ _ (le-ltb _ _ h) refl))))

  pub resize-cuts : z < r.size → resize n z v ≡ becomes 0 (reshaped n z (shrunk n z v.store) v)
  unfolding resize resize_file on_file on_row
  resize-cuts h =
      rw (a.there, node-is n v.names r a.there)
      (sym (pick-false _ _ _ _ (false-says (says-directory r.kind) a.file) (pick-false _ _ _ _ (le-ltb _ _ a.within) (pick_true _ _ _ _ (lt-ltb _ _ h) refl))))

-- ---- an accepted resize

module _ (n z : ℕ) (v : Volume) (f : Fits v) (g : Good v) (r : NodeRecord) (a : Accepts n z v r) where
  abbrev s : Store
  s = v.store

  st : Workable s
  st = stored-workable s f.store g.stored

  -- grown: size only
  same_shape : r.size ≤ z → Reshaped s s n z
  same_shape h = record {
    size = refl;
    workable = st;
    fits = f.store;
    rows = λ m k q. refl;
    bytes = λ m j q. refl;
    below = λ k c e. its-chunks k c e;
    above = λ j b. zero-above v.names s st.size g.owned n j r a.there (omega arith);
  }
    where
      its-chunks : (k : ℕ) (c : ChunkRow) → chunk n k s.chunks ≡ some c → k * s.allocator.chunk_size < z
      its-chunks k c e =
          let i : Reached s n k (some r) = rw a.there at (owned-reached v.names s st.size g.owned n k c e) in
          omega (arith, lt_up s.allocator.chunk_size r.size k st.size i.below)

  -- cut
  cut-shape : Reshaped s (shrunk n z s) n z
  cut-shape = record {
    size = shrunk-size n z s;
    workable = shrunk-stored n z s st;
    fits = shrunk-fits n z s st f.store;
    rows = shrunk-rows n z s;
    bytes = shrunk-other n z s st;
    below = shrunk-below n z s st.size;
    above = shrunk-high n z s st;
  }

  shape-kept : (t : Store) → Reshaped s t n z → Fits (reshaped n z t v) × Good (reshaped n z t v)
  shape-kept t h = sized-kept v t n z h f g r a.there a.file a.within

  shape-shows : (t : Store) → Reshaped s t n z → ((j : ℕ) → j < z → byte_at t n j ≡ byte_at s n j) → Resized n z v (reshaped n z t v)
  shape-shows t h low = record {
    row = r;
    there = a.there;
    file = a.file;
    within = a.within;
    changed = node-here n (sized z) (λ b. refl) r v.names a.there;
    others = node-other n (sized z) (λ b. refl) r v.names a.there;
    entries = refl;
    next_node = refl;
    below = low;
    above = h.above;
    outside = h.bytes;
  }

-- ---- any resize

-- a good volume that fits stays one
pub resize-kept : (n z : ℕ) (v : Volume) → Fits v → Good v → Fits (resize n z v).after × Good (resize n z v).after
resize-kept n z v f g =
    resize-cases (λ s. Fits s.after × Good s.after) n z v (λ e. (f, g)) (λ r a h. shape-kept n z v f g r a v.store (same_shape n z v f g r a h))
    (λ r a h. shape-kept n z v f g r a (shrunk n z v.store) (cut-shape n z v f g r a))

-- an accepted resize gives 0, and shows the file of its new size
pub resize-shows : (n z : ℕ) (v : Volume) → Fits v → Good v → (k : ℕ) → (resize n z v).answer ≡ Ok k → (k ≡ 0) × Resized n z v (resize n z v).after
resize-shows n z v f g k =
    resize-cases (λ s. s.answer ≡ Ok k → (k ≡ 0) × Resized n z v s.after) n z v (λ e q. absurd cc)
    (λ r a h q. (sym (ap value q), shape-shows n z v f g r a v.store (same_shape n z v f g r a h) (λ j b. refl)))
    (λ r a h q. (sym (ap value q), shape-shows n z v f g r a (shrunk n z v.store) (cut-shape n z v f g r a) (shrunk-low n z v.store (stored-workable v.store f.store g.stored))))

-- a refusal leaves the volume as it was
pub resize-refused : (n z : ℕ) (v : Volume) (e : Error) → (resize n z v).answer ≡ Err e → (resize n z v).after ≡ v
resize-refused n z v e =
    resize-cases (λ s. s.answer ≡ Err e → s.after ≡ v) n z v (λ d q. refl) (λ r a h q. absurd cc) (λ r a h q. absurd cc)

-- ---- what POSIX.1 says of a file extended

-- r is the row of the file before a resize that gives k, s its row after
module _ (n z : ℕ) (v : Volume) (k : ℕ) (accepted : (resize n z v).answer ≡ Ok k) (r s : NodeRecord) (before : node n v.names ≡ some r) (after : node n (resize n z v).after.names ≡ some s) where
  pub extension-shows-zero : Fits v → Good v → ExtensionShowsZero (file_of r v.store) z (file_of s (resize n z v).after.store)
  extension-shows-zero f g longer =
      let w = (resize-shows n z v f g k accepted).1 in
      let e : some s ≡ some (sized z w.row) = sym after ∙ w.changed in
      let q : s ≡ sized z w.row = cc in
      let i : s.node ≡ n = node-is n (resize n z v).after.names s after in
      let h : r.node ≡ n = node-is n v.names r before in (
        ap (λ t. t.size) q,
        (λ j low high. rw i (w.below j high ∙ zero-above v.names v.store (stored-workable v.store f.store g.stored).size g.owned n j r before low)),
        (λ j low. rw (i, h) (w.below j (omega arith))),
      )
