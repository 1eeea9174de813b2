-- What set limit does: its refusals, which leave the volume as it was, and the row that it changes.
-- Assumes nothing.
use Rattle.std.specs.Prelude.{Ok, Err}
use mathlib.Core.Path.{◌≡◌, refl, sym, ap, ◌∙◌}
use mathlib.Core.Bool.{Bool, true, false}
use mathlib.Core.List.{List}
use mathlib.Core.Option.{some}
use Prim.Native.Nat.{ℕ, ◌≤◌, ◌<◌}
use native.Mathlib.Omega.{arith}
use lib.Dec.{ltb}
use lib.ListN.{set}
use borrow.Author.Tests.{lt-ltb, le-ltb}
use Rattle.words.specs.Rules.{pick, Says, fails}
use Rattle.words.specs.Tables.{Asc}
use Rattle.words.proofs.Rules.{says-ltb, pick_true, pick-false}
use Rattle.words.proofs.Order.{each_map}
use Rattle.types.specs.Sizes.{most_size}
use Rattle.types.specs.Nodes.{limit_word, file_limit}
use Rattle.types.specs.Answers.{Answer}
use Rattle.types.specs.declared.Error.{Error}
use Rattle.types.specs.declared.Error.TheVariants.{InvalidArgument, FileTooLarge}
use Rattle.types.specs.declared.FileType.TheVariants.{Directory}
use Rattle.types.specs.Nodes.{Limit}
use Rattle.types.specs.declared.NodeRecord.{NodeRecord}
use Rattle.volume.specs.declared.ChunkRow.{ChunkRow}
use Rattle.volume.specs.Framed.{Fits}
use Rattle.volume.specs.Volume.{Volume, shown, laid, with_nodes, on_names}
use Rattle.volume.specs.Sound.{node, node_before, ChunkOwned, Good, Owned, ChunksOwned}
use Rattle.volume.specs.Steps.{Step, stays, becomes, with_node}
use Rattle.tables.specs.OneRow.{limited}
use Rattle.tables.proofs.ChangedRow.{row-set, find-other}
use Rattle.tables.proofs.ChangedNames.{Stands, look-changed, named-changed, fits-changed}
use Rattle.tables.proofs.Files.{OnFile, stops, goes_on, on-file}
use Rattle.store.specs.Content.{byte_at}
use Rattle.files.specs.declared.files.RowAt.{RowAt}
use Rattle.files.specs.FileRows.{file_found}
use Rattle.files.specs.Limits.{limit_file, set_limit}
use Rattle.files.proofs.FileRows.{IsFile, file-found, file-goes-on, file-refused}

-- an answer and the bytes left, as a step says them
abbrev pub Meets : Answer → List ℕ → Step → Type 0
Meets r x s = (r ≡ s.answer) × (x ≡ laid s.after)

pub meets : {x : List ℕ} (s t : Step) → x ≡ laid s.after → s ≡ t → Meets s.answer x t
meets s t h e = (ap (λ o. o.answer) e, h ∙ ap (λ o. laid o.after) e)

-- ---- the ends of the call

module _ (n : ℕ) (m : Limit) (l : List ℕ) (w : laid (shown l) ≡ l) (a : Asc node_before (shown l).names.nodes) where
  abbrev refuse : Error → Step
  refuse e = stays e (shown l)

  pub limit-refused : {e : Error} → Err e ≡ file_found n (shown l).names.nodes → Meets (Err e) l (set_limit n m (shown l))
  unfolding set_limit
  limit-refused {e} h = meets (refuse e) _ (sym w) (file-refused refuse (limit_file m (shown l)) n (shown l).names a refl h)

  module _ {f : RowAt} (h : Ok f ≡ file_found n (shown l).names.nodes) {x : ℕ} (p : x ≡ limit_word m) where
    its : IsFile n (shown l).names f
    its = file-found n (shown l).names refl h

    onward : limit_file m (shown l) f.row ≡ set_limit n m (shown l)
    unfolding set_limit
    onward = file-goes-on n (shown l).names refl h refuse (limit_file m (shown l))

    pub limit-above : most_size < x → Meets (Err InvalidArgument) l (set_limit n m (shown l))
    unfolding limit_file
    limit-above e = meets (refuse InvalidArgument) _ (sym w) (pick_true _ _ _ _ (rw (← p) (lt-ltb _ _ e)) refl ∙ onward)

    module _ (s : x ≤ most_size) {z : ℕ} (o : z ≡ file_limit m) where
      pub limit-below : z < f.row.size → Meets (Err FileTooLarge) l (set_limit n m (shown l))
      unfolding limit_file
      limit-below e = meets (refuse FileTooLarge) _ (sym w) (pick-false _ _ _ _ (rw (← p) (le-ltb _ _ s)) (pick_true _ _ _ _ (rw (← o) (lt-ltb _ _ e)) refl) ∙ onward)

      pub limit-done : f.row.size ≤ z → {y : List ℕ} → y ≡ laid (on_names (with_nodes (set (shown l).names.nodes f.place (limited m f.row))) (shown l)) → Meets (Ok 0) y (set_limit n m (shown l))
      unfolding limit_file
      limit-done e {y} g =
          let same : y ≡ laid (on_names (with_node f.row.node (limited m)) (shown l)) = rw its.number (row-set n (limited m) (shown l).names.nodes f.place a its.found (ap (limited m) its.here) (shown l) refl l refl g) in
          meets (becomes 0 (on_names (with_node f.row.node (limited m)) (shown l))) _ same
          (pick-false _ _ _ _ (rw (← p) (le-ltb _ _ s)) (pick-false _ _ _ _ (rw (← o) (le-ltb _ _ e)) refl) ∙ onward)

-- ---- what it leaves

-- what holds of a refusal, and of the row of a file changed to a limit that it keeps, holds of the call
pub limit-cases : (P : Step → Type 0) (n : ℕ) (m : Limit) (v : Volume) → ((e : Error) → P (stays e v))
    → ((r : NodeRecord) → node n v.names ≡ some r → (r.kind ≡ Directory → ⊥) → limit_word m ≤ most_size → r.size ≤ file_limit m → P (becomes 0 (on_names (with_node n (limited m)) v))) → P (set_limit n m v)
unfolding set_limit limit_file pick
limit-cases P n m v refusal accepted = go (set_limit n m v) (on-file n v.names (λ e. stays e v) (limit_file m v))
  where
    from-file : (r : NodeRecord) → node n v.names ≡ some r → r.node ≡ n → (r.kind ≡ Directory → ⊥) → (c : Bool) → Says (most_size < limit_word m) c → (d : Bool) → Says (file_limit m < r.size) d
        → P (pick c (stays InvalidArgument v) (pick d (stays FileTooLarge v) (becomes 0 (on_names (with_node r.node (limited m)) v))))
    from-file r e i k true p d q = refusal InvalidArgument
    from-file r e i k false (fails p) true q = refusal FileTooLarge
    from-file r e i k false (fails p) false (fails q) = rw i (accepted r e k (omega arith) (omega arith))

    go : (s : Step) → OnFile Step n v.names (λ e. stays e v) (limit_file m v) s → P s
    go s (stops e) = refusal e
    go s (goes_on r e i k) = from-file r e i k (ltb most_size (limit_word m)) (says-ltb most_size (limit_word m)) (ltb (file_limit m) r.size) (says-ltb (file_limit m) r.size)

-- a good volume that fits stays one
pub limit-kept : (n : ℕ) (m : Limit) (v : Volume) → Fits v → Good v → Fits (set_limit n m v).after × Good (set_limit n m v).after
limit-kept n m v f g = limit-cases (λ s. Fits s.after × Good s.after) n m v (λ e. (f, g)) accepted
  where
    accepted : (r : NodeRecord) → node n v.names ≡ some r → (r.kind ≡ Directory → ⊥) → limit_word m ≤ most_size → r.size ≤ file_limit m → Fits (on_names (with_node n (limited m)) v) × Good (on_names (with_node n (limited m)) v)
    accepted r e file most size =
        let keeps : (s : NodeRecord) → (limited m s).node ≡ s.node = λ s. refl in
        let t : Stands r (limited m r) = record { file = file; node = refl; kind = refl; links = refl; size = size } in
        let own : (c : ChunkRow) → ChunkOwned v.store.allocator.chunk_size v.store.bytes c r → ChunkOwned v.store.allocator.chunk_size v.store.bytes c (limited m r) = λ c h. record { file = h.file; below = h.below; zeros = h.zeros } in
        let owned : ChunksOwned (with_node n (limited m) v.names) v.store =
        each_map _ _ (λ c h. look-changed n (limited m) keeps r v.names e (Owned v.store.allocator.chunk_size v.store.bytes c) c.node (λ q. own c (rw (ap (λ (k : ℕ). node k v.names) q ∙ e) at h)) (λ _. h)) v.store.chunks g.owned in
        (record { names = fits-changed n (limited m) keeps r v.names e t g.named (λ _. most) f.names; store = f.store }, record { named = named-changed n (limited m) keeps r v.names e t g.named; stored = g.stored; owned = owned })

-- a refusal leaves the volume as it was
pub limit-leaves : (n : ℕ) (m : Limit) (v : Volume) (e : Error) → (set_limit n m v).answer ≡ Err e → (set_limit n m v).after ≡ v
limit-leaves n m v e = limit-cases (λ s. s.answer ≡ Err e → s.after ≡ v) n m v (λ d q. refl) (λ r d file most size q. absurd cc)

-- every file's bytes are as they were
pub limit-content : (n : ℕ) (m : Limit) (v : Volume) (k j : ℕ) → byte_at (set_limit n m v).after.store k j ≡ byte_at v.store k j
unfolding byte_at
limit-content n m v k j = limit-cases (λ s. byte_at s.after.store k j ≡ byte_at v.store k j) n m v (λ e. refl) (λ r e file most size. refl)

-- and so is every other node
pub limit-others : (n : ℕ) (m : Limit) (v : Volume) (k : ℕ) → (k ≡ n → ⊥) → node k (set_limit n m v).after.names ≡ node k v.names
unfolding node
limit-others n m v k h = limit-cases (λ s. node k s.after.names ≡ node k v.names) n m v (λ e. refl) (λ r e file most size. find-other n (limited m) (λ s. refl) k h v.names.nodes)
