-- The chunks of rows freed one after another, and the rows taken out behind that: from the bytes that the steps leave.
-- Assumes nothing.
use mathlib.Core.Path.{◌≡◌, refl, sym, ap, ◌∙◌}
use mathlib.Core.List.{List, [], ◌∷◌, ◌++◌, map, map-append}
use Prim.Native.Nat.{ℕ, ◌+◌, ◌≤◌, ◌<◌}
use native.Mathlib.Numerals.{add-one}
use native.Mathlib.Omega.{arith}
use lib.ListN.{length, take, drop, length-map, length-drop}
use lib.Seq.{take-suc, get_or-drop, length-take-le}
use Rattle.words.specs.Tables.{lead}
use Rattle.words.proofs.Order.{each_take, each-drop}
use Rattle.allocator.specs.Allocator.{release, released}
use Rattle.volume.specs.declared.Layout.{Layout}
use Rattle.volume.specs.declared.ChunkRow.{ChunkRow}
use Rattle.volume.specs.Rows.{read_chunk}
use Rattle.volume.specs.Volume.{Volume, shown, laid, with_allocator, with_chunks, on_store}
use Rattle.volume.specs.Framed.{ChunkFits, StoreFits}
use Rattle.volume.specs.Search.{chunk_under}
use Rattle.tables.specs.Tables.{Ready, chunk_at}
use Rattle.tables.proofs.ReadyVolume.{store_step}
use Rattle.store.specs.Cut.{cut_from}
use Rattle.store.specs.Workable.{Workable}
use Rattle.words.proofs.Search.{lead-le}
use Rattle.allocator.proofs.Released.{freed-all, release-last}
use Rattle.store.proofs.Cut.{pointers-small, released-fits, rows-and-free, cut_fits}
use Rattle.store.proofs.CutRows.{of_node, run-goes, run-stays}

-- the pointers of i rows from row first on
abbrev pub pointers : List ℕ → ℕ → ℕ → List ℕ
pointers l first i = map (λ c. c.pointer) (take i (drop first (shown l).store.chunks))

-- the volume with them freed
abbrev pub freed_to : List ℕ → ℕ → ℕ → Volume
freed_to l first i = on_store (with_allocator (released (pointers l first i) (shown l).store.allocator)) (shown l)

module _ (l : List ℕ) (y : Layout) (r : Ready l y) (first n : ℕ) (inside : first + n ≤ length (shown l).store.chunks) (words : (shown l).store.allocator.free_count + n ≤ (shown l).store.chunk_room) where
  length-pointers : (i : ℕ) → i ≤ n → length (pointers l first i) ≡ i
  length-pointers i h = length-map (take i (drop first (shown l).store.chunks)) (λ c. c.pointer) ∙ length-take-le i (drop first (shown l).store.chunks) (omega (arith, length-drop first (shown l).store.chunks))

  freed-fits : (i : ℕ) → i ≤ n → StoreFits (freed_to l first i).store
  freed-fits i h =
      let cs = drop first (shown l).store.chunks in
      let f = r.formed.fits.store in
      released-fits (shown l).store f (pointers l first i) (pointers-small (take i cs) (each_take ChunkFits i cs (each-drop ChunkFits first (shown l).store.chunks f.chunk_rows))) (omega (arith, length-pointers i h))

  pub none-freed : l ≡ laid (freed_to l first 0)
  unfolding released
  none-freed = sym r.formed.same

  module _ (i : ℕ) {m : List ℕ} (e : m ≡ laid (freed_to l first i)) (h : i ≤ n) where
    pub freed-step : (shown m ≡ freed_to l first i) × Ready m y
    freed-step = store_step r (freed_to l first i).store (freed-fits i h) refl e

    still-rows : length (shown m).store.chunks ≡ length (shown l).store.chunks
    still-rows = ap (λ v. length v.store.chunks) freed-step.0

    -- the next row is there, and a word for its pointer
    pub next_row : i < n → Ready m y × (first + i < length (shown m).store.chunks) × ((shown m).store.allocator.free_count < (shown m).store.chunk_room)
    next_row b = (freed-step.1, rw still-rows (omega arith), rw freed-step.0 (omega (arith, (freed-all (pointers l first i) (shown l).store.allocator).count, length-pointers i h)))

    pub freed-turn : {o : List ℕ} → i < n → o ≡ laid (on_store (with_allocator (release (chunk_at (shown m).store.chunks (first + i)).pointer (shown m).store.allocator)) (shown m)) → o ≡ laid (freed_to l first (i + 1))
    freed-turn {o} b q = q ∙ ap (λ v. laid (on_store (with_allocator (release (chunk_at v.store.chunks (first + i)).pointer v.store.allocator)) v)) freed-step.0 ∙ ap (λ a. laid (on_store (with_allocator a) (shown l))) one_more
      where
        cs : List ChunkRow
        cs = drop first (shown l).store.chunks

        row : take (i + 1) cs ≡ take i cs ++ (chunk_at (shown l).store.chunks (first + i) ∷ [])
        row = rw (add-one i) (take-suc cs i (read_chunk []) (omega (arith, length-drop first (shown l).store.chunks)) ∙ ap (λ c. take i cs ++ (c ∷ [])) (get_or-drop first (shown l).store.chunks i (read_chunk [])))

        one_more : release (chunk_at (shown l).store.chunks (first + i)).pointer (released (pointers l first i) (shown l).store.allocator) ≡ released (pointers l first (i + 1)) (shown l).store.allocator
        one_more =
            sym (ap (λ ps. released ps (shown l).store.allocator) (ap (map (λ c. c.pointer)) row ∙ map-append (λ c. c.pointer) (take i cs) (chunk_at (shown l).store.chunks (first + i) ∷ []))
            ∙ release-last (pointers l first i) (chunk_at (shown l).store.chunks (first + i)).pointer (shown l).store.allocator)

-- all of them
pub all-freed : (l : List ℕ) (first n i : ℕ) {m : List ℕ} → m ≡ laid (freed_to l first i) → i ≡ n → m ≡ laid (freed_to l first n)
all-freed l first n i e q = e ∙ ap (λ (k : ℕ). laid (freed_to l first k)) q

-- ---- a cut: the rows of a node from a place on, their chunks freed, the rows taken out

module _ (l : List ℕ) (y : Layout) (r : Ready l y) (st : Workable (shown l).store) (n p : ℕ) (within : p ≤ length (shown l).store.chunks) {k : ℕ} (many : k ≡ lead (of_node n) (drop p (shown l).store.chunks)) where
  rows_end : p + k ≤ length (shown l).store.chunks
  rows_end =
      let a : k ≤ length (drop p (shown l).store.chunks) = rw many (lead-le (of_node n) (drop p (shown l).store.chunks)) in
      omega (arith, length-drop p (shown l).store.chunks)

  words-enough : (shown l).store.allocator.free_count + k ≤ (shown l).store.chunk_room
  words-enough = omega (arith, rows_end, rows-and-free (shown l).store st)

  pub cut-frees : Ready l y × (p + k ≤ length (shown l).store.chunks) × ((shown l).store.allocator.free_count + k ≤ (shown l).store.chunk_room)
  cut-frees = (r, rows_end, words-enough)

  module _ {m : List ℕ} (e : m ≡ laid (freed_to l p k)) where
    after : (shown m ≡ freed_to l p k) × Ready m y
    after = freed-step l y r p k rows_end words-enough k e (omega arith)

    pub cut-removes : Ready m y × (p + k ≤ length (shown m).store.chunks)
    cut-removes = (after.1, rw after.0 rows_end)

    -- the place is that of an index
    pub cut-done : {o : List ℕ} → o ≡ laid (on_store (with_chunks (take p (shown m).store.chunks ++ drop (p + k) (shown m).store.chunks)) (shown m))
        → (c : ℕ) → p ≡ lead (chunk_under n c) (shown l).store.chunks → o ≡ laid (on_store (cut_from n c) (shown l))
    unfolding cut_from
    cut-done q c place =
        q ∙ ap (λ v. laid (on_store (with_chunks (take p v.store.chunks ++ drop (p + k) v.store.chunks)) v)) after.0
        ∙ rw (run-goes n c (shown l).store.chunks st.stored.order place many, run-stays n c (shown l).store.chunks st.stored.order place many)

-- ---- behind a cut

pub cut_step : (l : List ℕ) (y : Layout) (r : Ready l y) → Workable (shown l).store → (n c : ℕ) {m : List ℕ} → m ≡ laid (on_store (cut_from n c) (shown l)) → (shown m ≡ on_store (cut_from n c) (shown l)) × Ready m y
cut_step l y r st n c e = store_step r (cut_from n c (shown l).store) (cut_fits n c (shown l).store st r.formed.fits.store) (unfold cut_from in refl) e
