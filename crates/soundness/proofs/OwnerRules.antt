-- What the tests of chunk rows mean, and what their code finds.
-- Assumes nothing.
use Rattle.std.specs.Prelude.{Some, None}
use mathlib.Core.Path.{◌≡◌, refl, sym, ap, ◌∙◌}
use mathlib.Core.Bool.{Bool, true, false, not}
use mathlib.Core.List.{List, []}
use Prim.Native.Nat.{ℕ, ◌+◌, ◌-◌, ◌*◌, ◌/◌, ◌%◌, ◌≤◌, ◌<◌}
use native.Mathlib.Nat.{le-div_iff_mul-le}
use native.Mathlib.Omega.{arith}
use lib.Dec.{eqb}
use lib.ListN.{length, get_or}
use borrow.Author.Tests.{not-true, not-false}
use Rattle.words.specs.Bytes.{part}
use Rattle.words.specs.Rules.{either, Says, holds, fails}
use Rattle.words.specs.Tests.{all_zero}
use Rattle.words.specs.Tables.{Asc, find}
use Rattle.words.proofs.Order.{each_at}
use Rattle.words.proofs.Places.{each-places}
use Rattle.words.proofs.Rules.{says_map, says_both, says-and, says-not, says-ltb}
use Rattle.words.proofs.Blocks.{says-zero-part}
use Rattle.words.proofs.Multiples.{parts, step-apart}
use Rattle.types.specs.Sizes.{most_size}
use Rattle.types.specs.declared.NodeRecord.{NodeRecord}
use Rattle.types.proofs.Nodes.{says-directory}
use Rattle.volume.specs.declared.ChunkRow.{ChunkRow}
use Rattle.volume.specs.declared.Layout.{Layout}
use Rattle.volume.specs.Rows.{read_node, read_chunk}
use Rattle.volume.specs.Volume.{Names, Store, shown}
use Rattle.volume.specs.Framed.{NodeFits, NamesFits}
use Rattle.volume.specs.Sound.{round_up, node, node_before, ChunkOwned, Owned, NodeGood, Named, ChunksOwned}
use Rattle.volume.proofs.Rounding.{lt_up}
use Rattle.tables.proofs.NodeRows.{size-most}
use Rattle.tables.specs.Tables.{Ready, node_at, chunk_at, found_node, Found}
use Rattle.tables.proofs.ReadyVolume.{rooms, count-bytes}
use Rattle.tables.proofs.TableSearch.{node-found, node-absent}
use Rattle.soundness.specs.EntryRules.{is_found}
use Rattle.soundness.specs.OwnerRules.{tail_zero, owned_by, owned_where, row_owned, chunks_owned}

-- ---- what the code finds

-- the byte area, behind the tables
pub chunk_inside : (l : List ℕ) (y : Layout) (r : Ready l y) (p s : ℕ) → p + s ≤ length (shown l).store.bytes → y.area + p + s ≤ length l
chunk_inside l y r p s h = omega (arith, count-bytes l, rooms l y r)

-- the size of a node is at most 2^40
pub node-size : (a : Names) → NamesFits a → Named a → (i : ℕ) → i < length a.nodes → (node_at a.nodes i).size ≤ most_size
node-size a f n i h = size-most a.entries (node_at a.nodes i) (each_at (NodeGood a.entries) a.nodes i (read_node []) n.nodes h) (each_at NodeFits a.nodes i (read_node []) f.node_rows h)

-- a row, and where the row of its node was found
module _ (a : Names) (s : Store) (i : ℕ) {c : ChunkRow} {f : Found} (p : c ≡ chunk_at s.chunks i) (q : f ≡ found_node c.node a.nodes) where
  pub no-owner : f ≡ None → is_found None ≡ row_owned a s i
  unfolding row_owned owned_where is_found
  no-owner e = rw (← p, ← q, e)

  pub by-owner : {k z : ℕ} {r : NodeRecord} {b : Bool} → f ≡ Some k → r ≡ node_at a.nodes k → z ≡ s.allocator.chunk_size → b ≡ owned_by z s.bytes c r → b ≡ row_owned a s i
  unfolding row_owned owned_where
  by-owner e k z h = h ∙ rw (k, z, ← p, ← q, e)

-- an owner that can have the chunk, or cannot
pub is-owner : (k : ℕ) {t r : Bool} → t ≡ r → not t ≡ false → is_found (Some k) ≡ r
unfolding is_found
is-owner k {t} e h = sym (not-false t h) ∙ e

pub not-owner : {t r : Bool} → t ≡ r → not t ≡ true → is_found None ≡ r
unfolding is_found
not-owner {t} e h = sym (not-true t h) ∙ e

-- ---- what the tests mean

module _ (s : ℕ) (pos : 0 < s) (bytes : List ℕ) (c : ChunkRow) where
  abbrev TailZero : ℕ → Type 0
  TailZero z = (i : ℕ) → i < s → z ≤ c.index * s + i → get_or bytes (c.pointer + i) 0 ≡ 0

  -- the chunk that the size ends in
  says_last : (z : ℕ) → c.index ≡ z / s → Says (TailZero z) (all_zero (part bytes (c.pointer + z % s) (s - z % s)))
  says_last z e = says_map fore back (says-zero-part bytes (c.pointer + z % s) (s - z % s))
    where
      m : c.index * s ≡ z / s * s
      m = ap (λ (k : ℕ). k * s) e

      fore : ((i : ℕ) → i < s - z % s → get_or bytes (c.pointer + z % s + i) 0 ≡ 0) → TailZero z
      fore h i b k =
          let q : c.pointer + z % s + (i - z % s) ≡ c.pointer + i = omega (arith, parts pos z, m) in
          rw q at (h (i - z % s) (omega (arith, parts pos z)))

      back : TailZero z → (i : ℕ) → i < s - z % s → get_or bytes (c.pointer + z % s + i) 0 ≡ 0
      back h i b =
          let q : c.pointer + (z % s + i) ≡ c.pointer + z % s + i = omega arith in
          rw q at (h (z % s + i) (omega arith) (omega (arith, parts pos z, m)))

  says-tail : (z : ℕ) → c.index < round_up s z → Says (TailZero z) (tail_zero s bytes c z)
  unfolding tail_zero either
  says-tail z below = go (says-ltb c.index (z / s))
    where
      go : {t : Bool} → Says (c.index < z / s) t → Says (TailZero z) (either t (all_zero (part bytes (c.pointer + z % s) (s - z % s))))
      go (holds h) = holds (λ i b k. absurd (omega (arith, step-apart s c.index (z / s) h, parts pos z)))
      go (fails h) = says_last z (let k = lt_up s z c.index pos below in let a : c.index ≤ z / s = (le-div_iff_mul-le pos).1 (omega arith) in omega arith)

  says-by : (r : NodeRecord) → Says (ChunkOwned s bytes c r) (owned_by s bytes c r)
  unfolding owned_by
  says-by r =
      says_map (λ p. record { file = p.0; below = p.1.0; zeros = p.1.1 }) (λ o. (o.file, (o.below, o.zeros)))
      (says_both (says-not (says-directory r.kind)) (says-and (says-ltb c.index (round_up s r.size)) (says-tail r.size)))

  says-where : (rs : List NodeRecord) → Asc node_before rs → Says (Owned s bytes c (find (λ r. eqb r.node c.node) rs)) (owned_where s bytes rs c (found_node c.node rs))
  unfolding owned_where
  says-where rs a = go (found_node c.node rs) refl
    where
      go : (f : Found) → f ≡ found_node c.node rs → Says (Owned s bytes c (find (λ r. eqb r.node c.node) rs)) (owned_where s bytes rs c f)
      go (Some i) e = rw (node-found c.node rs i e).1 (says-by (node_at rs i))
      go None e = rw (node-absent c.node rs a e) (fails (λ z. z))

pub says-owned : (a : Names) (s : Store) → 0 < s.allocator.chunk_size → Asc node_before a.nodes → Says (ChunksOwned a s) (chunks_owned a s)
unfolding chunks_owned row_owned node
says-owned a s pos o =
    each-places (λ c. Owned s.allocator.chunk_size s.bytes c (node c.node a)) (read_chunk [])
    (λ c. owned_where s.allocator.chunk_size s.bytes a.nodes c (found_node c.node a.nodes)) (λ c. says-where s.allocator.chunk_size pos s.bytes c a.nodes o) s.chunks
