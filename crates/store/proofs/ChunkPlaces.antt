-- Where the chunks of a stored volume lie: each in the chunk area, no two within S of each other; a write into one leaves the others.
-- Over any chunk size.
-- Assumes nothing.
use mathlib.Core.Path.{◌≡◌, refl, sym, ap, ◌∙◌}
use mathlib.Core.Bool.{Bool, true, false}
use mathlib.Core.Logic.{◌⊎◌, inl, inr}
use mathlib.Core.List.{List}
use mathlib.Core.Option.{Option, none, some}
use Prim.Native.Nat.{ℕ, ◌+◌, ◌*◌, ◌/◌, ◌%◌, ◌≤◌, ◌<◌}
use native.Mathlib.Nat.{zero-add, mul-mod_left, mod-lt}
use native.Mathlib.Decide.{dec_lt}
use native.Mathlib.Omega.{arith}
use lib.Dec.{eqb}
use lib.ListN.{length, get_or}
use Rattle.words.specs.Bytes.{over}
use Rattle.words.specs.Rules.{both, Says, holds, fails}
use Rattle.words.specs.Tables.{Each, Asc}
use Rattle.words.proofs.Rules.{says-true, true-says, false-says, says_both, says-eqb}
use Rattle.words.proofs.Order.{asc-map}
use Rattle.words.proofs.Numbers.{get_or-over-before, get_or-over-after}
use Rattle.words.proofs.Multiples.{gap, chunk_of}
use Rattle.words.proofs.FoundRows.{found-passes, found-each, each-found, count-two}
use Rattle.allocator.proofs.Accounts.{due-most}
use Rattle.allocator.specs.Pointers.{Due}
use Rattle.volume.specs.declared.ChunkRow.{ChunkRow}
use Rattle.volume.specs.Volume.{Store}
use Rattle.volume.specs.Sound.{chunk_before}
use Rattle.tables.proofs.StoredRows.{Inside, rows-due, rows_inside}
use Rattle.tables.specs.OneRow.{is_chunk, chunk}
use Rattle.store.specs.Content.{byte_in, byte_at}
use Rattle.store.proofs.Content.{byte-within}
use Rattle.tables.proofs.ChunkCursor.{says-chunk}
use Rattle.store.specs.Workable.{Workable}

-- (m, i) is not (n, k)
abbrev pub Other : ℕ → ℕ → ℕ → ℕ → Type 0
Other n k m i = (n ≡ m) × (k ≡ i) → ⊥

pub same-or-other : (n k m i : ℕ) (P : Type 0) → (n ≡ m → k ≡ i → P) → (Other n k m i → P) → P
same-or-other n k m i P same other = go (both (eqb n m) (eqb k i)) (says_both (says-eqb n m) (says-eqb k i))
  where
    go : (b : Bool) → Says ((n ≡ m) × (k ≡ i)) b → P
    go true (holds e) = same e.0 e.1
    go false (fails e) = other e

-- ---- multiples of S

-- two chunks that do not meet
abbrev pub Far : ℕ → ℕ → ℕ → Type 0
Far s p q = (p + s ≤ q) ⊎ (q + s ≤ p)

pub lined-far : (s p q : ℕ) → 0 < s → p % s ≡ 0 → q % s ≡ 0 → (p ≡ q → ⊥) → Far s p q
lined-far s p q pos lp lq h = go (dec_lt p q) (dec_lt q p)
  where
    go : Dec (p < q) → Dec (q < p) → Far s p q
    go (yes k) d = inl (gap s p q pos lp lq k)
    go (no k) (yes z) = inr (gap s q p pos lq lp z)
    go (no k) (no z) = absurd (h (omega arith))

-- a write into the chunk at p leaves the chunk at q as it was
elsewhere : (s : ℕ) (l : List ℕ) (at : ℕ) (bs : List ℕ) (p q i : ℕ) → Far s p q → i < s → p ≤ at → at + length bs ≤ p + s → p + s ≤ length l → q + s ≤ length l → get_or (over l at bs) (q + i) 0 ≡ get_or l (q + i) 0
elsewhere s l at bs p q i (inl h) b low high fp fq = get_or-over-after l at bs (q + i) (omega arith) (omega arith)
elsewhere s l at bs p q i (inr h) b low high fp fq = get_or-over-before l at bs (q + i) (omega arith) (omega arith)

-- ---- the row of a chunk

pub row-key : (n k : ℕ) (cs : List ChunkRow) (c : ChunkRow) → chunk n k cs ≡ some c → (c.node ≡ n) × (c.index ≡ k)
unfolding chunk
row-key n k cs c e = says-true (says-chunk n k c) (found-passes (is_chunk n k) cs c e)

-- what holds of every row holds of the row of a chunk
pub row-each : (P : ChunkRow → Type 0) (n k : ℕ) (cs : List ChunkRow) (c : ChunkRow) → Each P cs → chunk n k cs ≡ some c → P c
unfolding chunk
row-each P n k cs c h e = found-each (is_chunk n k) P cs c h e

later-not : (a b : ChunkRow) → chunk_before a b → (a.node ≡ b.node) × (a.index ≡ b.index) → ⊥
later-not a b (inl h) e = omega (arith, e.0)
later-not a b (inr h) e = omega (arith, e.1, h.1)

-- and the other way round, of rows in order
pub each_row : (P : ChunkRow → Type 0) (cs : List ChunkRow) → Asc chunk_before cs → ((c : ChunkRow) → chunk c.node c.index cs ≡ some c → P c) → Each P cs
unfolding chunk
each_row P cs a h =
    each-found (λ r. is_chunk r.node r.index) P cs (λ r. true-says (says-chunk r.node r.index r) (refl, refl))
    (asc-map chunk_before (λ a b. is_chunk b.node b.index a ≡ false) (λ a b k. false-says (says-chunk b.node b.index a) (later-not a b k)) cs a) h

-- the bytes of a chunk are bytes of its node
pub row-byte : (v : Store) (n k : ℕ) (c : ChunkRow) (i : ℕ) → chunk n k v.chunks ≡ some c → i < v.allocator.chunk_size → byte_at v n (k * v.allocator.chunk_size + i) ≡ get_or v.bytes (c.pointer + i) 0
row-byte v n k c i e h =
    let s = v.allocator.chunk_size in
    let q : k * s / s ≡ k = chunk_of s k (k * s) (omega arith) (omega arith) in
    let f : chunk n (k * s / s) v.chunks ≡ some c = rw q e in
    byte-within v n (k * s) s (omega arith) (rw (mul-mod_left k s) (omega arith)) (some c) f i h ∙ ap (λ (x : ℕ). get_or v.bytes (c.pointer + x) 0) (rw (mul-mod_left k s) (zero-add i))

-- ---- chunks of a stored volume

module _ (v : Store) (st : Workable v) where
  abbrev S : ℕ
  S = v.allocator.chunk_size

  pub row-inside-found : (n k : ℕ) (c : ChunkRow) → chunk n k v.chunks ≡ some c → Inside v c
  row-inside-found n k c e = row-each (Inside v) n k v.chunks c (rows_inside v st.stored st.size) e

  pub row-due-found : (n k : ℕ) (c : ChunkRow) → chunk n k v.chunks ≡ some c → Due S v.allocator.next_ptr c.pointer
  row-due-found n k c e = row-each (λ d. Due S v.allocator.next_ptr d.pointer) n k v.chunks c (rows-due v st.stored) e

  -- two chunks have two pointers
  pub rows-differ : (n k m i : ℕ) (c d : ChunkRow) → Other n k m i → chunk n k v.chunks ≡ some c → chunk m i v.chunks ≡ some d → c.pointer ≡ d.pointer → ⊥
  unfolding chunk
  rows-differ n k m i c d other e f q =
      omega (arith, count-two (λ r. r.pointer) (is_chunk n k) (is_chunk m i) v.chunks c d apart e f (sym q), st.stored.pointers c.pointer, due-most S v.allocator.next_ptr c.pointer)
    where
      apart : (x : ChunkRow) → is_chunk n k x ≡ true → is_chunk m i x ≡ true → ⊥
      apart x y z =
          let a = says-true (says-chunk n k x) y in
          let b = says-true (says-chunk m i x) z in
          other (sym a.0 ∙ b.0, sym a.1 ∙ b.1)

  -- they lie S apart
  pub rows-far : (n k m i : ℕ) (c d : ChunkRow) → Other n k m i → chunk n k v.chunks ≡ some c → chunk m i v.chunks ≡ some d → Far S c.pointer d.pointer
  rows-far n k m i c d other e f = lined-far S c.pointer d.pointer st.size (row-due-found n k c e).lined (row-due-found m i d f).lined (rows-differ n k m i c d other e f)

  -- a write into the chunk at p leaves what a chunk far from it shows
  pub byte-elsewhere : (at : ℕ) (bs : List ℕ) (p : ℕ) → p ≤ at → at + length bs ≤ p + S → p + S ≤ length v.bytes → (m j : ℕ) → ((c : ChunkRow) → chunk m (j / S) v.chunks ≡ some c → Far S p c.pointer)
      → byte_in (over v.bytes at bs) (chunk m (j / S) v.chunks) (j % S) ≡ byte_at v m j
  unfolding byte_at
  byte-elsewhere at bs p low high inside m j far = go (chunk m (j / S) v.chunks) refl
    where
      go : (o : Option ChunkRow) → chunk m (j / S) v.chunks ≡ o → byte_in (over v.bytes at bs) o (j % S) ≡ byte_in v.bytes o (j % S)
      go none e = refl
      go (some c) e = elsewhere S v.bytes at bs p c.pointer (j % S) (far c e) (mod-lt j st.size) low high inside (row-inside-found m (j / S) c e)
