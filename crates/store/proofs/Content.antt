-- Laws of `byte_at` and `bytes_from`: bytes one by one, two runs joined, and a run that lies in one chunk. Over any chunk size.
-- Assumes nothing.
use mathlib.Core.Path.{◌≡◌, refl, sym, ap, ◌∙◌}
use mathlib.Core.List.{List, [], ◌∷◌, ◌++◌}
use mathlib.Core.Option.{Option, none, some}
use Prim.Native.Nat.{ℕ, zero, suc, ◌+◌, ◌-◌, ◌/◌, ◌%◌, ◌≤◌, ◌<◌}
use native.Mathlib.Nat.{not-suc-le-zero, le_of_suc-le-suc, zero-add, suc-add, add-zero, add_assoc}
use native.Mathlib.Omega.{arith}
use lib.ListN.{length, get_or, get_or-replicate}
use lib.Seq.{ext_get_or, get_or-take, get_or-drop}
use Rattle.words.specs.Bytes.{part, zeros}
use Rattle.words.proofs.Parts.{length_part, length-zeros}
use Rattle.words.proofs.Multiples.{within-chunk, within-rest}
use Rattle.volume.specs.declared.ChunkRow.{ChunkRow}
use Rattle.volume.specs.Volume.{Store}
use Rattle.tables.specs.OneRow.{chunk}
use Rattle.store.specs.Content.{byte_in, byte_at, bytes_from}

-- ---- runs of bytes, over any volume and node

module _ (v : Store) (n : ℕ) where
  pub length_from : (j len : ℕ) → length (bytes_from v n j len) ≡ len
  unfolding bytes_from
  length_from j zero = refl
  length_from j (suc len) = ap suc (length_from (j + 1) len)

  pub from_at : (j len i : ℕ) → i < len → get_or (bytes_from v n j len) i 0 ≡ byte_at v n (j + i)
  unfolding bytes_from
  from_at j zero i h = absurd (not-suc-le-zero h)
  from_at j (suc len) zero h = rw add-zero
  from_at j (suc len) (suc i) h =
      let e : j + 1 + i ≡ j + suc i = omega arith in
      from_at (j + 1) len i (le_of_suc-le-suc h) ∙ ap (byte_at v n) e

  -- a list with these bytes is the run
  pub from_is : (j : ℕ) (l : List ℕ) (len : ℕ) → length l ≡ len → ((i : ℕ) → i < len → byte_at v n (j + i) ≡ get_or l i 0) → bytes_from v n j len ≡ l
  from_is j l len e h =
      ext_get_or 0 (bytes_from v n j len) l (length_from j len ∙ sym e) (λ i b. let k : i < len = rw (length_from j len) at b in from_at j len i k ∙ h i k)

  pub from-none : (j : ℕ) → bytes_from v n j 0 ≡ []
  unfolding bytes_from
  from-none j = refl

  pub from-add : (j a b : ℕ) → bytes_from v n j (a + b) ≡ bytes_from v n j a ++ bytes_from v n (j + a) b
  unfolding bytes_from
  from-add j zero b = rw (zero-add, add-zero)
  from-add j (suc a) b =
      let e : j + 1 + a ≡ j + suc a = omega arith in
      rw suc-add (ap (λ (r : List ℕ). byte_at v n j ∷ r) (rw e at (from-add (j + 1) a b)))

  -- ---- a run that lies in one chunk

  module _ (j len : ℕ) (pos : 0 < v.allocator.chunk_size) (short : len ≤ v.allocator.chunk_size - j % v.allocator.chunk_size) where
    abbrev S : ℕ
    S = v.allocator.chunk_size

    -- its bytes, by the chunk's row
    pub byte-within : (o : Option ChunkRow) → chunk n (j / S) v.chunks ≡ o → (i : ℕ) → i < len → byte_at v n (j + i) ≡ byte_in v.bytes o (j % S + i)
    unfolding byte_at
    byte-within o e i h = rw (within-chunk S j i pos (omega arith), within-rest S j i pos (omega arith), e)

    pub from_row : (c : ChunkRow) → chunk n (j / S) v.chunks ≡ some c → c.pointer + j % S + len ≤ length v.bytes → bytes_from v n j len ≡ part v.bytes (c.pointer + j % S) len
    unfolding part
    from_row c e h =
        from_is j (part v.bytes (c.pointer + j % S) len) len (length_part v.bytes (c.pointer + j % S) len h)
        (λ i b. byte-within (some c) e i b ∙ sym (get_or-take len _ i 0 b ∙ get_or-drop (c.pointer + j % S) v.bytes i 0 ∙ ap (λ (k : ℕ). get_or v.bytes k 0) (add_assoc c.pointer (j % S) i)))

    pub from-hole : chunk n (j / S) v.chunks ≡ none → bytes_from v n j len ≡ zeros len
    unfolding zeros
    from-hole e = from_is j (zeros len) len (length-zeros len) (λ i b. byte-within none e i b ∙ sym (get_or-replicate len i 0 0 b))
