-- What a read gives: its two refusals, its count, and the bytes that tables and chunks show of the file.
-- Assumes nothing.
use Rattle.std.specs.Prelude.{Ok, Err}
use mathlib.Core.Path.{◌≡◌, refl, ap, ◌∙◌}
use mathlib.Core.List.{List, ◌++◌}
use Prim.Native.Nat.{ℕ, ◌+◌, ◌-◌, ◌≤◌, ◌<◌}
use native.Mathlib.Nat.{zero-add}
use native.Mathlib.Omega.{arith}
use lib.ListN.{length, take, drop, get_or, get_or-append}
use lib.Seq.{length-take-le, get_or-append-add, get_or-drop}
use Rattle.words.specs.Bytes.{over}
use Rattle.words.specs.Tables.{Asc}
use Rattle.types.specs.Answers.{value}
use Rattle.types.specs.Outcomes.{Outcome, refused, done}
use Rattle.types.specs.declared.Error.{Error}
use Rattle.volume.specs.Volume.{Volume}
use Rattle.volume.specs.Framed.{NodeFits, Fits}
use Rattle.volume.specs.Sound.{node_before, NodeGood, Good}
use Rattle.tables.proofs.NodeRows.{node-each, size-most}
use Rattle.tables.proofs.Files.{OnFile, stops, goes_on, on-file}
use Rattle.store.specs.Content.{byte_at, bytes_from}
use Rattle.store.proofs.Content.{length_from, from_at}
use Rattle.files.specs.declared.files.RowAt.{RowAt}
use Rattle.files.specs.FileRows.{file_found}
use Rattle.files.specs.Read.{read_count, read_file, read}
use Rattle.files.specs.Effects.{Shows}
use Rattle.files.proofs.FileRows.{IsFile, file-found, file-goes-on, file-refused}

-- ---- the ends of a read

module _ (n off : ℕ) (v : Volume) (buffer : List ℕ) where
  pub read-refused : Asc node_before v.names.nodes → {e : Error} → Err e ≡ file_found n v.names.nodes → refused e buffer ≡ read n off v buffer
  unfolding read
  read-refused a h = file-refused (λ e. refused e buffer) (read_file v off buffer) n v.names a refl h

  module _ {f : RowAt} (h : Ok f ≡ file_found n v.names.nodes) {count : ℕ} (c : (count ≡ read_count f.row.size off (length buffer)) × (count ≤ length buffer)) where
    its : IsFile n v.names f
    its = file-found n v.names refl h

    -- no byte of the read lies past 2^64
    pub read-ends : Good v → Fits v → off < 18446744073709551616 → off + length (take count buffer) < 18446744073709551616
    unfolding read_count
    read-ends g fits s =
        let a = node-each n v.names f.row its.row (NodeGood v.names.entries) g.named.nodes in
        let b = node-each n v.names f.row its.row NodeFits fits.names.node_rows in
        rw (length-take-le count buffer c.1) (omega (arith, c.0, size-most v.names.entries f.row a b))

    pub file-read : {ys : List ℕ} → ys ≡ bytes_from v.store n off (length (take count buffer)) → done count (ys ++ drop count buffer) ≡ read n off v buffer
    unfolding read read_file over
    file-read {ys} y =
        let w : ys ≡ bytes_from v.store n off count = y ∙ ap (bytes_from v.store n off) (length-take-le count buffer c.1) in
        let e : done count (ys ++ drop count buffer) ≡ read_file v off buffer f.row = rw (its.number, ← c.0, w, length_from v.store n off count, zero-add) in
        e ∙ file-goes-on n v.names refl h (λ e. refused e buffer) (read_file v off buffer)

-- ---- what an accepted read says of the file

module _ (n off : ℕ) (v : Volume) (buffer : List ℕ) where
  over-gives : (count i : ℕ) → i < count → get_or (over buffer 0 (bytes_from v.store n off count)) i 0 ≡ byte_at v.store n (off + i)
  unfolding over
  over-gives count i h = get_or-append (bytes_from v.store n off count) _ 0 i (rw (length_from v.store n off count) h) ∙ from_at v.store n off count i h

  over-keeps : (count i : ℕ) → count ≤ i → get_or (over buffer 0 (bytes_from v.store n off count)) i 0 ≡ get_or buffer i 0
  unfolding over
  over-keeps count i h =
      let e : i ≡ length (bytes_from v.store n off count) + (i - count) = omega (arith, length_from v.store n off count) in
      let d = drop (0 + length (bytes_from v.store n off count)) buffer in
      let z : 0 + length (bytes_from v.store n off count) + (i - count) ≡ i = omega (arith, length_from v.store n off count) in
      ap (λ (k : ℕ). get_or (bytes_from v.store n off count ++ d) k 0) e
      ∙ get_or-append-add (bytes_from v.store n off count) d (i - count) 0 ∙ get_or-drop (0 + length (bytes_from v.store n off count)) buffer (i - count) 0 ∙ ap (λ (k : ℕ). get_or buffer k 0) z

  pub read-shows : {count : ℕ} {bytes : List ℕ} → done count bytes ≡ read n off v buffer → Shows n off v buffer count bytes
  unfolding read read_file
  read-shows {count} {bytes} e = go (read n off v buffer) (on-file n v.names (λ e. refused e buffer) (read_file v off buffer)) e
    where
      go : (o : Outcome) → OnFile Outcome n v.names (λ e. refused e buffer) (read_file v off buffer) o → done count bytes ≡ o → Shows n off v buffer count bytes
      go o (stops x) e =
          let a : Ok count ≡ Err x = ap (λ u. u.answer) e in
          absurd cc
      go o (goes_on r q i k) e =
          let c : count ≡ read_count r.size off (length buffer) = ap (λ o. value o.answer) e in
          let b : bytes ≡ over buffer 0 (bytes_from v.store n off count) = ap (λ o. o.bytes) e ∙ rw (i, ← c) in
          record { row = r; there = q; file = k; counted = c; gives = λ i h. rw b (over-gives count i h); keeps = λ i h. rw b (over-keeps count i h) }
