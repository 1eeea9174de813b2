-- An accepted write does what POSIX.1 says of the gap before the bytes written, and of a write of no bytes.
-- Assumes nothing.
use Rattle.std.specs.Prelude.{Ok}
use mathlib.Core.Path.{◌≡◌, sym, ◌∙◌}
use mathlib.Core.List.{List}
use mathlib.Core.Option.{some}
use Prim.Native.Nat.{ℕ, ◌<◌}
use native.Mathlib.Omega.{arith}
use lib.ListN.{length}
use Rattle.types.specs.declared.NodeRecord.{NodeRecord}
use Rattle.volume.specs.Volume.{Volume}
use Rattle.volume.specs.Framed.{Fits}
use Rattle.volume.specs.Sound.{node, Good}
use Rattle.files.specs.Posix.{file_of, GapReadsZero, EmptyHasNoResults}
use Rattle.files.specs.Write.{write}
use Rattle.store.proofs.Workable.{stored-workable}
use Rattle.tables.proofs.NodeRows.{node-is}
use Rattle.store.proofs.OwnedContent.{zero-above}
use Rattle.files.proofs.WriteKept.{write-shows, write-empty}

-- r is the row of the file before a write that gives k, s its row after
module _ (n offset : ℕ) (bs : List ℕ) (v : Volume) (k : ℕ) (accepted : (write n offset bs v).answer ≡ Ok k) (r s : NodeRecord) (before : node n v.names ≡ some r) (after : node n (write n offset bs v).after.names ≡ some s) where
  pub gap-reads-zero : Fits v → Good v → 0 < length bs → GapReadsZero (file_of r v.store) offset (file_of s (write n offset bs v).after.store)
  gap-reads-zero f g h j low high =
      let w = (write-shows n offset bs v f g h k accepted).1 in
      rw (node-is n (write n offset bs v).after.names s after) (w.outside n j (λ e l b. omega arith) ∙ zero-above v.names v.store (stored-workable v.store f.store g.stored).size g.owned n j r before low)

  pub empty-has-no-results : length bs ≡ 0 → EmptyHasNoResults (file_of r v.store) k (file_of s (write n offset bs v).after.store)
  empty-has-no-results h =
      let w = write-empty n offset bs v h k accepted in
      let e : some s ≡ some r = sym after ∙ (rw w.1 before) in
      let q : s ≡ r = cc in
      (w.0, rw (w.1, q))
