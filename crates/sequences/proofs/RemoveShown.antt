-- A remove, as shown: its node is there no more and its bytes read zero; every other node shows what it showed.
-- Assumes nothing.
use Rattle.std.specs.Prelude.{Ok}
use mathlib.Core.Path.{◌≡◌, refl, sym, ◌∙◌}
use mathlib.Core.Option.{none}
use Prim.Native.Nat.{ℕ}
use native.Mathlib.Omega.{arith}
use lib.Dec.{eqb}
use borrow.Author.Tests.{eq-eqb, ne_eqb}
use Rattle.words.specs.Rules.{pick}
use Rattle.words.proofs.Rules.{pick_true, pick-false}
use Rattle.volume.specs.Volume.{Volume}
use Rattle.volume.specs.Steps.{Step}
use Rattle.store.specs.Content.{byte_at}
use Rattle.store.proofs.Cut.{byte-other, byte_high}
use Rattle.names.specs.Removing.{without_node, removed}
use Rattle.names.specs.Removing as Removing
use Rattle.names.proofs.Removed.{Removes, refuses, removes, remove-cases, without-it, without_other}
use Rattle.sequences.specs.Show.{show}
use Rattle.sequences.specs.Act.{put_at}
use Rattle.sequences.proofs.Shown.{fs-same, by-node, put-here, put_other, show-missing, shows_same}

-- an accepted remove takes the row and the chunks
remove-done : (n : ℕ) (v : Volume) (k : ℕ) → (Removing.remove n v).answer ≡ Ok k → (Removing.remove n v).after ≡ removed n v
remove-done n v k = go (Removing.remove n v) (remove-cases n v)
  where
    go : (s : Step) → Removes n v s → s.answer ≡ Ok k → s.after ≡ removed n v
    go s (refuses e) q = let x : ◌≡◌ {A = ℕ} 0 1 = cc in absurd (omega arith)
    go s (removes r there bare) q = refl

module _ (n : ℕ) (v : Volume) where
  -- without them its number has no row, and other nodes have their rows, bytes and names
  removed-shows : show (removed n v) ≡ put_at n none (show v).next (show v)
  removed-shows =
      fs-same (unfold show put_at without_node in refl) (by-node (λ m. (show (removed n v)).at m ≡ (put_at n none (show v).next (show v)).at m) n (show-missing (removed n v) n (without-it n v.names) ∙ sym (put-here n none (show v).next (show v)))
      (λ m h. shows_same v (removed n v) m (without_other n v.names m h) (λ j. byte-other n 0 v.store m j h) (unfold without_node in refl) ∙ sym (put_other n none (show v).next (show v) m h)))

  -- its chunks are freed from index 0 on, and no others
  removed-bytes : (m j : ℕ) → byte_at (removed n v).store m j ≡ pick (eqb m n) 0 (byte_at v.store m j)
  removed-bytes m j =
      by-node (λ m. byte_at (removed n v).store m j ≡ pick (eqb m n) 0 (byte_at v.store m j)) n
      (pick_true _ _ _ _ (eq-eqb n n refl) (byte_high n 0 v.store j (omega arith))) (λ m h. pick-false _ _ _ _ (ne_eqb m n h) (byte-other n 0 v.store m j h)) m

module _ (n : ℕ) (v : Volume) (k : ℕ) (done : (Removing.remove n v).answer ≡ Ok k) where
  -- the node is gone
  pub remove-shows : show (Removing.remove n v).after ≡ put_at n none (show v).next (show v)
  remove-shows = rw (remove-done n v k done) (removed-shows n v)

  -- all its bytes read zero, and no other byte changes
  pub remove-bytes : (m j : ℕ) → byte_at (Removing.remove n v).after.store m j ≡ pick (eqb m n) 0 (byte_at v.store m j)
  remove-bytes m j = rw (remove-done n v k done) (removed-bytes n v m j)
