-- An accepted call changes only the nodes that the scope names for it.
-- Assumes nothing.
use Rattle.std.specs.Prelude.{Some, None}
use mathlib.Core.Path.{◌≡◌, refl, ◌∙◌}
use mathlib.Core.Bool.{Bool, true, false}
use mathlib.Core.Logic.{inl, inr}
use mathlib.Core.Option.{Option, none, some}
use Prim.Native.Nat.{ℕ}
use lib.Dec.{eqb}
use lib.ListN.{length}
use Rattle.words.specs.Rules.{pick}
use Rattle.types.specs.Kinds.{Kind, kind_of}
use Rattle.names.specs.Entering.{on_kind}
use Rattle.sequences.specs.Fs.{Fs}
use Rattle.sequences.specs.Calls.{Call, new_volume, check, report, set_chunk_size, read, write, resize, set_limit, find_node, next_entry, search, create, link, unlink, remove}
use Rattle.sequences.specs.Act.{NameIn, on_name, path_name, change_at, with_written, created_as, unlinked_from, act}
use Rattle.sequences.specs.Changing.{ParentOrTarget, MayChange}
use Rattle.sequences.proofs.Shown.{change-other, put_other}

pub act-leaves : (c : Call) (fs : Fs) (m : ℕ) → (MayChange c fs m → ⊥) → (act c fs).at m ≡ fs.at m
unfolding pick on_kind
act-leaves (new_volume n e c s) fs m h = absurd (h tt)
act-leaves check fs m h = refl
act-leaves (report out) fs m h = refl
act-leaves (set_chunk_size s) fs m h = refl
act-leaves (read n offset buffer) fs m h = refl
act-leaves (write n offset bs) fs m h = go (eqb (length bs.list) 0)
  where
    go : (t : Bool) → (pick t fs (change_at n (with_written offset bs.list) fs)).at m ≡ fs.at m
    go true = refl
    go false = change-other n _ fs m h
act-leaves (resize n z) fs m h = change-other n _ fs m h
act-leaves (set_limit n most) fs m h = change-other n _ fs m h
act-leaves (find_node start path) fs m h = refl
act-leaves (next_entry d from) fs m h = refl
act-leaves (search d name from most) fs m h = refl
act-leaves (create p name byte) fs m h = go (kind_of byte)
  where
    go : (k : Kind) → (on_kind fs (λ kind. created_as p name.list kind fs) k).at m ≡ fs.at m
    go None = refl
    go (Some kind) = change-other p _ _ m (λ e. h (inl e)) ∙ put_other fs.next _ _ fs m (λ e. h (inr e))
act-leaves (link p name t) fs m h = change-other p _ _ m (λ e. h (inl e)) ∙ change-other t _ fs m (λ e. h (inr e))
act-leaves (unlink start path want opens) fs m h = go (path_name fs start path) h
  where
    go : (o : Option NameIn) → (ParentOrTarget m o → ⊥) → (on_name fs (unlinked_from fs) o).at m ≡ fs.at m
    go none k = refl
    go (some x) k = change-other x.directory _ _ m (λ e. k (inl e)) ∙ change-other x.seen.node _ fs m (λ e. k (inr e))
act-leaves (remove n) fs m h = put_other n _ _ fs m h
