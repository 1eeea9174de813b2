use Rattle.std.proofs.Common.{◌≡◌, ℕ, Bool, true, false, List, [], ◌∷◌, ◌++◌, length, refl, ◌∙◌, rules, Option, Some, None, Bor}
use Rattle.std.specs.Fn.{Mut, Called}
use Rattle.std.specs.Iterator.{Yields}
use Rattle.std.specs.List.{FoldsTo}
use Rattle.std.specs.Option.{MatchOption}
use Rattle.std.specs.Slice.Iter.{chunks_rest, chunks_steps}
use Rattle.std.specs.declared.slice.Chunks.{Chunks}
use Rattle.words.specs.Rules.{both}
use Rattle.words.specs.Tests.{all_zero}
use Rattle.words.proofs.Blocks.{zero-append}
use Rattle.words.proofs.compare.is_zero.Goals as goal

no-bytes : (l : List ℕ) → length l ≡ 0 → true ≡ all_zero l
unfolding all_zero
no-bytes [] e = refl
no-bytes (x ∷ l) e = cc

-- what `all` says of the chunks that are left, where it asks of each whether it is zero
module _ {F : Type 0} (g : Mut F (Bor (List ℕ) × Unit {0}) Bool) (asks : (f : F) (x : Bor (List ℕ)) (r : Bool) (q : F) → Called g f (x, tt) r q → r ≡ all_zero x.now) where
  all_chunks : (xs : List (Bor (List ℕ))) (o : Option (Bor (List ℕ))) (f j : F) (s t u : Chunks ℕ) (r : Bool) → Yields chunks_steps s xs t → chunks_steps t o u
      → FoldsTo (λ p x q. Called g p (x, tt) true q) f xs j → MatchOption o (r ≡ true) (λ x. (r ≡ false) × ((h : F) × Called g j (x, tt) false h)) → r ≡ all_zero (chunks_rest s)
  unfolding both
  all_chunks [] None f j s t u r y k w m =
      m ∙ no-bytes (chunks_rest s) (rw y k.1.0)
  all_chunks [] (Some x) f j s t u r y k w m =
      let e : chunks_rest s ≡ x.now ++ chunks_rest u = rw y k.1.0 in
      let z = asks j x false m.1.0 m.1.1 in
      m.0 ∙ rw (e, zero-append, ← z)
  all_chunks (x ∷ xs) o f j s t u r y k w m =
      let e : chunks_rest s ≡ x.now ++ chunks_rest y.0 = y.1.1.0 in
      let z = asks f x true w.0 w.1 in
      all_chunks xs o w.0 j y.0 t u r y.2 k w.2 m ∙ rw (e, zero-append, ← z)

pub returns : goal.returns
returns c =
    let q = c.all.ensures.ran in
    rw c.chunks.ensures.rest at (all_chunks _ (λ f x r p k. search rules) q.0 q.1 _ q.2 _ q.3.0 _ c.all.result q.3.1 q.3.2 q.4 q.5)
