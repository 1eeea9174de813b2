-- Rows of the chunk table but for a gap: what a row written at the gap's first place makes of them, and of the volume.
-- Assumes nothing.
use mathlib.Core.Path.{◌≡◌, refl, sym, ap, ◌∙◌}
use mathlib.Core.Bool.{Bool, true, false}
use mathlib.Core.List.{List, [], ◌∷◌, ◌++◌, append_assoc}
use Prim.Native.Nat.{ℕ, suc, ◌+◌, ◌-◌, ◌≤◌, ◌<◌}
use native.Mathlib.Nat.{add-zero}
use native.Mathlib.Omega.{arith}
use lib.Dec.{ltb}
use lib.ListN.{length, take, drop, set, replicate, length-append, length-replicate, take-append-drop}
use lib.Seq.{length-take-le, take_at, drop_at, get_or-append-add, get_or-drop, drop-cons, drop-set-lt, take-suc-set, append_snoc}
use borrow.Author.Tests.{ltb-true, ltb-false, lt-ltb, le-ltb}
use Rattle.words.specs.Rules.{both}
use Rattle.words.specs.Tables.{Each, insert_at}
use Rattle.words.proofs.Order.{each_append, each_take, each-drop}
use Rattle.words.proofs.Areas.{length_rest}
use Rattle.volume.specs.declared.ChunkRow.{ChunkRow}
use Rattle.volume.specs.Rows.{read_chunk}
use Rattle.tables.specs.Tables.{chunk_at}
use Rattle.tables.specs.OneRow.{is_chunk}
use Rattle.files.specs.Gap.{without}

less-up : (a g b : ℕ) → ltb (a + g) b ≡ ltb a (b - g)
less-up a g b = go (ltb (a + g) b) refl
  where
    go : (c : Bool) → ltb (a + g) b ≡ c → c ≡ ltb a (b - g)
    go true e = sym (lt-ltb a (b - g) (omega (arith, ltb-true (a + g) b e)))
    go false e = sym (le-ltb a (b - g) (omega (arith, ltb-false (a + g) b e)))

module _ (p g : ℕ) (cs : List ChunkRow) where
  pub length_without : p + g ≤ length cs → length (without p g cs) ≡ length cs - g
  unfolding without
  length_without h = length_rest p g cs h

  pub each-without : (P : ChunkRow → Type 0) → Each P cs → Each P (without p g cs)
  unfolding without
  each-without P e = each_append P (take p cs) (drop (p + g) cs) (each_take P p cs e) (each-drop P (p + g) cs e)

  module _ (h : p + g ≤ length cs) where
    front : length (take p cs) ≡ p
    front = length-take-le p cs (omega arith)

    -- the row behind the gap is the one at its place
    pub row-behind : chunk_at (without p g cs) p ≡ chunk_at cs (p + g)
    unfolding without
    row-behind =
        let e : length (take p cs) + 0 ≡ p = omega (arith, front) in
        let f : p + g + 0 ≡ p + g = omega arith in
        ap (λ (i : ℕ). chunk_at (take p cs ++ drop (p + g) cs) i) (sym e) ∙ get_or-append-add (take p cs) (drop (p + g) cs) 0 (read_chunk []) ∙ get_or-drop (p + g) cs 0 (read_chunk []) ∙ ap (chunk_at cs) f

    -- the same of the test for a row
    pub test-behind : (n k : ℕ) → both (ltb (p + g) (length cs)) (is_chunk n k (chunk_at cs (p + g))) ≡ both (ltb p (length (without p g cs))) (is_chunk n k (chunk_at (without p g cs) p))
    test-behind n k = rw (row-behind, length_without h) (ap (λ b. both b (is_chunk n k (chunk_at cs (p + g)))) (less-up p g (length cs)))

  -- a row written at the first place, and that place left out of the gap
  set_first : (x : ChunkRow) → p < length cs → without (p + 1) g (set cs p x) ≡ take p cs ++ (x ∷ drop (suc (p + g)) cs)
  unfolding without
  set_first x h =
      let e : p + 1 ≡ suc p = omega arith in
      let f : p + 1 + g ≡ suc (p + g) = omega arith in
      rw (f, drop-set-lt (suc (p + g)) cs p x (omega arith), e, take-suc-set cs p x h) (append_snoc (take p cs) x (drop (suc (p + g)) cs))

  -- the row behind the gap
  pub without-kept : p + g < length cs → without (p + 1) g (set cs p (chunk_at cs (p + g))) ≡ without p g cs
  without-kept h = set_first (chunk_at cs (p + g)) (omega arith) ∙ (unfold without in ap (λ (t : List ChunkRow). take p cs ++ t) (sym (drop-cons cs (p + g) (read_chunk []) h)))

pub without-none : (p : ℕ) (cs : List ChunkRow) → without p 0 cs ≡ cs
unfolding without
without-none p cs = rw (add-zero, take-append-drop)

-- a new row
pub without-new : (p g : ℕ) (cs : List ChunkRow) (x : ChunkRow) → 1 ≤ g → p + g ≤ length cs → without (p + 1) (g - 1) (set cs p x) ≡ insert_at p x (without p g cs)
unfolding insert_at
without-new p g cs x some h =
    let e : suc (p + (g - 1)) ≡ p + g = omega arith in
    let t : take p (without p g cs) ≡ take p cs = unfold without in take_at (take p cs) (drop (p + g) cs) p (front p g cs h) in
    let d : drop p (without p g cs) ≡ drop (p + g) cs = unfold without in drop_at (take p cs) (drop (p + g) cs) p (front p g cs h) in
    set_first p (g - 1) cs x (omega arith) ∙ rw (e, t, d)

-- the gap opened
pub without-opened : (p g : ℕ) (x : ChunkRow) (cs : List ChunkRow) → p ≤ length cs → without p g (take p cs ++ (replicate g x ++ drop p cs)) ≡ cs
unfolding without
without-opened p g x cs h =
    let f : length (take p cs) ≡ p = length-take-le p cs h in
    let n : length (take p cs ++ replicate g x) ≡ p + g = rw (length-append, f, length-replicate) in
    let d : drop (p + g) (take p cs ++ (replicate g x ++ drop p cs)) ≡ drop p cs = rw (← append_assoc) (drop_at (take p cs ++ replicate g x) (drop p cs) (p + g) n) in
    rw (d, take_at (take p cs) (replicate g x ++ drop p cs) p f, take-append-drop)
