-- Lists that differ by one row in the middle: what holds of the one, and of the other.
-- Assumes nothing.
use mathlib.Core.Path.{◌≡◌, refl, sym, ap, ◌∙◌}
use mathlib.Core.Bool.{Bool, true, false, not, false≢true}
use mathlib.Core.List.{List, [], ◌∷◌, ◌++◌}
use mathlib.Core.Option.{some, none-ne-some}
use Prim.Native.Nat.{ℕ, zero, suc, ◌+◌, ◌<◌}
use native.Mathlib.Nat.{not-suc-le-zero, le_of_suc-le-suc, suc-add}
use native.Mathlib.Omega.{arith}
use lib.ListN.{length, take, drop, get_or}
use Rattle.words.specs.Rules.{pick, bit, times}
use Rattle.words.specs.Tables.{Each, Asc, find, only, insert_at, remove_at}
use Rattle.words.proofs.Order.{each_append, each_left, each_right, each_map, each_at}
use Rattle.words.proofs.Counting.{times-append}

module _ {R : Type 0} where
  -- ---- every row

  module _ (P : R → Type 0) (r : R) (b a : List R) where
    pub each_in : P r → Each P (b ++ a) → Each P (b ++ (r ∷ a))
    unfolding Each
    each_in h e = each_append P b (r ∷ a) (each_left P b a e) (h, each_right P b a e)

    pub each-out : Each P (b ++ (r ∷ a)) → Each P (b ++ a)
    unfolding Each
    each-out e = each_append P b a (each_left P b (r ∷ a) e) (each_right P b (r ∷ a) e).1

    pub each-mid : Each P (b ++ (r ∷ a)) → P r
    unfolding Each
    each-mid e = (each_right P b (r ∷ a) e).0

  -- ---- pairs of rows

  module _ (lt : R → R → Type 0) (r : R) where
    pub asc-out : (b a : List R) → Asc lt (b ++ (r ∷ a)) → Asc lt (b ++ a)
    unfolding Asc Each
    asc-out [] a h = h.1
    asc-out (x ∷ b) a h = (each-out (lt x) r b a h.0, asc-out b a h.1)

    pub asc-in : (b a : List R) → Asc lt (b ++ a) → Each (λ x. lt x r) b → Each (lt r) a → Asc lt (b ++ (r ∷ a))
    unfolding Asc Each
    asc-in [] a h p q = (q, h)
    asc-in (x ∷ b) a h p q = (each_in (lt x) r b a p.0 h.0, asc-in b a h.1 p.1 q)

    -- rows before stand in the relation to it, and it to those behind
    pub asc-before : (b a : List R) → Asc lt (b ++ (r ∷ a)) → Each (λ x. lt x r) b
    unfolding Asc Each
    asc-before [] a h = tt
    asc-before (x ∷ b) a h = (each-mid (lt x) r b a h.0, asc-before b a h.1)

    pub asc-behind : (b a : List R) → Asc lt (b ++ (r ∷ a)) → Each (lt r) a
    unfolding Asc Each
    asc-behind [] a h = h.0
    asc-behind (x ∷ b) a h = asc-behind b a h.1

  -- ---- counts

  pub times-in : (f : R → Bool) (r : R) (b a : List R) → times f (b ++ (r ∷ a)) ≡ bit (f r) + times f (b ++ a)
  unfolding times
  times-in f r b a = rw (times-append f b (r ∷ a), times-append f b a) (omega arith)

  pub length-in : (r : R) (b a : List R) → length (b ++ (r ∷ a)) ≡ suc (length (b ++ a))
  length-in r [] a = refl
  length-in r (x ∷ b) a = ap suc (length-in r b a)

  -- ---- a row looked up

  module _ (t : R → Bool) (r : R) where
    -- one that fails the test is passed over
    pub find-passed : (b a : List R) → t r ≡ false → find t (b ++ (r ∷ a)) ≡ find t (b ++ a)
    unfolding find pick
    find-passed [] a e = rw e
    find-passed (x ∷ b) a e = rw (find-passed b a e)

  -- ---- a row put in is one in the middle

  pub put_in : (p : ℕ) (r : R) (rs : List R) → insert_at p r rs ≡ take p rs ++ (r ∷ drop p rs)
  unfolding insert_at
  put_in p r rs = refl

  -- ---- the row that a test finds, alone in passing it: the list in three parts

  pub record Alone (t : R → Bool) (rs : List R) (r : R) : Type 0 where
    pub before : List R
    pub behind : List R
    pub whole : rs ≡ before ++ (r ∷ behind)
    pub gone : only (λ s. not (t s)) rs ≡ before ++ behind
    pub passes : t r ≡ true
    pub earlier : Each (λ s. t s ≡ false) before
    pub later : Each (λ s. t s ≡ false) behind

  module _ (t : R → Bool) where
    -- rows that all fail it stay
    fail-stay : (rs : List R) → Each (λ s. t s ≡ false) rs → only (λ s. not (t s)) rs ≡ rs
    unfolding only pick Each
    fail-stay [] h = refl
    fail-stay (r ∷ rs) h = rw h.0 (ap (λ (l : List R). r ∷ l) (fail-stay rs h.1))

    -- behind a row that passes it, where no two do
    others-fail : (r : R) (rs : List R) → t r ≡ true → Each (λ y. t r ≡ true → t y ≡ false) rs → Each (λ s. t s ≡ false) rs
    others-fail r rs e h = each_map (λ y. t r ≡ true → t y ≡ false) (λ s. t s ≡ false) (λ s k. k e) rs h

    -- a row found, where no two pass the test
    pub alone : (rs : List R) (r : R) → find t rs ≡ some r → Asc (λ x y. t x ≡ true → t y ≡ false) rs → Alone t rs r
    unfolding find only pick Asc Each
    alone [] r e a = absurd (none-ne-some r e)
    alone (s ∷ rs) r e a = go (t s) refl e (λ z. alone rs r z a.1)
      where
        go : (b : Bool) → t s ≡ b → pick b (some s) (find t rs) ≡ some r → (find t rs ≡ some r → Alone t rs r) → Alone t (s ∷ rs) r
        go true q z ih =
            let k : s ≡ r = cc in
            let h : Each (λ x. t x ≡ false) rs = others-fail s rs q a.0 in
            record {
              before = [];
              behind = rs;
              whole = ap (λ (x : R). x ∷ rs) k;
              gone = rw q (fail-stay rs h);
              passes = rw (← k) q;
              earlier = tt;
              later = h;
            }
        go false q z ih =
            let i = ih z in
            record {
              before = s ∷ i.before;
              behind = i.behind;
              whole = ap (λ (l : List R). s ∷ l) i.whole;
              gone = rw q (ap (λ (l : List R). s ∷ l) i.gone);
              passes = i.passes;
              earlier = (q, i.earlier);
              later = i.later;
            }

    -- the same by its place, as code removes it
    pub alone_at : (d : R) (rs : List R) (i : ℕ) → i < length rs → t (get_or rs i d) ≡ true → Asc (λ x y. t x ≡ true → t y ≡ false) rs → only (λ s. not (t s)) rs ≡ remove_at i rs
    unfolding only pick Asc remove_at
    alone_at d [] i b e a = absurd (not-suc-le-zero b)
    alone_at d (r ∷ rs) zero b e a = rw e (fail-stay rs (others-fail r rs e a.0))
    alone_at d (r ∷ rs) (suc i) b e a = go (t r) refl (alone_at d rs i (le_of_suc-le-suc b) e a.1)
      where
        go : (c : Bool) → t r ≡ c → only (λ s. not (t s)) rs ≡ remove_at i rs → pick (not c) (r ∷ only (λ s. not (t s)) rs) (only (λ s. not (t s)) rs) ≡ remove_at (suc i) (r ∷ rs)
        go true q ih = absurd (false≢true (sym (each_at (λ y. t r ≡ true → t y ≡ false) rs i d a.0 (le_of_suc-le-suc b) q) ∙ e))
        go false q ih = rw suc-add (ap (λ (l : List R). r ∷ l) ih)

  -- ---- two things that hold of every row

  pub each-pair : (P Q : R → Type 0) (rs : List R) → Each P rs → Each Q rs → Each (λ r. P r × Q r) rs
  unfolding Each
  each-pair P Q [] p q = tt
  each-pair P Q (r ∷ rs) p q = ((p.0, q.0), each-pair P Q rs p.1 q.1)
