-- Laws of `Each` and `Asc`.
-- Assumes nothing.
use mathlib.Core.Path.{◌≡◌, refl, ap}
use mathlib.Core.Bool.{Bool, true, false}
use mathlib.Core.List.{List, [], ◌∷◌, ◌++◌}
use Prim.Native.Nat.{ℕ, zero, suc, ◌+◌, ◌<◌}
use native.Mathlib.Nat.{not-suc-le-zero, le_of_suc-le-suc, zero-add, suc-add}
use lib.ListN.{set, length, take, drop, get_or}
use Rattle.words.specs.Tables.{insert_at, lead, lead_of, Each, Asc}

pub each_at : {R : Type 0} (P : R → Type 0) (rs : List R) (i : ℕ) (d : R) → Each P rs → i < length rs → P (get_or rs i d)
unfolding Each
each_at P [] i d h b = absurd (not-suc-le-zero b)
each_at P (r ∷ rs) zero d h b = h.0
each_at P (r ∷ rs) (suc i) d h b = each_at P rs i d h.1 (le_of_suc-le-suc b)

pub each_append : {R : Type 0} (P : R → Type 0) (a b : List R) → Each P a → Each P b → Each P (a ++ b)
unfolding Each
each_append P [] b h k = k
each_append P (r ∷ a) b h k = (h.0, each_append P a b h.1 k)

pub each_left : {R : Type 0} (P : R → Type 0) (a b : List R) → Each P (a ++ b) → Each P a
unfolding Each
each_left P [] b h = tt
each_left P (r ∷ a) b h = (h.0, each_left P a b h.1)

pub each_right : {R : Type 0} (P : R → Type 0) (a b : List R) → Each P (a ++ b) → Each P b
unfolding Each
each_right P [] b h = h
each_right P (r ∷ a) b h = each_right P a b h.1

pub each_take : {R : Type 0} (P : R → Type 0) (n : ℕ) (a : List R) → Each P a → Each P (take n a)
unfolding Each
each_take P zero a h = tt
each_take P (suc n) [] h = tt
each_take P (suc n) (r ∷ a) h = (h.0, each_take P n a h.1)

pub each-drop : {R : Type 0} (P : R → Type 0) (n : ℕ) (a : List R) → Each P a → Each P (drop n a)
unfolding Each
each-drop P zero a h = h
each-drop P (suc n) [] h = tt
each-drop P (suc n) (r ∷ a) h = each-drop P n a h.1

pub each-insert : {R : Type 0} (P : R → Type 0) (p : ℕ) (r : R) (rs : List R) → P r → Each P rs → Each P (insert_at p r rs)
unfolding Each insert_at
each-insert P p r rs h k = each_append P (take p rs) (r ∷ drop p rs) (each_take P p rs k) (h, each-drop P p rs k)

pub each_map : {R : Type 0} (P Q : R → Type 0) (f : (r : R) → P r → Q r) (rs : List R) → Each P rs → Each Q rs
unfolding Each
each_map P Q f [] h = tt
each_map P Q f (r ∷ rs) h = (f r h.0, each_map P Q f rs h.1)

-- after one was set
pub each_set : {R : Type 0} (P : R → Type 0) (rs : List R) (i : ℕ) (r : R) → Each P rs → P r → Each P (set rs i r)
unfolding Each
each_set P [] i r h k = tt
each_set P (q ∷ rs) zero r h k = (k, h.1)
each_set P (q ∷ rs) (suc i) r h k = (h.0, each_set P rs i r h.1 k)

-- ---- order

module _ {R : Type 0} (lt : R → R → Type 0) (trans : (a b c : R) → lt a b → lt b c → lt a c) where
  module _ (f : R → Bool) (x : R) (below : (r : R) → f r ≡ true → lt r x) where
    insert-asc-of : (t : Bool) (r : R) (rs : List R) → f r ≡ t → Asc lt (r ∷ rs) → (f r ≡ false → lt x r) → Asc lt (insert_at (lead f rs) x rs) → Asc lt (insert_at (lead_of t (lead f rs)) x (r ∷ rs))
    unfolding Asc Each insert_at lead_of
    insert-asc-of true r rs e a n i = (each-insert (lt r) (lead f rs) x rs (below r e) a.0, i)
    insert-asc-of false r rs e a n i = ((n e, each_map (lt r) (lt x) (λ s p. trans x r s (n e) p) rs a.0), a)

    pub insert-asc : (rs : List R) → Asc lt rs → Each (λ r. f r ≡ false → lt x r) rs → Asc lt (insert_at (lead f rs) x rs)
    unfolding Asc Each insert_at lead
    insert-asc [] a n = (tt, tt)
    insert-asc (r ∷ rs) a n = insert-asc-of (f r) r rs refl a n.0 (insert-asc rs a.1 n.1)

pub asc-map : {R : Type 0} (lt ls : R → R → Type 0) → ((a b : R) → lt a b → ls a b) → (rs : List R) → Asc lt rs → Asc ls rs
unfolding Asc
asc-map lt ls f [] a = tt
asc-map lt ls f (r ∷ rs) a = (each_map (lt r) (ls r) (f r) rs a.0, asc-map lt ls f rs a.1)

-- a store behind the seam of two lists
pub set-append-add : {R : Type 0} (xs ys : List R) (n : ℕ) (a : R) → set (xs ++ ys) (length xs + n) a ≡ xs ++ set ys n a
set-append-add [] ys n a = rw zero-add
set-append-add {R = R} (x ∷ xs) ys n a = rw suc-add (ap (λ (r : List R). x ∷ r) (set-append-add xs ys n a))
