-- A turn of the loop that reads a text into a room.
-- Assumes nothing.
use Rattle.std.proofs.Common.{◌≡◌, ℕ, ◌+◌, ◌-◌, ◌≤◌, List, ◌++◌, Option, length, take, drop, sym, ap, ◌∙◌, subst, le_refl, drop_at, length-take-le}
use Rattle.std.proofs.lemmas.Slice.{take-put_mid_below}
use Rattle.std.specs.Io.KnownBytes.{Consumes}
use Rattle.std.proofs.KnownBytes.{Consumes-trans}
use borrow.Rule.Slice.PartMut.{put_mid, post_of}
use lib.Seq.{take-add, take-append-le}

-- what stands at the front of the room once a read put n bytes behind the first k
front : (room read : List ℕ) (k n : ℕ) → k ≤ length room → n ≤ length read → take (k + n) (put_mid k (length room - k) room read) ≡ take k room ++ take n read
front room read k n h m =
    let all = put_mid k (length room - k) room read in
    let behind : drop k all ≡ read ++ post_of k (length room - k) room = drop_at (take k room) (read ++ post_of k (length room - k) room) k (length-take-le k room h) in
    take-add k n all ∙ ap (λ l. l ++ take n (drop k all)) (take-put_mid_below _ _ _ _ _ (le_refl _) h) ∙ ap (λ l. take k room ++ take n l) behind ∙ ap (λ l. take k room ++ l) (take-append-le n read (post_of k (length room - k) room) m)

-- a, b and c: what the reader has left at first, before the read and behind it
pub read-turn : (a b c : Option (List ℕ)) (room read : List ℕ) (k n : ℕ) → k ≤ length room → n ≤ length read → Consumes a b (take k room) → Consumes b c (take n read) → Consumes a c (take (k + n) (put_mid k (length room - k) room read))
read-turn a b c room read k n h m p q = subst (Consumes a c) (sym (front room read k n h m)) (Consumes-trans a b c (take k room) (take n read) p q)
