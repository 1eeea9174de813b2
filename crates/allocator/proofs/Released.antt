-- Laws of `released`: pointers freed one after another, over any allocator.
-- Assumes nothing.
use mathlib.Core.Path.{◌≡◌, refl, sym, ap, ◌∙◌}
use mathlib.Core.List.{List, [], ◌∷◌, ◌++◌, append-nil, append_assoc}
use Prim.Native.Nat.{ℕ, ◌+◌, ◌^◌, ◌≤◌, ◌<◌}
use native.Mathlib.Nat.{add-zero}
use native.Mathlib.Omega.{arith}
use lib.Dec.{eqb}
use lib.ListN.{length, set, length-set}
use Rattle.words.specs.Rules.{bit, count}
use Rattle.words.specs.Tables.{Each}
use Rattle.words.proofs.Counting.{count-cons, count_none, count-append}
use Rattle.allocator.specs.Pointers.{due, Accounted}
use Rattle.words.proofs.Order.{each_append, each_left, each_right, each_set}
use Rattle.allocator.specs.Allocator.{Allocator, free, release, words_of, released}
use Rattle.allocator.proofs.Accounts.{freed-words}
use Rattle.allocator.proofs.Laid.{WordsFit}

-- what freeing so many pointers makes of an allocator, but for which ones are free
pub record Freed (k : ℕ) (a b : Allocator) : Type 0 where
  pub mark : b.mark ≡ a.mark
  pub size : b.chunk_size ≡ a.chunk_size
  pub next : b.next_ptr ≡ a.next_ptr
  pub unread : b.unread ≡ a.unread
  pub words : length b.words ≡ length a.words
  pub count : b.free_count ≡ a.free_count + k

pub freed-all : (ps : List ℕ) (a : Allocator) → Freed (length ps) a (released ps a)
unfolding released release
freed-all [] a = record { mark = refl; size = refl; next = refl; unread = refl; words = refl; count = sym (add-zero a.free_count) }
freed-all (p ∷ ps) a =
    let h = freed-all ps (release p a) in
    record { mark = h.mark; size = h.size; next = h.next; unread = h.unread; words = h.words ∙ length-set a.words a.free_count p; count = omega (arith, h.count) }

-- they come behind those that were free
pub free_all : (ps : List ℕ) (a : Allocator) → a.free_count + length ps ≤ length a.words → free (released ps a) ≡ free a ++ ps
unfolding released
free_all [] a h = sym (append-nil (free a))
free_all (p ∷ ps) a h =
    free_all ps (release p a) fits
    ∙ ap (λ (l : List ℕ). l ++ ps) (freed-words a p (omega arith)) ∙ append_assoc (free a) (p ∷ []) ps
  where
    fits : (release p a).free_count + length ps ≤ length (release p a).words
    fits = unfold release in omega (arith, length-set a.words a.free_count p)

-- the pointers freed are some of the live ones, and the others stay
pub released-accounts : (a : Allocator) (ps live others : List ℕ) → a.free_count + length ps ≤ length a.words → ((q : ℕ) → count q live ≡ count q ps + count q others) → Accounted a live → Accounted (released ps a) others
unfolding Accounted
released-accounts a ps live others h apart acc q =
    let f = freed-all ps a in
    let c : count q (free (released ps a)) ≡ count q (free a) + count q ps = ap (count q) (free_all ps a h) ∙ count-append q (free a) ps in
    let d : due (released ps a).chunk_size (released ps a).next_ptr q ≡ due a.chunk_size a.next_ptr q = rw (f.size, f.next) in
    omega (arith, acc q, apart q)

-- one of them
pub release-accounts : (a : Allocator) (p : ℕ) (live others : List ℕ) → a.free_count < length a.words → ((q : ℕ) → count q live ≡ bit (eqb p q) + count q others) → Accounted a live → Accounted (release p a) others
unfolding released
release-accounts a p live others h apart acc = released-accounts a (p ∷ []) live others (omega arith) (λ q. omega (arith, apart q, count-cons q p [], count_none q)) acc

-- one more freed, the last
pub release-last : (ps : List ℕ) (p : ℕ) (a : Allocator) → released (ps ++ (p ∷ [])) a ≡ release p (released ps a)
unfolding released
release-last [] p a = refl
release-last (q ∷ ps) p a = release-last ps p (release q a)

-- ---- words that are numbers of 64 bits

release-fits : (p : ℕ) (a : Allocator) → p < 2 ^ 64 → a.free_count + 1 < 2 ^ 64 → WordsFit a → WordsFit (release p a)
unfolding release words_of Each
release-fits p a h k f =
    let s = f.small in
    record {
      twelve = f.twelve;
      small = (
        s.0,
        (
          s.1.0,
          (
            k,
            (
              s.1.1.1.0,
              each_append (λ w. w < 2 ^ 64) a.unread (set a.words a.free_count p) (each_left (λ w. w < 2 ^ 64) a.unread a.words s.1.1.1.1)
                  (each_set (λ w. w < 2 ^ 64) a.words a.free_count p (each_right (λ w. w < 2 ^ 64) a.unread a.words s.1.1.1.1) h),
            ),
          ),
        ),
      );
    }

pub all_fit : (ps : List ℕ) (a : Allocator) → Each (λ p. p < 2 ^ 64) ps → a.free_count + length ps < 2 ^ 64 → WordsFit a → WordsFit (released ps a)
unfolding released Each
all_fit [] a h k f = f
all_fit (p ∷ ps) a h k f = all_fit ps (release p a) h.1 fits (release-fits p a h.0 (omega arith) f)
  where
    fits : (release p a).free_count + length ps < 2 ^ 64
    fits = unfold release in omega arith
