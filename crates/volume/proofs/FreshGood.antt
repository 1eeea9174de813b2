-- A new volume fits into bytes, and what its tables say is good.
-- Assumes nothing.
use mathlib.Core.Path.{◌≡◌, refl}
use mathlib.Core.Bool.{true}
use Prim.Native.Nat.{ℕ, zero, suc, ◌-◌, ◌^◌, ◌<◌}
use native.Mathlib.Nat.{zero-mod}
use native.Mathlib.Omega.{arith}
use Rattle.words.specs.Bytes.{zeros}
use Rattle.words.specs.Rules.{pick, bit, times}
use Rattle.words.specs.Tables.{Each, Asc, find}
use Rattle.words.proofs.Parts.{length-zeros}
use Rattle.words.proofs.Order.{each_append}
use Rattle.words.proofs.Counting.{count_none}
use Rattle.allocator.specs.Sizes.{accepted_size}
use Rattle.allocator.specs.Allocator.{words_of, free}
use Rattle.allocator.proofs.Sizes.{accepted-bounds}
use Rattle.allocator.proofs.Accounts.{due-none}
use Rattle.volume.specs.Volume.{at_bytes}
use Rattle.volume.specs.Framed.{Placed, Fits}
use Rattle.volume.specs.Fresh.{fresh_allocator, fresh, fresh_laid}
use Rattle.volume.specs.Sound.{node, naming, entries_of, Good, Sound}
use Rattle.volume.proofs.Laid.{shown-laid}
use Rattle.volume.proofs.Framed.{framed-laid}

each-zero : (P : ℕ → Type 0) → P 0 → (n : ℕ) → Each P (zeros n)
unfolding Each zeros
each-zero P p zero = tt
each-zero P p (suc n) = (p, each-zero P p n)

small-words : (c s : ℕ) → s < 2 ^ 64 → Each (λ w. w < 2 ^ 64) (words_of (fresh_allocator c s))
unfolding words_of Each
small-words c s h =
    let z : 0 < 2 ^ 64 = omega arith in
    (omega arith, (h, (z, (z, each_append (λ w. w < 2 ^ 64) (zeros 12) (zeros c) (each-zero (λ w. w < 2 ^ 64) z 12) (each-zero (λ w. w < 2 ^ 64) z c)))))

pub fits_fresh : (n e c s size : ℕ) → Placed n e c size → accepted_size s ≡ true → Fits (fresh n e c s (size - at_bytes n e c))
unfolding fresh Each
fits_fresh n e c s size p h =
    let b = accepted-bounds s h in
    record {
      names = record {
        node_room = p.nodes;
        entry_room = p.entries;
        next_node = omega arith;
        nodes = p.nodes.0;
        entries = omega arith;
        node_rows = (record { node = omega arith; links = omega arith; size = omega arith; limit = omega arith }, tt);
        entry_rows = tt;
      };
      store = record {
        chunk_room = p.chunks;
        long = rw length-zeros (omega (arith, p.long));
        chunks = omega arith;
        mark = refl;
        twelve = length-zeros 12;
        words = length-zeros c;
        small = small-words c s (omega arith);
        size = h;
        free = omega arith;
        chunk_rows = tt;
      };
    }

pub good-fresh : (n e c s area : ℕ) → Good (fresh n e c s area)
unfolding fresh Each Asc node find pick naming entries_of times free bit
good-fresh n e c s area =
    record {
      named = record {
        node_order = (tt, tt);
        entry_order = tt;
        indexes = tt;
        fresh = (omega arith, tt);
        root = refl;
        unnamed = refl;
        names = tt;
        parents = tt;
        targets = tt;
        once = tt;
        nodes = (record { named = λ e. omega arith; unlimited = λ e. refl; entries = λ e. refl; unlinked = λ e k. refl; links = refl; size = omega arith }, tt);
      };
      stored = record { order = tt; lined = zero-mod s; inside = omega arith; enough = omega arith; pointers = λ p. omega (arith, due-none s 0 p (omega arith), count_none p) };
      owned = tt;
    }

-- a new volume is sound
pub new-sound : (n e c s size : ℕ) → Placed n e c size → accepted_size s ≡ true → Sound (fresh_laid n e c s size)
unfolding fresh_laid
new-sound n e c s size p h =
    let f = fits_fresh n e c s size p h in
    record { framed = framed-laid (fresh n e c s (size - at_bytes n e c)) f; good = rw (shown-laid (fresh n e c s (size - at_bytes n e c)) f) (good-fresh n e c s (size - at_bytes n e c)) }
