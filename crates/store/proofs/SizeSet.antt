-- A store in which word 3 is 0: no chunk is in use, and no pointer is free. Its chunk size may be set; it stays good and fits.
-- Assumes nothing.
use mathlib.Core.Path.{◌≡◌, refl, sym, ap, ◌∙◌}
use mathlib.Core.Bool.{true}
use mathlib.Core.List.{List, [], ◌∷◌, map}
use Prim.Native.Nat.{ℕ, ◌+◌}
use native.Mathlib.Nat.{zero-mod}
use native.Mathlib.Omega.{arith}
use lib.ListN.{length}
use Rattle.words.specs.Rules.{count}
use Rattle.words.specs.Tables.{Each}
use Rattle.words.proofs.Counting.{none-counted}
use Rattle.allocator.specs.Sizes.{accepted_size}
use Rattle.allocator.specs.Allocator.{free, words_of, with_size}
use Rattle.allocator.proofs.Accounts.{due-none}
use Rattle.allocator.proofs.Sizes.{accepted-bounds}
use Rattle.volume.specs.declared.ChunkRow.{ChunkRow}
use Rattle.volume.specs.Volume.{Store, with_allocator}
use Rattle.volume.specs.Framed.{StoreFits}
use Rattle.volume.specs.Sound.{Stored}
use Rattle.volume.proofs.Framed.{fits-allocator}

module _ (v : Store) (g : Stored v) (none-given : v.allocator.next_ptr ≡ 0) where
  none-stands : (p : ℕ) → count p (map (λ c. c.pointer) v.chunks) + count p (free v.allocator) ≡ 0
  none-stands p = g.pointers p ∙ due-none v.allocator.chunk_size v.allocator.next_ptr p (omega (arith, none-given))

  pub unused : (v.chunks ≡ []) × (free v.allocator ≡ [])
  unused = (
    no_row v.chunks (none-counted (map (λ c. c.pointer) v.chunks) (λ p. omega (arith, none-stands p))),
    none-counted (free v.allocator) (λ p. omega (arith, none-stands p)),
  )
    where
      no_row : (cs : List ChunkRow) → map (λ c. c.pointer) cs ≡ [] → cs ≡ []
      no_row [] e = refl
      no_row (c ∷ cs) e = absurd (omega (arith, ap length e))

module _ (s : ℕ) (v : Store) where
  pub size_fits : StoreFits v → accepted_size s ≡ true → StoreFits (with_allocator (with_size s v.allocator) v)
  unfolding words_of Each
  size_fits f h =
      let b = accepted-bounds s h in
      fits-allocator v f (with_size s v.allocator) f.mark (record { twelve = f.twelve; small = (f.small.0, (omega arith, f.small.1.1)) }) f.words h f.free

  pub size-stored : Stored v → v.allocator.next_ptr ≡ 0 → Stored (with_allocator (with_size s v.allocator) v)
  unfolding free
  size-stored g z =
      record { order = g.order; lined = rw z (zero-mod s); inside = omega (arith, z); enough = omega (arith, z); pointers = λ p. none-stands v g z p ∙ sym (rw z (due-none s 0 p (omega arith))) }
