-- The allocator's words of a sound volume: their chunk size is accepted, they can be opened by themselves, and open leaves them.
-- Assumes nothing.
use mathlib.Core.Path.{◌≡◌, ◌∙◌}
use mathlib.Core.Bool.{true}
use mathlib.Core.List.{List, map}
use Prim.Native.Nat.{ℕ, ◌+◌, ◌%◌, ◌≤◌}
use native.Mathlib.Omega.{arith}
use Rattle.words.specs.Bytes.{word}
use Rattle.words.proofs.Numbers.{num-part}
use Rattle.types.specs.Outcomes.{done}
use Rattle.allocator.specs.Allocator.{marker, read_allocator}
use Rattle.allocator.specs.Sizes.{accepted_size}
use Rattle.allocator.specs.Pointers.{Accounted}
use Rattle.allocator.specs.Opening.{openable, opened}
use Rattle.allocator.proofs.OpenWords.{words-openable, words_opened}
use Rattle.volume.specs.Header.{at_chunk_room}
use Rattle.volume.specs.Volume.{shown, at_allocator, allocator_size, words_in}
use Rattle.volume.specs.Framed.{Framed}
use Rattle.volume.specs.Sound.{Sound}
use Rattle.volume.proofs.Laid.{allocator-formed}

word_in : (l : List ℕ) (at : ℕ) → at + 8 ≤ 128 → word (words_in l) at ≡ word l (at_allocator + at)
word_in l at h = num-part 8 l at_allocator (allocator_size (word l at_chunk_room)) at (omega arith)

-- the chunk size that framed bytes show
pub size-accepted : (l : List ℕ) → Framed l → accepted_size (shown l).store.allocator.chunk_size ≡ true
unfolding shown read_allocator
size-accepted l f = rw (word_in l 8 (omega arith)) f.marked.size

module _ (l : List ℕ) (s : Sound l) where
  mark : word (words_in l) 0 ≡ marker
  mark = word_in l 0 (omega arith) ∙ s.framed.marked.mark

  size : accepted_size (word (words_in l) 8) ≡ true
  size = unfold shown read_allocator in size-accepted l s.framed

  lined : word (words_in l) 24 % word (words_in l) 8 ≡ 0
  lined = unfold shown read_allocator in s.good.stored.lined

  abbrev live : List ℕ
  live = map (λ c. c.pointer) (shown l).store.chunks

  account : Accounted (read_allocator (words_in l)) live
  unfolding Accounted shown
  account = s.good.stored.pointers

  pub sound-openable : openable (words_in l) ≡ true
  sound-openable = words-openable (words_in l) (allocator-formed l s.framed) mark size lined live account

  pub sound-opened : opened (words_in l) ≡ done 0 (words_in l)
  sound-opened = words_opened (words_in l) (allocator-formed l s.framed) mark size lined live account
