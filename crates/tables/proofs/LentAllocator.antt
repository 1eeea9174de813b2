-- The allocator's words as the part of the volume that is lent, and what a call on them makes of the volume.
-- Assumes nothing.
use Rattle.std.specs.Prelude.{}
use mathlib.Core.Path.{◌≡◌, refl, ap, ◌∙◌}
use mathlib.Core.Bool.{Bool, true, false}
use mathlib.Core.List.{List, ◌++◌}
use Prim.Native.Nat.{ℕ, ◌+◌, ◌-◌, ◌*◌, ◌≤◌}
use native.Mathlib.Omega.{arith}
use lib.Count.{ones}
use lib.ListN.{length, take, drop, length-set}
use Rattle.words.specs.Bytes.{part, word}
use Rattle.words.specs.Rules.{pick}
use Rattle.words.proofs.Parts.{length_part, lent_at}
use Rattle.types.specs.Answers.{Answer}
use Rattle.allocator.specs.Allocator.{Allocator, AllocatorStep, read_allocator, lay_allocator, allocate, release, set_chunk_size}
use Rattle.allocator.specs.Words.{WordsFormed}
use Rattle.allocator.proofs.Sizes.{accepted-bounds, accepted-one}
use Rattle.allocator.proofs.Allocated.{allocate-rest}
use Rattle.volume.specs.Header.{at_chunk_room}
use Rattle.volume.specs.declared.Layout.{Layout}
use Rattle.volume.specs.Framed.{Framed}
use Rattle.volume.specs.Volume.{words_in, shown, laid, with_allocator, on_store}
use Rattle.volume.proofs.Laid.{spaced, length-allocator, allocator-formed}
use Rattle.volume.proofs.Framed.{framed-laid, spaced-allocator}
use Rattle.volume.proofs.AreaWrites.{write-allocator}
use Rattle.tables.specs.Tables.{Ready}
use Rattle.tables.proofs.ReadyVolume.{rooms}

-- ---- a call keeps the number of words

pub record Kept (a b : Allocator) : Type 0 where
  pub unread : length b.unread ≡ length a.unread
  pub words : length b.words ≡ length a.words

pub allocate-keeps : (a : Allocator) → Kept a (allocate a).after
allocate-keeps a = let h = allocate-rest a in record { unread = ap length h.unread; words = ap length h.words }

pub release-keeps : (p : ℕ) (a : Allocator) → Kept a (release p a)
unfolding release
release-keeps p a = record { unread = refl; words = length-set a.words a.free_count p }

same : (a : Allocator) → Kept a a
same a = record { unread = refl; words = refl }

keeps-either : (a : Allocator) (b : Bool) (x y : AllocatorStep) → Kept a x.after → Kept a y.after → Kept a (pick b x y).after
unfolding pick
keeps-either a true x y p q = p
keeps-either a false x y p q = q

pub size-keeps : (s : ℕ) (a : Allocator) → Kept a (set_chunk_size s a).after
unfolding set_chunk_size
size-keeps s a = keeps-either a _ _ _ (keeps-either a _ _ _ (same a) (keeps-either a _ _ _ (record { unread = refl; words = refl }) (same a))) (same a)

module _ (l : List ℕ) (y : Layout) (r : Ready l y) where
  words_long : length (words_in l) ≡ 128 + 8 * word l at_chunk_room
  words_long = length_part l 64 (128 + 8 * word l at_chunk_room) (omega (arith, rooms l y r))

  -- the part that is lent of the volume
  abbrev pub lent_words : List ℕ
  lent_words = take (y.nodes - 64) (drop 64 l)

  pub words-lent : lent_words ≡ words_in l
  unfolding part
  words-lent = let e : y.nodes - 64 ≡ 128 + 8 * word l at_chunk_room = omega (arith, rooms l y r) in rw e

  pub lent-long : length lent_words ≡ 128 + 8 * word l at_chunk_room
  lent-long = ap length words-lent ∙ words_long

  pub lent-read : read_allocator lent_words ≡ (shown l).store.allocator
  unfolding shown
  lent-read = ap read_allocator words-lent

  pub lent-size : word lent_words 8 ≡ (shown l).store.allocator.chunk_size
  lent-size = unfold read_allocator in ap (λ a. a.chunk_size) lent-read

  pub lent-count : word lent_words 16 ≡ (shown l).store.allocator.free_count
  lent-count = unfold read_allocator in ap (λ a. a.free_count) lent-read

  pub lent-next : word lent_words 24 ≡ (shown l).store.allocator.next_ptr
  lent-next = unfold read_allocator in ap (λ a. a.next_ptr) lent-read

  pub size-bounds : (4096 ≤ (shown l).store.allocator.chunk_size) × ((shown l).store.allocator.chunk_size ≤ 65536)
  size-bounds = accepted-bounds (shown l).store.allocator.chunk_size r.formed.fits.store.size

  -- and the one bit of it that is set
  pub size-one : {s : ℕ} → s ≡ (shown l).store.allocator.chunk_size → ones s ≡ 1
  size-one e = ap ones e ∙ accepted-one (shown l).store.allocator.chunk_size r.formed.fits.store.size

  pub framed : Framed l
  framed = rw r.formed.same at (framed-laid (shown l) r.formed.fits)

  pub lent-formed : WordsFormed lent_words
  lent-formed = rw words-lent (allocator-formed l framed)

  -- what a call on them leaves of the volume
  lent-after : (a : Allocator) {m : List ℕ} → Kept (shown l).store.allocator a → m ≡ lay_allocator a → take 64 l ++ (m ++ drop (y.nodes - 64) (drop 64 l)) ≡ laid (on_store (with_allocator a) (shown l))
  lent-after a {m} k e =
      let v = shown l in
      let f = r.formed.fits in
      let u : length a.unread ≡ 12 = k.unread ∙ f.store.twelve in
      let w : length a.words ≡ v.store.chunk_room = k.words ∙ f.store.words in
      let n : y.nodes - 64 ≡ 64 + length (lay_allocator a) - 64 = omega (arith, rooms l y r, length-allocator (on_store (with_allocator a) v) (spaced-allocator v (spaced v f) a u w), room) in
      rw n (lent_at l 64 (length (lay_allocator a)) m (lay_allocator a) e refl ∙ rw r.formed.same at (write-allocator v (spaced v f) a u w))
    where
      room : (shown l).store.chunk_room ≡ word l at_chunk_room
      room = unfold shown in refl

  pub allocated : {p : ℕ} {m : List ℕ} → (p ≡ (allocate (read_allocator lent_words)).pointer) × (m ≡ lay_allocator (allocate (read_allocator lent_words)).after)
      → (p ≡ (allocate (shown l).store.allocator).pointer) × (take 64 l ++ (m ++ drop (y.nodes - 64) (drop 64 l)) ≡ laid (on_store (with_allocator (allocate (shown l).store.allocator).after) (shown l)))
  allocated e =
      let a = (shown l).store.allocator in
      (e.0 ∙ ap (λ z. (allocate z).pointer) lent-read, lent-after (allocate a).after (allocate-keeps a) (e.1 ∙ ap (λ z. lay_allocator (allocate z).after) lent-read))

  pub freed : (p : ℕ) {m : List ℕ} → m ≡ lay_allocator (release p (read_allocator lent_words)) → take 64 l ++ (m ++ drop (y.nodes - 64) (drop 64 l)) ≡ laid (on_store (with_allocator (release p (shown l).store.allocator)) (shown l))
  freed p e =
      let a = (shown l).store.allocator in
      lent-after (release p a) (release-keeps p a) (e ∙ ap (λ z. lay_allocator (release p z)) lent-read)

  pub resized : (s : ℕ) {o : Answer} {m : List ℕ} → (o ≡ (set_chunk_size s (read_allocator lent_words)).answer) × (m ≡ lay_allocator (set_chunk_size s (read_allocator lent_words)).after)
      → (o ≡ (set_chunk_size s (shown l).store.allocator).answer) × (take 64 l ++ (m ++ drop (y.nodes - 64) (drop 64 l)) ≡ laid (on_store (with_allocator (set_chunk_size s (shown l).store.allocator).after) (shown l)))
  resized s e =
      let a = (shown l).store.allocator in
      (e.0 ∙ ap (λ z. (set_chunk_size s z).answer) lent-read, lent-after (set_chunk_size s a).after (size-keeps s a) (e.1 ∙ ap (λ z. lay_allocator (set_chunk_size s z).after) lent-read))
