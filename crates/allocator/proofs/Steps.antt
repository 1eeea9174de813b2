-- Each call of the allocator, from what it read and wrote to what it makes of the record.
-- Assumes nothing.
use Rattle.std.specs.Prelude.{Option, Some, None, Ok, Err}
use mathlib.Core.Path.{◌≡◌, refl, sym, ap, ◌∙◌}
use mathlib.Core.Bool.{Bool, true, false}
use mathlib.Core.List.{List}
use Prim.Native.Nat.{ℕ, ◌+◌, ◌-◌, ◌*◌, ◌/◌, ◌≤◌}
use native.Mathlib.Omega.{arith}
use lib.Dec.{eqb}
use lib.ListN.{length, get_or, set}
use borrow.Author.Tests.{eq-eqb, ne_eqb, eqb-true, eqb-false}
use Rattle.words.specs.Bytes.{over, spell, word, Bytes}
use Rattle.words.proofs.Rules.{pick_true, pick-false}
use Rattle.words.proofs.Tables.{length-table, table_at}
use Rattle.types.specs.Answers.{Answer}
use Rattle.types.specs.declared.Error.TheVariants.{InvalidArgument}
use Rattle.allocator.specs.Sizes.{accepted_size}
use Rattle.allocator.specs.Allocator.{AllocatorStep, read_allocator, lay_allocator, read_word, with_size, with_words, allocate, release, set_chunk_size}
use Rattle.allocator.specs.Words.{WordsFormed, last_free, without_last}
use Rattle.allocator.proofs.AllocateCases.{takes-new, takes-last}
use Rattle.allocator.proofs.Laid.{first_word, laid-again, read_fits, put-size, put_count, put_next, put-free}

-- ---- the last free pointer

pub none_free : (l : List ℕ) → word l 16 ≡ 0 → (None ≡ last_free l) × (l ≡ without_last l)
unfolding last_free without_last
none_free l e = (pick_true _ _ _ _ (eq-eqb _ _ e) refl, pick_true _ _ _ _ (eq-eqb _ _ e) refl)

pub some-free : (l : List ℕ) {n p : ℕ} {m : List ℕ} → n ≡ word l 16 → (n ≡ 0 → ⊥) → p ≡ word l (128 + 8 * (n - 1)) → m ≡ over l 16 (spell 8 (n - 1)) → (Some p ≡ last_free l) × (m ≡ without_last l)
unfolding last_free without_last
some-free l e h p q =
    let z : eqb (word l 16) 0 ≡ false = ne_eqb _ _ (λ k. h (e ∙ k)) in
    (pick-false _ _ _ _ z (rw (p, e)), pick-false _ _ _ _ z (rw (q, e)))

pub no_last : (l : List ℕ) → None ≡ last_free l → word l 16 ≡ 0
no_last l h = go (eqb (word l 16) 0) refl
  where
    go : (t : Bool) → eqb (word l 16) 0 ≡ t → word l 16 ≡ 0
    go true z = eqb-true _ _ z
    go false z =
        let s = (some-free l {n = word l 16} {p = word l (128 + 8 * (word l 16 - 1))} refl (eqb-false _ _ z) refl refl).0 in
        let c : ◌≡◌ {A = ℕ} 0 1 = cc in
        absurd (omega arith)

module _ (l : List ℕ) (b : Bytes l) (f : WordsFormed l) where
  -- bytes written over l are written over its record's
  over-l : (at : ℕ) (bs : List ℕ) → over l at bs ≡ over (lay_allocator (read_allocator l)) at bs
  over-l at bs = ap (λ (m : List ℕ). over m at bs) (sym (laid-again l b f))

  words_count : length (read_allocator l).words ≡ length l / 8 - 16
  unfolding read_allocator
  words_count = length-table read_word 8 l 128 (length l / 8 - 16)

  pub pointer-at : (k : ℕ) → 128 + 8 * k + 8 ≤ length l → word l (128 + 8 * k) ≡ get_or (read_allocator l).words k 0
  unfolding read_allocator
  pointer-at k h = sym (table_at read_word 8 l 128 (length l / 8 - 16) k 0 (omega (arith, f.whole)) ∙ first_word l (128 + 8 * k))

  pub grow : {r : ℕ} {m n : List ℕ} → word l 16 ≡ 0 → m ≡ without_last l → r ≡ word m 24 → n ≡ over m 24 (spell 8 (word m 24 + word m 8))
      → (r ≡ (allocate (read_allocator l)).pointer) × (n ≡ lay_allocator (allocate (read_allocator l)).after)
  unfolding read_allocator allocate
  grow {r} {m} {n} e p q s =
      let k : m ≡ l = p ∙ sym (none_free l e).1 in
      let a = takes-new (read_allocator l) e in (
        q ∙ ap (λ (z : List ℕ). word z 24) k ∙ ap (λ t. t.pointer) (sym a),
        s ∙ ap (λ (z : List ℕ). over z 24 (spell 8 (word z 24 + word z 8))) k ∙ over-l 24 _ ∙ put_next (read_allocator l) (read_fits l b f).twelve _ ∙ ap (λ t. lay_allocator t.after) (sym a),
      )

  pub pop : {p : ℕ} {r : Option ℕ} {m : List ℕ} → r ≡ Some p → r ≡ last_free l → m ≡ without_last l
      → (p ≡ (allocate (read_allocator l)).pointer) × (m ≡ lay_allocator (allocate (read_allocator l)).after)
  unfolding read_allocator allocate
  pop {p} {r} {m} e h w = go (eqb (word l 16) 0) refl
    where
      go : (t : Bool) → eqb (word l 16) 0 ≡ t → (p ≡ (allocate (read_allocator l)).pointer) × (m ≡ lay_allocator (allocate (read_allocator l)).after)
      go true z =
          let n = (none_free l (eqb-true _ _ z)).0 in
          let c : ◌≡◌ {A = ℕ} 0 1 = cc in
          absurd (omega arith)
      go false z =
          let n = eqb-false _ _ z in
          let s = some-free l {n = word l 16} {p = word l (128 + 8 * (word l 16 - 1))} refl n refl refl in
          let q : p ≡ word l (128 + 8 * (word l 16 - 1)) = cc in
          let a = takes-last (read_allocator l) n in (
            q ∙ pointer-at (word l 16 - 1) (omega (arith, f.count)) ∙ ap (λ t. t.pointer) (sym a),
            w ∙ sym s.1 ∙ over-l 16 _ ∙ put_count (read_allocator l) (read_fits l b f).twelve _ ∙ ap (λ t. lay_allocator t.after) (sym a),
          )

  pub push : (p : ℕ) {m : List ℕ} → 128 + 8 * word l 16 + 8 ≤ length l → m ≡ over (over l (128 + 8 * word l 16) (spell 8 p)) 16 (spell 8 (word l 16 + 1))
      → m ≡ lay_allocator (release p (read_allocator l))
  unfolding release read_allocator
  push p h e =
      let t = (read_fits l b f).twelve in
      e ∙ ap (λ (z : List ℕ). over z 16 (spell 8 (word l 16 + 1))) (over-l (128 + 8 * word l 16) (spell 8 p) ∙ put-free (read_allocator l) t (word l 16) p (omega (arith, words_count, f.whole)))
      ∙ put_count (with_words (set (read_allocator l).words (word l 16) p) (read_allocator l)) t (word l 16 + 1)

  -- ---- the chunk size

  abbrev SizeStep : ℕ → Answer → List ℕ → Type 0
  SizeStep s r m = (r ≡ (set_chunk_size s (read_allocator l)).answer) × (m ≡ lay_allocator (set_chunk_size s (read_allocator l)).after)

  as_step : (s : ℕ) (t : AllocatorStep) {m : List ℕ} → t ≡ set_chunk_size s (read_allocator l) → m ≡ lay_allocator t.after → SizeStep s t.answer m
  as_step s t e h = (ap (λ u. u.answer) e, h ∙ ap (λ u. lay_allocator u.after) e)

  pub size-not-accepted : (s : ℕ) → accepted_size s ≡ false → SizeStep s (Err InvalidArgument) l
  unfolding set_chunk_size
  size-not-accepted s h = as_step s (record { answer = Err InvalidArgument; after = read_allocator l }) (pick-false _ _ _ _ h refl) (sym (laid-again l b f))

  module _ (s : ℕ) (h : accepted_size s ≡ true) where
    pub size-kept : word l 8 ≡ s → SizeStep s (Ok 0) l
    unfolding set_chunk_size read_allocator
    size-kept e = as_step s (record { answer = Ok 0; after = read_allocator l }) (pick_true _ _ _ _ h (pick_true _ _ _ _ (eq-eqb _ _ e) refl)) (sym (laid-again l b f))

    pub size-too-late : (word l 8 ≡ s → ⊥) → (word l 24 ≡ 0 → ⊥) → SizeStep s (Err InvalidArgument) l
    unfolding set_chunk_size read_allocator
    size-too-late e n = as_step s (record { answer = Err InvalidArgument; after = read_allocator l }) (pick_true _ _ _ _ h (pick-false _ _ _ _ (ne_eqb _ _ e) (pick-false _ _ _ _ (ne_eqb _ _ n) refl))) (sym (laid-again l b f))

    pub size-changed : {m : List ℕ} → (word l 8 ≡ s → ⊥) → word l 24 ≡ 0 → m ≡ over l 8 (spell 8 s) → SizeStep s (Ok 0) m
    unfolding set_chunk_size read_allocator
    size-changed e n q = as_step s (record { answer = Ok 0; after = with_size s (read_allocator l) }) (pick_true _ _ _ _ h (pick-false _ _ _ _ (ne_eqb _ _ e) (pick_true _ _ _ _ (eq-eqb _ _ n) refl))) (q ∙ over-l 8 _ ∙ put-size (read_allocator l) (read_fits l b f).twelve s)

-- ---- what the calls need

pub ruleset allocating = (no_last, none_free, grow, pop)

pub ruleset resizing = (size-not-accepted, size-kept, size-too-late, size-changed)
