-- Marks by pointer / S: they show how often each multiple was met, and how many pointers were met in all.
-- Assumes nothing.
use mathlib.Core.Path.{◌≡◌, refl, sym, ap, ◌∙◌}
use mathlib.Core.Bool.{Bool, true, false, not, false≢true}
use mathlib.Core.List.{List}
use Prim.Native.Nat.{ℕ, zero, suc, ◌+◌, ◌*◌, ◌/◌, ◌%◌, ◌≤◌, ◌<◌}
use native.Mathlib.Nat.{div-lt_iff_lt-mul}
use native.Mathlib.Numerals.{add-one}
use native.Mathlib.Omega.{arith}
use lib.Count.{ones}
use lib.Dec.{eqb}
use lib.ListN.{length, get_or, get_or-replicate, length-replicate, length-set}
use lib.Seq.{get_or-set_same, get_or-set_other}
use borrow.Author.Tests.{eq-eqb, ne_eqb, eqb-true, not-false}
use Rattle.words.specs.Rules.{bit, Says, holds, fails}
use Rattle.words.specs.Tests.{tally}
use Rattle.words.proofs.Rules.{says_both, says-upto, says-eqb, says-true, upto-start, upto_turn, upto-fail, upto-same, call-yes, call-no, tally-grows, tally-all, all-tally, tally-more}
use Rattle.words.proofs.Counting.{bit-same, bit-apart, tally-none}
use Rattle.words.proofs.Powers.{one-positive}
use Rattle.words.proofs.Multiples.{whole, chunk_of}
use Rattle.allocator.specs.Opening.{lined}
use Rattle.allocator.proofs.OpenWords.{says-lined}
use Rattle.soundness.specs.PointerRules.{unmarked, with_mark, markable, marks_after, all_markable, Passed}

-- ---- what the tests mean

module _ (s next : ℕ) where
  abbrev pub Lined : ℕ → Type 0
  Lined p = (p % s ≡ 0) × (p < next)

  module _ (f : ℕ → ℕ) (m : List ℕ) where
    abbrev pub Markable : ℕ → Type 0
    Markable i = Lined (f i) × (get_or (marks_after s f i m) (f i / s) 0 ≡ 0)

    pub says_all : (k : ℕ) → Says ((i : ℕ) → i < k → Markable i) (all_markable s next f k m)
    unfolding all_markable markable
    says_all k =
        says-upto Markable (λ i. markable s next (f i) (marks_after s f i m)) k (λ i h. says_both (says-lined s next (f i)) (says-eqb (get_or (marks_after s f i m) (f i / s) 0) 0))

-- ---- what marks show

-- how often each multiple was met, and by how many pointers all of them
pub record Shows (s next : ℕ) (stood : ℕ → ℕ) (n : ℕ) (m : List ℕ) : Type 0 where
  pub long : length m ≡ 4096
  pub each : (q : ℕ) → q < 4096 → get_or m q 0 ≡ stood (q * s)
  pub total : tally (next / s) (λ q. eqb (get_or m q 0) 1) ≡ n

pub shows-as : {s next : ℕ} {f g : ℕ → ℕ} {k n : ℕ} {m : List ℕ} → ((p : ℕ) → f p ≡ g p) → k ≡ n → Shows s next f k m → Shows s next g n m
shows-as {s} e h w = record { long = w.long; each = λ q b. w.each q b ∙ e (q * s); total = w.total ∙ h }

module _ (s next : ℕ) (pos : 0 < s) (room : next ≤ 4096 * s) where
  multiples : next / s ≤ 4096
  multiples = let h : next / s < 4097 = (div-lt_iff_lt-mul {k = s} {x = next} {y = 4097} pos).1 (omega arith) in omega arith

  place-low : (p : ℕ) → p < next → p / s < 4096
  place-low p h = (div-lt_iff_lt-mul {k = s} {x = p} {y = 4096} pos).1 (omega arith)

  pub shows-none : Shows s next (λ p. 0) 0 unmarked
  shows-none = record {
    long = length-replicate {A = ℕ} 4096 0;
    each = λ q h. get_or-replicate {A = ℕ} 4096 q 0 0 h;
    total = tally-none (λ q. eqb (get_or unmarked q 0) 1) (next / s) (λ q h. ne_eqb (get_or unmarked q 0) 1 (λ e. omega (arith, get_or-replicate {A = ℕ} 4096 q 0 0 (omega (arith, multiples)))));
  }

  module _ (al : next % s ≡ 0) where
    pub place-due : (p : ℕ) → Lined s next p → p / s < next / s
    place-due p h = let z = whole s next al in (div-lt_iff_lt-mul {k = s} {x = p} {y = next / s} pos).1 (rw z h.1)

    module _ {stood : ℕ → ℕ} {n : ℕ} {m : List ℕ} (w : Shows s next stood n m) where
      -- a pointer that has its mark was met
      repeated : (p : ℕ) → Lined s next p → (get_or m (p / s) 0 ≡ 0 → ⊥) → 1 ≤ stood p
      repeated p l k =
          let z = whole s p l.0 in
          let e : get_or m (p / s) 0 ≡ stood p = rw z at (w.each (p / s) (place-low p l.1)) in
          omega arith

      -- another one is marked
      module _ (p : ℕ) (l : Lined s next p) (k : get_or m (p / s) 0 ≡ 0) where
        low : p / s < 4096
        low = place-low p l.1

        mark-there : get_or (with_mark s p m) (p / s) 0 ≡ 1
        unfolding with_mark
        mark-there = get_or-set_same m (p / s) 1 0 (omega (arith, low, w.long))

        mark-other : (q : ℕ) → (q ≡ p / s → ⊥) → get_or (with_mark s p m) q 0 ≡ get_or m q 0
        unfolding with_mark
        mark-other q h = get_or-set_other m (p / s) q 1 0 h

        stands-there : stood (p / s * s) + bit (eqb p (p / s * s)) ≡ 1
        stands-there =
            let z = whole s p l.0 in
            let o : bit (eqb p (p / s * s)) ≡ 1 = rw z (bit-same p) in
            omega (arith, o, w.each (p / s) low)

        stands-other : (q : ℕ) → (q ≡ p / s → ⊥) → bit (eqb p (q * s)) ≡ 0
        stands-other q h = bit-apart p (q * s) (λ e. h (sym (ap (λ (x : ℕ). x / s) e ∙ chunk_of s q (q * s) (omega arith) (omega arith))))

        shows-mark : Shows s next (λ x. stood x + bit (eqb p x)) (n + 1) (with_mark s p m)
        shows-mark = record {
          long = unfold with_mark in length-set m (p / s) 1 ∙ w.long;
          each = λ q b. each_of q b (says-eqb q (p / s));
          total = tally-more (λ q. eqb (get_or m q 0) 1) (λ q. eqb (get_or (with_mark s p m) q 0) 1) (next / s) (p / s) (place-due p l)
              (ne_eqb (get_or m (p / s) 0) 1 (λ e. omega arith)) (eq-eqb (get_or (with_mark s p m) (p / s) 0) 1 mark-there)
              (λ q h. ap (λ (x : ℕ). eqb x 1) (sym (mark-other q h))) ∙ ap (λ (x : ℕ). x + 1) w.total;
        }
          where
            each_of : (q : ℕ) → q < 4096 → {t : Bool} → Says (q ≡ p / s) t → get_or (with_mark s p m) q 0 ≡ stood (q * s) + bit (eqb p (q * s))
            each_of q b (holds e) = rw e (mark-there ∙ sym stands-there)
            each_of q b (fails h) = omega (arith, mark-other q h, stands-other q h, w.each q b)

      -- as many as multiples: each was met
      pub all-met : n ≡ next / s → (q : ℕ) → q < next / s → stood (q * s) ≡ 1
      all-met e q h =
          sym (w.each q (omega (arith, multiples))) ∙ eqb-true (get_or m q 0) 1 (all-tally (λ x. eqb (get_or m x 0) 1) (next / s) (w.total ∙ e) q h)

      -- and the other way round
      pub met_all : ((q : ℕ) → q < next / s → stood (q * s) ≡ 1) → n ≡ next / s
      met_all h = sym w.total ∙ tally-all (λ q. eqb (get_or m q 0) 1) (next / s) (λ q b. eq-eqb (get_or m q 0) 1 (w.each q (omega (arith, multiples)) ∙ h q b))

    -- ---- a pass over some pointers

    module _ {stood : ℕ → ℕ} {n : ℕ} {m : List ℕ} (w : Shows s next stood n m) (f : ℕ → ℕ) where
      -- how often a pointer was met, before and by the first i
      abbrev met : ℕ → ℕ → ℕ
      met i p = stood p + tally i (λ j. eqb (f j) p)

      shows-start : Shows s next (met 0) (n + 0) (marks_after s f 0 m)
      unfolding marks_after tally
      shows-start = shows-as (λ p. omega arith) (omega arith) w

      shows-turn : (i : ℕ) → Shows s next (met i) (n + i) (marks_after s f i m) → Markable s next f m i → Shows s next (met (suc i)) (n + suc i) (marks_after s f (suc i) m)
      unfolding marks_after tally
      shows-turn i v h = shows-as (λ p. omega arith) (omega arith) (shows-mark v (f i) h.0 h.1)

      pub shows-pass : (k : ℕ) → ((i : ℕ) → i < k → Markable s next f m i) → Shows s next (met k) (n + k) (marks_after s f k m)
      shows-pass zero h = shows-start
      shows-pass (suc k) h = shows-turn k (shows-pass k (λ i b. h i (omega arith))) (h k (omega arith))

      -- pointers of which none is met twice can all be marked
      module _ (k : ℕ) (l : (i : ℕ) → i < k → Lined s next (f i)) (o : (i : ℕ) → i < k → met k (f i) ≤ 1) where
        first-met : (i : ℕ) → i < k → Shows s next (met i) (n + i) (marks_after s f i m) → get_or (marks_after s f i m) (f i / s) 0 ≡ 0
        unfolding tally
        first-met i b v = go (says-eqb (get_or (marks_after s f i m) (f i / s) 0) 0)
          where
            go : {t : Bool} → Says (get_or (marks_after s f i m) (f i / s) 0 ≡ 0) t → get_or (marks_after s f i m) (f i / s) 0 ≡ 0
            go (holds e) = e
            go (fails h) =
                absurd (omega (arith, repeated v (f i) (l i b) h, o i b, tally-grows (λ j. eqb (f j) (f i)) (suc i) k b, bit-same (f i)))

        shows-each : (i : ℕ) → i ≤ k → Shows s next (met i) (n + i) (marks_after s f i m)
        shows-each zero b = shows-start
        shows-each (suc i) b = let v = shows-each i (omega arith) in shows-turn i v (l i b, first-met i b v)

        pub all_first : (i : ℕ) → i < k → Markable s next f m i
        all_first i b = (l i b, first-met i b (shows-each i (omega arith)))

-- ---- for the code: the same pointers, read from elsewhere

module _ (s : ℕ) (f g : ℕ → ℕ) (m : List ℕ) where
  after_same : (n : ℕ) → ((i : ℕ) → i < n → f i ≡ g i) → marks_after s f n m ≡ marks_after s g n m
  unfolding marks_after
  after_same zero h = refl
  after_same (suc n) h = rw (after_same n (λ i b. h i (omega arith)), h n (omega arith))

  pub markable-same : (next n : ℕ) → ((i : ℕ) → i < n → f i ≡ g i) → all_markable s next f n m ≡ all_markable s next g n m
  unfolding all_markable
  markable-same next n h =
      upto-same (λ i. markable s next (f i) (marks_after s f i m)) (λ i. markable s next (g i) (marks_after s g i m)) n (λ i b. rw (h i b, after_same i (λ j c. h j (omega arith))))

-- ---- for the code: a pass, pointer after pointer

pub place-there : (s next p : ℕ) {q : ℕ} → ones s ≡ 1 → next ≤ 4096 * s → q ≡ p / s → lined s next p ≡ true → q < 4096
place-there s next p one room h e = rw h (place-low s next (one-positive s one) room p (says-true (says-lined s next p) e).1)

module _ (s next : ℕ) (f : ℕ → ℕ) (m : List ℕ) where
  abbrev in_turn : ℕ → Bool
  in_turn i = markable s next (f i) (marks_after s f i m)

  pub pass-start : Passed s next f 0 m true m
  unfolding all_markable marks_after
  pass-start = (sym (upto-start in_turn), λ e. refl)

  module _ (i : ℕ) {v : List ℕ} (w : Passed s next f i m true v) {p : ℕ} {r : Bool} {u : List ℕ} (e : p ≡ f i) (k : (r ≡ markable s next p v) × (r ≡ true → u ≡ with_mark s p v)) where
    asked : r ≡ in_turn i
    asked = k.0 ∙ rw (e, w.1 refl)

    pub pass-turn : not r ≡ false → Passed s next f (i + 1) m true u
    unfolding all_markable marks_after
    pass-turn h = (sym (upto_turn in_turn i (sym w.0) (call-yes asked h)), λ t. k.1 (not-false r h) ∙ rw (add-one i, e, w.1 refl))

    pub pass-fail : {x : List ℕ} (n : ℕ) → i < n → not r ≡ true → Passed s next f n m false x
    unfolding all_markable
    pass-fail n b h = (upto-fail in_turn n i b (call-no asked h), λ t. absurd (false≢true t))

  pub pass-end : {i n : ℕ} {v : List ℕ} → Passed s next f i m true v → i ≡ n → Passed s next f n m true v
  pass-end w e = (w.0 ∙ rw e, λ t. w.1 t ∙ rw e)
