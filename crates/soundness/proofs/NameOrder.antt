-- Rows in the order of their names: what the order says of two rows, the place of another one by halving, whether its name is new there, and that row put in.
-- Assumes nothing.
use mathlib.Core.Path.{◌≡◌, refl, sym, ap, ◌∙◌}
use mathlib.Core.Bool.{Bool, true, false, not, false≢true}
use mathlib.Core.Logic.{inl, inr}
use mathlib.Core.List.{List}
use Prim.Native.Nat.{ℕ, ◌+◌, ◌-◌, ◌≤◌, ◌<◌}
use native.Mathlib.Omega.{arith}
use lib.Dec.{ltb, eqb}
use lib.ListN.{length}
use borrow.Author.Tests.{not-true}
use Rattle.words.specs.Bytes.{Bytes}
use Rattle.words.specs.Rules.{both, pick, same, Says, holds, fails}
use Rattle.words.specs.Seek.{FallsBelow, SplitsAt}
use Rattle.words.specs.Tests.{rank}
use Rattle.words.proofs.Blocks.{says_same}
use Rattle.words.proofs.RankOrder.{rank_same}
use Rattle.words.proofs.Rules.{says-true, true-says, says-false, false-says, says_both, says-eqb, says-ltb, says-not, says-upto, upto-fail}
use Rattle.volume.specs.Rows.{Entry}
use Rattle.volume.specs.Search.{PairBefore, pair_before}
use Rattle.volume.proofs.PairOrder.{says-pair, pair-trans}
use Rattle.tables.specs.Tables.{entry_at}
use Rattle.soundness.specs.EntryRules.{same_name, name_new}
use Rattle.soundness.specs.NameOrder.{name_before, row_at, InOrder, PlaceOf, PutIn}

-- ---- two rows

abbrev NameBefore : Entry → Entry → Type 0
NameBefore a b = PairBefore a.parent (rank a.name) b.parent (rank b.name)

abbrev pub SameName : Entry → Entry → Type 0
SameName a b = (a.parent ≡ b.parent) × (a.name ≡ b.name)

says-before : (a b : Entry) → Says (NameBefore a b) (name_before a b)
unfolding name_before
says-before a b = says-pair a.parent (rank a.name) b.parent (rank b.name)

pub says-same-name : (a b : Entry) → Says (SameName a b) (same_name a b)
unfolding same_name
says-same-name a b = says_both (says-eqb a.parent b.parent) (says_same a.name b.name)

before-trans : (a b c : Entry) → name_before a b ≡ true → name_before b c ≡ true → name_before a c ≡ true
before-trans a b c h k =
    true-says (says-before a c)
    (pair-trans a.parent (rank a.name) b.parent (rank b.name) c.parent (rank c.name) (says-true (says-before a b) h) (says-true (says-before b c) k))

-- equal names have one place
never-before : (a b : Entry) → SameName a b → NameBefore a b → ⊥
never-before a b e (inl h) = omega (arith, e.0)
never-before a b e (inr h) = let z : rank a.name ≡ rank b.name = ap rank e.1 in omega (arith, h.1)

before-apart : (a b : Entry) → name_before a b ≡ true → SameName a b → ⊥
before-apart a b h e = never-before a b e (says-true (says-before a b) h)

-- and others do not: one of two is before the other
behind-other : (a b : Entry) → (a.parent ≡ b.parent → rank a.name ≡ rank b.name → ⊥) → name_before a b ≡ false → name_before b a ≡ true
behind-other a b d h = true-says (says-before b a) (go (says-eqb a.parent b.parent))
  where
    none : NameBefore a b → ⊥
    none = says-false (says-before a b) h

    apart : (x y : ℕ) → (x < y → ⊥) → (x ≡ y → ⊥) → y < x
    apart x y k n = omega arith

    go : {t : Bool} → Says (a.parent ≡ b.parent) t → NameBefore b a
    go (holds e) = inr (sym e, apart (rank a.name) (rank b.name) (λ k. none (inr (e, k))) (d e))
    go (fails e) = inl (apart a.parent b.parent (λ k. none (inl k)) e)

-- what a test of two rows answers, and that one of them is before the other if it is yes
abbrev pub Differ : Entry → Entry → Bool → Type 0
Differ a b r = (r ≡ not (same_name a b)) × (r ≡ true → name_before a b ≡ false → name_before b a ≡ true)

module _ (a b : Entry) {x y : ℕ} (p : x ≡ a.parent) (q : y ≡ b.parent) where
  pub before-apart-parents : (x ≡ y → ⊥) → ltb x y ≡ name_before a b
  unfolding name_before pair_before pick
  before-apart-parents h = let s : eqb a.parent b.parent ≡ false = false-says (says-eqb a.parent b.parent) (λ e. h (p ∙ e ∙ sym q)) in rw (s, p, q)

  pub before-beside : x ≡ y → {m n : List ℕ} → m ≡ a.name → n ≡ b.name → {r : Bool} → r ≡ ltb (rank m) (rank n) → r ≡ name_before a b
  unfolding name_before pair_before pick
  before-beside h f g e = let s : eqb a.parent b.parent ≡ true = true-says (says-eqb a.parent b.parent) (sym p ∙ h ∙ q) in rw s (e ∙ rw (f, g))

  pub differ-apart : (x ≡ y → ⊥) → Differ a b true
  differ-apart h =
      let d : a.parent ≡ b.parent → ⊥ = λ e. h (p ∙ e ∙ sym q) in
      (sym (ap not (false-says (says-same-name a b) (λ e. d e.0))), λ t. behind-other a b (λ e. absurd (d e)))

  pub differ-beside : x ≡ y → Bytes a.name → Bytes b.name → {m n : List ℕ} → m ≡ a.name → n ≡ b.name → {r : Bool} → r ≡ same m n → Differ a b (not r)
  unfolding same_name both
  differ-beside h ba bb {m} {n} f g {r} e =
      let s : eqb a.parent b.parent ≡ true = true-says (says-eqb a.parent b.parent) (sym p ∙ h ∙ q) in
      (rw s (ap not {y = same a.name b.name} (e ∙ rw (f, g))), λ t. behind-other a b (λ _ k. says-false (says_same m n) (sym e ∙ not-true r t) (f ∙ rank_same a.name b.name ba bb k ∙ sym g)))

-- ---- the place of row n, by halving

module _ (es : List Entry) (order : List ℕ) (n : ℕ) where
  -- whether the row at a place is before row n
  abbrev pub under : ℕ → Bool
  under p = name_before (entry_at es (row_at order p)) (entry_at es n)

  pub place-split : {i : ℕ} → SplitsAt under n i → PlaceOf es order n i
  place-split s = record { bound = s.bound; before = s.holds; behind = s.fails }

  -- those below low are, those from high on are not
  pub record Between (low high : ℕ) : Type 0 where
    pub bound : (low ≤ high) × (high ≤ n)
    pub before : (p : ℕ) → p < low → under p ≡ true
    pub behind : (p : ℕ) → high ≤ p → p < n → under p ≡ false

  module _ (o : InOrder es order n) where
    pub under-falls : FallsBelow under n
    under-falls = record { falls = λ p q h k e. go p q h k e (says-ltb p q) }
      where
        go : (p q : ℕ) → p ≤ q → q < n → under p ≡ false → {t : Bool} → Says (p < q) t → under q ≡ false
        go p q h k e (holds b) =
            false-says (says-before (entry_at es (row_at order q)) (entry_at es n))
            (λ z. false≢true (sym e ∙ before-trans (entry_at es (row_at order p)) (entry_at es (row_at order q)) (entry_at es n) (o.ascend p q b k) (true-says (says-before (entry_at es (row_at order q)) (entry_at es n)) z)))
        go p q h k e (fails b) = let z : q ≡ p = omega arith in rw z e

    pub none_between : (low high : ℕ) → Between low high → high ≤ low → PlaceOf es order n low
    none_between low high w h = record { bound = omega (arith, w.bound.0, w.bound.1); before = w.before; behind = λ p k b. w.behind p (omega arith) b }

    -- ---- whether the name is new there

    module _ (place : ℕ) (w : PlaceOf es order n place) where
      -- what stands at the place, if anything, is behind row n
      abbrev Behind : Type 0
      Behind = place < n → name_before (entry_at es n) (entry_at es (row_at order place)) ≡ true

      -- then all from there on is
      behind-all : Behind → (p : ℕ) → place ≤ p → p < n → name_before (entry_at es n) (entry_at es (row_at order p)) ≡ true
      behind-all f p h k = go (says-ltb place p)
        where
          go : {t : Bool} → Says (place < p) t → name_before (entry_at es n) (entry_at es (row_at order p)) ≡ true
          go (holds b) = before-trans (entry_at es n) (entry_at es (row_at order place)) (entry_at es (row_at order p)) (f (omega arith)) (o.ascend place p b k)
          go (fails b) = let z : p ≡ place = omega arith in rw z (f (omega arith))

      other-names : Behind → (p : ℕ) → p < n → SameName (entry_at es (row_at order p)) (entry_at es n) → ⊥
      other-names f p k e = go (says-ltb p place)
        where
          go : {t : Bool} → Says (p < place) t → ⊥
          go (holds b) = before-apart (entry_at es (row_at order p)) (entry_at es n) (w.before p b) e
          go (fails b) = before-apart (entry_at es n) (entry_at es (row_at order p)) (behind-all f p (omega arith) k) (sym e.0, sym e.1)

      new-name : Behind → true ≡ name_new es n
      unfolding name_new
      new-name f = sym (true-says (says-upto (λ k. SameName (entry_at es k) (entry_at es n) → ⊥) _ n (λ k b. says-not (says-same-name (entry_at es k) (entry_at es n)))) each)
        where
          each : (k : ℕ) → k < n → SameName (entry_at es k) (entry_at es n) → ⊥
          each k b e = let s = o.all k b in other-names f s.0 s.1 (rw s.2 e)

      known-name : place < n → not (same_name (entry_at es (row_at order place)) (entry_at es n)) ≡ false → false ≡ name_new es n
      unfolding name_new
      known-name h e = upto-fail (λ k. not (same_name (entry_at es k) (entry_at es n))) n (row_at order place) (o.rows place h) e

      -- what a test of the row at the place answers
      pub new-answer : place < n → (r : Bool) → Differ (entry_at es (row_at order place)) (entry_at es n) r → (r ≡ name_new es n) × (r ≡ true → Behind)
      new-answer h true d = (new-name (λ k. d.1 refl (w.behind place (omega arith) h)), λ t k. d.1 refl (w.behind place (omega arith) h))
      new-answer h false d = (known-name h (sym d.0), λ t. absurd (false≢true t))

      pub new-last : n ≤ place → (true ≡ name_new es n) × (◌≡◌ {A = Bool} true true → Behind)
      new-last h = (new-name (λ k. absurd (omega arith)), λ t k. absurd (omega arith))

      -- ---- row n put in

      module _ (after : List ℕ) (f : Behind) (i : PutIn order n place after) where
        -- what stands at a place afterwards
        data Now : ℕ → Type 0 where
          low : (p : ℕ) → p < place → row_at after p ≡ row_at order p → Now p
          here : (p : ℕ) → p ≡ place → row_at after p ≡ n → Now p
          high : (p q : ℕ) → p ≡ q + 1 → place ≤ q → q < n → row_at after p ≡ row_at order q → Now p

        now-at : (p : ℕ) → p < n + 1 → Now p
        now-at p h = go (says-ltb p place) (says-eqb p place)
          where
            go : {s t : Bool} → Says (p < place) s → Says (p ≡ place) t → Now p
            go (holds b) t = low p b (i.before p b)
            go (fails b) (holds e) = here p e (rw e i.there)
            go (fails b) (fails e) =
                let z : p ≡ p - 1 + 1 = omega arith in
                high p (p - 1) z (omega arith) (omega arith) (ap (row_at after) z ∙ i.behind (p - 1) (omega arith) (omega arith))

        rows-put : (p : ℕ) → p < n + 1 → row_at after p < n + 1
        rows-put p h = go (now-at p h)
          where
            go : Now p → row_at after p < n + 1
            go (low _ b e) = omega (arith, e, o.rows p (omega (arith, w.bound)))
            go (here _ b e) = omega (arith, e)
            go (high _ q b c d e) = omega (arith, e, o.rows q d)

        ascend-put : (p q : ℕ) → p < q → q < n + 1 → name_before (entry_at es (row_at after p)) (entry_at es (row_at after q)) ≡ true
        ascend-put p q h k = go (now-at p (omega arith)) (now-at q k)
          where
            go : Now p → Now q → name_before (entry_at es (row_at after p)) (entry_at es (row_at after q)) ≡ true
            go (low _ b e) (low _ c g) = rw (e, g) (o.ascend p q h (omega (arith, w.bound)))
            go (low _ b e) (here _ c g) = rw (e, g) (w.before p b)
            go (low _ b e) (high _ s c d m g) = rw (e, g) (o.ascend p s (omega arith) m)
            go (here _ b e) (high _ s c d m g) = rw (e, g) (behind-all f s d m)
            go (high _ r b t x e) (high _ s c d m g) = rw (e, g) (o.ascend r s (omega arith) m)
            go (here _ b e) (low _ c g) = absurd (omega arith)
            go (here _ b e) (here _ c g) = absurd (omega arith)
            go (high _ r b t x e) (low _ c g) = absurd (omega arith)
            go (high _ r b t x e) (here _ c g) = absurd (omega arith)

        all-put : (k : ℕ) → k < n + 1 → (p : ℕ) × (p < n + 1) × (row_at after p ≡ k)
        all-put k h = go (says-ltb k n)
          where
            moved : (s : (p : ℕ) × (p < n) × (row_at order p ≡ k)) → {t : Bool} → Says (s.0 < place) t → (p : ℕ) × (p < n + 1) × (row_at after p ≡ k)
            moved s (holds b) = (s.0, omega (arith, s.1), i.before s.0 b ∙ s.2)
            moved s (fails b) = (s.0 + 1, omega (arith, s.1), i.behind s.0 (omega arith) s.1 ∙ s.2)

            go : {t : Bool} → Says (k < n) t → (p : ℕ) × (p < n + 1) × (row_at after p ≡ k)
            go (holds b) = let s = o.all k b in moved s (says-ltb s.0 place)
            go (fails b) = (place, omega (arith, w.bound), i.there ∙ omega arith)

        pub order-put : InOrder es after (n + 1)
        order-put = record { long = i.long ∙ o.long; rows = rows-put; ascend = ascend-put; all = all-put }

-- of no rows any array is in order
pub order-start : (es : List Entry) (order : List ℕ) → length order ≡ 4096 → InOrder es order 0
order-start es order e = record { long = e; rows = λ p h. absurd (omega arith); ascend = λ p q h k. absurd (omega arith); all = λ k h. absurd (omega arith) }
