-- What a call gives, from the answer that it has; and that a contract leaves one number, one content of the memory and one count.
-- Assumes nothing.
use Rattle.std.specs.Prelude.{Result, Ok, Err}
use mathlib.Core.Path.{◌≡◌, refl, sym, ap, ◌∙◌}
use mathlib.Core.List.{List}
use Prim.Native.Nat.{ℕ}
use Rattle.types.specs.Answers.{error_number, number, value}
use Rattle.types.specs.Outcomes.{Outcome, outcome}
use Rattle.types.specs.Answers.{Answer}
use Rattle.types.specs.declared.Error.{Error}
use Rattle.types.specs.declared.Search.{Search}
use Rattle.types.specs.declared.Search.TheVariants.{Found, Absent, Stopped}
use Rattle.lentilraft.specs.declared.naming.NameAt.{NameAt}
use Rattle.rim.specs.Given.{Gives, GivesCount, GivesValue, GivesName, GivesSearch}

-- ---- given

module _ {a : Answer} {l : List ℕ} {o : Outcome} (e : outcome a l ≡ o) {r : ℕ} (h : r ≡ number a) where
  pub gives : Gives o r l
  gives = record { number = h ∙ ap (λ u. number u.answer) e; bytes = ap (λ u. u.bytes) e }

  pub gives-count : {c : ℕ} → c ≡ value a → GivesCount o r l c
  gives-count k = record { number = h ∙ ap (λ u. number u.answer) e; bytes = ap (λ u. u.bytes) e; count = k ∙ ap (λ u. value u.answer) e }

pub gives-value : {a b : Answer} {r c : ℕ} → a ≡ b → r ≡ number a → c ≡ value a → GivesValue b r c
gives-value e h k = record { number = h ∙ ap number e; told = k ∙ ap value e }

-- next entry's parts, and its refusal
pub gives-name : {o : Result NameAt Error} {x : NameAt} → Ok x ≡ o → GivesName o 0 x.at x.long x.index x.node
gives-name e = rw (← e) (record { number = refl; start = refl; length = refl; indexed = refl; noded = refl })

pub gives-no-name : {o : Result NameAt Error} {x : Error} {r : ℕ} → Err x ≡ o → r ≡ error_number x → GivesName o r 0 0 0 0
gives-no-name e h = rw (← e) (record { number = h; start = refl; length = refl; indexed = refl; noded = refl })

-- the four cases of a search
pub gives_found : {o : Result Search Error} {i n k : ℕ} → Ok (Found i n k) ≡ o → GivesSearch o 0 1 i n k
gives_found e = rw (← e) (record { number = refl; case = refl; indexed = refl; noded = refl; counted = refl })

pub gives-absent : {o : Result Search Error} {k : ℕ} → Ok (Absent k) ≡ o → GivesSearch o 0 0 0 0 k
gives-absent e = rw (← e) (record { number = refl; case = refl; indexed = refl; noded = refl; counted = refl })

pub gives-stopped : {o : Result Search Error} {i k : ℕ} → Ok (Stopped i k) ≡ o → GivesSearch o 0 2 i 0 k
gives-stopped e = rw (← e) (record { number = refl; case = refl; indexed = refl; noded = refl; counted = refl })

pub gives-no-search : {o : Result Search Error} {x : Error} {r : ℕ} → Err x ≡ o → r ≡ error_number x → GivesSearch o r 0 0 0 0
gives-no-search e h = rw (← e) (record { number = h; case = refl; indexed = refl; noded = refl; counted = refl })

-- ---- one outcome

pub one-given : {o : Outcome} {r s : ℕ} {l m : List ℕ} → Gives o r l → Gives o s m → (r ≡ s) × (l ≡ m)
one-given a b = (a.number ∙ sym b.number, a.bytes ∙ sym b.bytes)

pub one-counted : {o : Outcome} {r s : ℕ} {l m : List ℕ} {c d : ℕ} → GivesCount o r l c → GivesCount o s m d → (r ≡ s) × (l ≡ m) × (c ≡ d)
one-counted a b = (a.number ∙ sym b.number, a.bytes ∙ sym b.bytes, a.count ∙ sym b.count)

pub one-valued : {a : Answer} {r s c d : ℕ} → GivesValue a r c → GivesValue a s d → (r ≡ s) × (c ≡ d)
one-valued a b = (a.number ∙ sym b.number, a.told ∙ sym b.told)

pub one-named : {n : Result NameAt Error} {r s a b l m i j x y : ℕ} → GivesName n r a l i x → GivesName n s b m j y → (r ≡ s) × (a ≡ b) × (l ≡ m) × (i ≡ j) × (x ≡ y)
one-named p q = (p.number ∙ sym q.number, p.start ∙ sym q.start, p.length ∙ sym q.length, p.indexed ∙ sym q.indexed, p.noded ∙ sym q.noded)

pub one-searched : {o : Result Search Error} {r s f g i j x y k l : ℕ} → GivesSearch o r f i x k → GivesSearch o s g j y l → (r ≡ s) × (f ≡ g) × (i ≡ j) × (x ≡ y) × (k ≡ l)
one-searched p q = (p.number ∙ sym q.number, p.case ∙ sym q.case, p.indexed ∙ sym q.indexed, p.noded ∙ sym q.noded, p.counted ∙ sym q.counted)
