-- What next entry gives, by what the search finds; that it leaves one outcome; and that the name stands where it says.
-- Assumes nothing.
use Rattle.std.specs.Prelude.{Result, Ok, Err}
use mathlib.Core.Path.{◌≡◌, refl, sym, ap, ◌∙◌}
use mathlib.Core.Bool.{true, false}
use mathlib.Core.List.{List, []}
use Prim.Native.Nat.{ℕ, ◌+◌, ◌*◌, ◌<◌, ◌≤◌}
use lib.ListN.{length}
use Rattle.words.specs.Tables.{lead}
use Rattle.types.specs.Answers.{error_number}
use Rattle.types.specs.declared.Error.{Error}
use Rattle.types.specs.declared.Error.TheVariants.{UnsoundMemory}
use Rattle.volume.specs.Rows.{Entry, entry_row, name_start, read_entry}
use Rattle.volume.specs.Search.{entry_under}
use Rattle.volume.specs.Volume.{shown}
use Rattle.volume.specs.Sound.{Named}
use Rattle.volume.specs.declared.Layout.{Layout}
use Rattle.tables.specs.Tables.{Ready, entry_at, layout_at}
use Rattle.tables.proofs.ReadyVolume.{rooms, count_entries, name-there}
use Rattle.names.specs.Listing.{Listed, listed, unlisted}
use Rattle.directories.specs.Searches.{next_place}
use Rattle.directories.proofs.NextEntry.{next-listed, next-first, next-unlisted}
use Rattle.soundness.specs.Checked.{sound}
use Rattle.words.specs.Bytes.{num, part}
use Rattle.words.proofs.Parts.{length_part}
use Rattle.volume.proofs.RowBytes.{entry-at}
use Rattle.tables.proofs.ReadyTables.{entry-table, row-there}
use Rattle.types.specs.Outcomes.{OneOutcome}
use Rattle.types.proofs.Outcomes.{one-outcome}
use native.Mathlib.Omega.{arith}
use Rattle.lentilraft.specs.declared.naming.NameAt.{NameAt}
use Rattle.lentilraft.specs.Door.{next_entry}
use Rattle.lentilraft.specs.EntryGiven.{GivesEntry, name_at, name_placed, next_name}
use Rattle.lentilraft.proofs.Door.{shut, let-in}

-- ---- of what was listed

pub gives-refusal : {o : Listed} {e : Error} {n : ℕ} → unlisted e ≡ o → n ≡ error_number e → GivesEntry o [] n 0 0
gives-refusal h k = rw (← h) (record { named = refl; numbered = k; indexed = refl; noded = refl })

pub gives-listed : {o : Listed} {e : Entry} {name : List ℕ} {i n : ℕ} → listed e ≡ o → name ≡ e.name → i ≡ e.index → n ≡ e.node → GivesEntry o name 0 i n
gives-listed h p q r = rw (← h) (record { named = p; numbered = refl; indexed = q; noded = r })

-- ---- at the door

module _ (d from : ℕ) (l : List ℕ) where
  pub entry-shut : sound l ≡ false → unlisted UnsoundMemory ≡ next_entry d from l
  unfolding next_entry
  entry-shut e = shut l unlisted _ e

  pub name-shut : sound l ≡ false → Err UnsoundMemory ≡ next_name d from l
  unfolding next_name
  name-shut e = shut l Err _ e

  module _ (s : sound l ≡ true) (named : Named (shown l).names) {r : Result ℕ Error} (h : r ≡ next_place d from (shown l).names) where
    pub entry-refused : {e : Error} → r ≡ Err e → unlisted e ≡ next_entry d from l
    unfolding next_entry
    entry-refused k = let-in l unlisted _ s (next-unlisted d from (shown l).names named h k)

    pub name-refused : {e : Error} → r ≡ Err e → Err e ≡ next_name d from l
    unfolding next_name
    name-refused k = let-in l Err _ s (ap (name_placed l (lead (entry_under d from) (shown l).names.entries)) (next-unlisted d from (shown l).names named h k))

    module _ {p : ℕ} (k : r ≡ Ok p) where
      pub entry-there : p < length (shown l).names.entries
      entry-there = (next-listed d from (shown l).names named h k).0

      pub entry_listed : listed (entry_at (shown l).names.entries p) ≡ next_entry d from l
      unfolding next_entry
      entry_listed = let-in l unlisted _ s (next-listed d from (shown l).names named h k).1

      pub name-listed : {x : NameAt} → x.at ≡ name_at l p → x.long ≡ length (entry_at (shown l).names.entries p).name → x.index ≡ (entry_at (shown l).names.entries p).index
          → x.node ≡ (entry_at (shown l).names.entries p).node → Ok x ≡ next_name d from l
      unfolding next_name
      name-listed {x} a b c e =
          let q : p ≡ lead (entry_under d from) (shown l).names.entries = next-first d from (shown l).names named h k in
          let y : x ≡ record { at = name_at l p; long = length (entry_at (shown l).names.entries p).name; index = (entry_at (shown l).names.entries p).index; node = (entry_at (shown l).names.entries p).node } = λ i. record { at = a i; long = b i; index = c i; node = e i } in
          let-in l Err _ s (ap Ok y ∙ ap (λ j. name_placed l j (listed (entry_at (shown l).names.entries p))) q ∙ ap (name_placed l (lead (entry_under d from) (shown l).names.entries)) (next-listed d from (shown l).names named h k).1)

-- ---- one possible outcome

pub one_entry : (o : Listed) {a b : List ℕ} {m n i j x y : ℕ} → GivesEntry o a m i x → GivesEntry o b n j y → (a ≡ b) × (m ≡ n) × (i ≡ j) × (x ≡ y)
one_entry o p q = (p.named ∙ sym q.named, p.numbered ∙ sym q.numbered, p.indexed ∙ sym q.indexed, p.noded ∙ sym q.noded)

-- ---- where the name stands

-- the start that code works out of the layout
pub name-placed : (l : List ℕ) (p : ℕ) {a : ℕ} → a ≡ (layout_at (shown l)).entries + entry_row * p + name_start → a ≡ name_at l p
unfolding shown
name-placed l p e = e

-- the same start by the layout's own word
placed-start : {l : List ℕ} {y : Layout} → Ready l y → (p : ℕ) → y.entries + entry_row * p + name_start ≡ name_at l p
placed-start {l} {y} r p = rw (rooms l y r).entries refl

-- the bytes there are the entry's name
pub name-stands : (l : List ℕ) {y : Layout} → Ready l y → (p : ℕ) → p < length (shown l).names.entries → part l (name_at l p) (length (entry_at (shown l).names.entries p).name) ≡ (entry_at (shown l).names.entries p).name
name-stands l {y} r p h =
    let at : ℕ = y.entries + entry_row * p in
    let few = name-there l y r p h in
    let e : read_entry (part l at entry_row) ≡ entry_at (shown l).names.entries p = row-there (entry-table l y r) p h refl in
    let n : (entry_at (shown l).names.entries p).name ≡ part l (at + name_start) (num 4 l (at + 20)) = ap (λ x. x.name) (sym e ∙ entry-at l at few) in
    let b : at + name_start + num 4 l (at + 20) ≤ length l = omega (arith, rooms l y r, count_entries l) in
    let s : name_at l p ≡ at + name_start = sym (placed-start r p) in
    rw (s, n, length_part l (at + name_start) (num 4 l (at + 20)) b)

pub one-next-name : (d from : ℕ) (l : List ℕ) → OneOutcome (next_name d from l)
one-next-name d from l = one-outcome (next_name d from l)
