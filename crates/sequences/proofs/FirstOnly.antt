-- A wrong program: it does only the first call of a sequence. The sequence theorem does not hold of it.
-- Assumes nothing.
use Rattle.std.specs.Prelude.{Ok}
use mathlib.Core.Path.{◌≡◌, refl, sym, ap, ◌∙◌}
use mathlib.Core.Bool.{true}
use mathlib.Core.List.{List, [], ◌∷◌}
use Prim.Native.Nat.{ℕ, ◌-◌, ◌≤◌}
use native.Mathlib.Omega.{arith}
use lib.ListN.{length}
use borrow.Author.Tests.{lt-leb}
use Rattle.words.specs.Rules.{pick, either}
use Rattle.words.specs.Tables.{find}
use Rattle.paths.specs.Path.{name_allowed}
use Rattle.types.specs.Kinds.{kind_of}
use Rattle.volume.specs.Volume.{Volume, shown, at_bytes}
use Rattle.volume.specs.Fresh.{fresh, fresh_laid}
use Rattle.volume.specs.Fresh as Fresh
use Rattle.volume.specs.Sound.{node}
use Rattle.volume.proofs.Laid.{shown-laid}
use Rattle.volume.proofs.FreshGood.{fits_fresh}
use Rattle.soundness.proofs.Checked.{true-sound}
use Rattle.names.specs.Entries.{entry_named, greatest, on_entry}
use Rattle.names.specs.Entering.{on_parent_row, on_parent, where_new, no_row_room, on_kind}
use Rattle.names.specs.Entering as Entering
use Rattle.lentilraft.specs.Door as Door
use Rattle.lentilraft.proofs.NewVolume.{Made, new-made}
use Rattle.sequences.specs.Fs.{Fs}
use Rattle.sequences.specs.Show.{show}
use Rattle.sequences.specs.Calls.{Lent, Call, new_volume, create}
use Rattle.sequences.specs.Act.{change_at, put_at, empty_fs, replay}
use Rattle.sequences.specs.Run.{run, accepted, accepted_of}
use Rattle.sequences.proofs.OneCall.{is-done}
use Rattle.sequences.proofs.Carried.{new-sound, new-empty}

-- the memory that it leaves
abbrev pub first_only : List Call → List ℕ → List ℕ
first_only [] l = l
first_only (c ∷ cs) l = (run c l).memory

-- a new volume, and a file in its root
abbrev pub new_and_file : ℕ → ℕ → ℕ → ℕ → Lent → List Call
new_and_file n e c s name = new_volume n e c s ∷ create 0 name 1 ∷ []

module _ (n e c s : ℕ) (l : List ℕ) (name : Lent) (begun : accepted (new_volume n e c s) l ≡ true) where
  abbrev new : List ℕ
  new = (run (new_volume n e c s) l).memory

  abbrev empty : Volume
  empty = fresh n e c s (length l - at_bytes n e c)

  made : Made n e c s l new
  made = let d = is-done (Fresh.new_volume n e c s l).answer begun in new-made n e c s l d.0 d.1

  new-shown : shown new ≡ empty
  unfolding fresh_laid
  new-shown = ap shown made.bytes ∙ shown-laid empty (fits_fresh n e c s (length l) made.placed made.accepted)

  module _ (two : 2 ≤ n) (allowed : name_allowed name.list ≡ true) where
    -- the root has no entry yet, and there is room for a node and an entry
    creates : (Entering.create 0 name.list 1 empty.names).answer ≡ Ok 1
    unfolding Entering.create on_parent on_parent_row on_kind where_new no_row_room on_entry entry_named greatest kind_of node find pick either fresh
    creates = rw (allowed, lt-leb n 1 (omega arith), lt-leb e 0 (omega (arith, made.placed.entries))) refl

    create-accepted : accepted (create 0 name 1) new ≡ true
    unfolding Door.create Door.door Door.if_sound pick
    create-accepted = rw (true-sound new (new-sound n e c s l begun), new-shown, creates) refl

    both-accepted : accepted_of (new_and_file n e c s name) l ≡ new_and_file n e c s name
    unfolding pick
    both-accepted = rw (begun, create-accepted) refl

-- node 1 was given out
replayed-next : (n e c s : ℕ) (name : Lent) → (replay (new_and_file n e c s name) empty_fs).next ≡ 2
unfolding empty_fs change_at put_at on_kind kind_of pick
replayed-next n e c s name = refl

empty-next : empty_fs.next ≡ 1
unfolding empty_fs
empty-next = refl

-- the next node that it leaves is 1, not 2
pub first-only-differs : (n e c s : ℕ) (l : List ℕ) (name : Lent) → accepted (new_volume n e c s) l ≡ true → 2 ≤ n → name_allowed name.list ≡ true
    → show (shown (first_only (new_and_file n e c s name) l)) ≡ replay (accepted_of (new_and_file n e c s name) l) empty_fs → ⊥
first-only-differs n e c s l name begun two allowed same =
    let next : empty_fs.next ≡ (replay (new_and_file n e c s name) empty_fs).next = ap (λ (fs : Fs). fs.next) (sym (new-empty n e c s l begun) ∙ same ∙ ap (λ cs. replay cs empty_fs) (both-accepted n e c s l name begun two allowed)) in
    omega (arith, next, empty-next, replayed-next n e c s name)
