-- What an accepted call leaves of a byte is what it says of it, else what there was; and so for calls one behind another.
-- Assumes nothing.
use Rattle.std.specs.Prelude.{Some, None}
use mathlib.Core.Path.{◌≡◌, refl, sym, ap, ◌∙◌}
use mathlib.Core.Bool.{Bool, true, false}
use mathlib.Core.List.{List}
use mathlib.Core.Option.{Option, none, some}
use Prim.Native.Nat.{ℕ, ◌+◌, ◌-◌, ◌≤◌, ◌<◌}
use native.Mathlib.Omega.{arith}
use lib.Dec.{eqb, leb, ltb}
use lib.ListN.{length, get_or}
use borrow.Author.Tests.{eq-eqb, ne_eqb, le-ltb, le-leb, lt-leb}
use Rattle.words.specs.Rules.{pick, both, Says, holds, fails}
use Rattle.words.proofs.Rules.{says-eqb, says-leb, says-ltb}
use Rattle.types.specs.declared.FileType.TheVariants.{Directory}
use Rattle.types.specs.Kinds.{Kind, kind_of}
use Rattle.names.specs.Entering.{on_kind}
use Rattle.sequences.specs.Fs.{NodeSeen, Fs}
use Rattle.sequences.specs.Calls.{Call, new_volume, check, report, set_chunk_size, read, write, resize, set_limit, find_node, next_entry, search, create, link, unlink, remove}
use Rattle.sequences.specs.Act.{NameIn, on_name, path_name, within, changed_if, change_at, put_at, new_seen, with_written, with_cut, with_name, empty_fs, created_as, unlinked_from, act}
use Rattle.sequences.specs.Saying.{says, said_or, byte_of, byte_seen}
use Rattle.sequences.proofs.Shown.{by-node, change-here, change-other, put-here, put_other}

-- ---- one node changed

module _ (n : ℕ) (f : NodeSeen → NodeSeen) (fs : Fs) where
  -- the same change of a node's bytes, whether it is there or not, if it makes nothing of zeros
  changed-bytes : (g : ℕ → ℕ → ℕ) → ((x : NodeSeen) (j : ℕ) → (f x).bytes j ≡ g j (x.bytes j)) → (j : ℕ) → g j 0 ≡ 0 → byte_seen (change_at n f fs) n j ≡ g j (byte_seen fs n j)
  unfolding change_at pick
  changed-bytes g h j zero = rw (eq-eqb n n refl) (go (fs.at n))
    where
      go : (o : Option NodeSeen) → byte_of (changed_if f o) j ≡ g j (byte_of o j)
      go none = sym zero
      go (some x) = h x j

  other-bytes : (m j : ℕ) → (m ≡ n → ⊥) → byte_seen (change_at n f fs) m j ≡ byte_seen fs m j
  other-bytes m j h = ap (λ o. byte_of o j) (change-other n f fs m h)

  -- a change that leaves the bytes
  kept-bytes : ((x : NodeSeen) (j : ℕ) → (f x).bytes j ≡ x.bytes j) → (m j : ℕ) → byte_seen (change_at n f fs) m j ≡ byte_seen fs m j
  kept-bytes h m j = by-node (λ k. byte_seen (change_at n f fs) k j ≡ byte_seen fs k j) n (changed-bytes (λ i b. b) h j refl) (λ k. other-bytes k j) m

-- ---- an accepted call

-- what a call found when it was accepted, as far as a byte needs it: a write its node, a create no node of the new number
abbrev pub Able : Call → Fs → Type 0
Able (new_volume n e c s) fs = Unit {0}
Able check fs = Unit {0}
Able (report out) fs = Unit {0}
Able (set_chunk_size s) fs = Unit {0}
Able (read n offset buffer) fs = Unit {0}
Able (write n offset bs) fs = (length bs.list ≡ 0 → ⊥) → (x : NodeSeen) × (fs.at n ≡ some x)
Able (resize n z) fs = Unit {0}
Able (set_limit n most) fs = Unit {0}
Able (find_node start path) fs = Unit {0}
Able (next_entry d from) fs = Unit {0}
Able (search d name from most) fs = Unit {0}
Able (create p name byte) fs = fs.at fs.next ≡ none
Able (link p name t) fs = Unit {0}
Able (unlink start path want opens) fs = Unit {0}
Able (remove n) fs = Unit {0}

-- what holds of node n's byte, and of others' where the call says nothing of them
module _ (n j : ℕ) (fs after : Fs) (said : ℕ → Option ℕ) where
  said-by-node : byte_seen after n j ≡ said_or (said n) (byte_seen fs n j) → ((m : ℕ) → (m ≡ n → ⊥) → (said m ≡ none) × (byte_seen after m j ≡ byte_seen fs m j)) → (m : ℕ) → byte_seen after m j ≡ said_or (said m) (byte_seen fs m j)
  said-by-node here other =
      by-node (λ m. byte_seen after m j ≡ said_or (said m) (byte_seen fs m j)) n here (λ m h. (other m h).1 ∙ sym (ap (λ o. said_or o (byte_seen fs m j)) (other m h).0))

-- a call on another node says nothing
not-this : (n m : ℕ) (b : Bool) (o : Option ℕ) → (m ≡ n → ⊥) → pick (both (eqb n m) b) o none ≡ none
unfolding pick both
not-this n m b o h = rw (ne_eqb n m (λ e. h (sym e))) refl

-- nothing lies within no bytes
within_none : (offset j : ℕ) → within offset 0 j ≡ false
unfolding both
within_none offset j = go (leb offset j) (says-leb offset j)
  where
    go : (t : Bool) → Says (offset ≤ j) t → both t (ltb j (offset + 0)) ≡ false
    go true (holds h) = le-ltb j (offset + 0) (omega arith)
    go false h = refl

write-says : (n offset : ℕ) (bs : List ℕ) (fs : Fs) → ((length bs ≡ 0 → ⊥) → (x : NodeSeen) × (fs.at n ≡ some x)) → (m j : ℕ)
    → byte_seen (pick (eqb (length bs) 0) fs (change_at n (with_written offset bs) fs)) m j ≡ said_or (pick (both (eqb n m) (within offset (length bs) j)) (some (get_or bs (j - offset) 0)) none) (byte_seen fs m j)
unfolding pick both
write-says n offset bs fs able m j = go (eqb (length bs) 0) (says-eqb (length bs) 0)
  where
    silent : (b : Bool) → said_or (pick (both b false) (some (get_or bs (j - offset) 0)) none) (byte_seen fs m j) ≡ byte_seen fs m j
    silent true = refl
    silent false = refl

    put : (x : NodeSeen) (w : Bool) → pick w (get_or bs (j - offset) 0) (x.bytes j) ≡ said_or (pick w (some (get_or bs (j - offset) 0)) none) (x.bytes j)
    put x true = refl
    put x false = refl

    go : (t : Bool) → Says (length bs ≡ 0) t → byte_seen (pick t fs (change_at n (with_written offset bs) fs)) m j ≡ said_or (pick (both (eqb n m) (within offset (length bs) j)) (some (get_or bs (j - offset) 0)) none) (byte_seen fs m j)
    go true (holds e) = rw (e, within_none offset j) (sym (silent (eqb n m)))
    go false (fails h) =
        let x = able h in
        said-by-node n j fs (change_at n (with_written offset bs) fs) (λ k. pick (both (eqb n k) (within offset (length bs) j)) (some (get_or bs (j - offset) 0)) none)
        (rw (eq-eqb n n refl, change-here n (with_written offset bs) fs x.1, x.1) (put x.0 (within offset (length bs) j)))
        (λ k other. (not-this n k _ _ other, other-bytes n (with_written offset bs) fs k j other)) m

resize-says : (n z : ℕ) (fs : Fs) (m j : ℕ) → byte_seen (change_at n (with_cut z) fs) m j ≡ said_or (pick (both (eqb n m) (leb z j)) (some 0) none) (byte_seen fs m j)
unfolding pick both
resize-says n z fs m j =
    said-by-node n j fs (change_at n (with_cut z) fs) (λ k. pick (both (eqb n k) (leb z j)) (some 0) none)
    (changed-bytes n (with_cut z) fs (λ i b. pick (ltb i z) b 0) (λ x i. refl) j (zero (ltb j z)) ∙ rw (eq-eqb n n refl) (cut (ltb j z) (says-ltb j z)))
    (λ k other. (not-this n k _ _ other, other-bytes n (with_cut z) fs k j other)) m
  where
    zero : (t : Bool) → ◌≡◌ {A = ℕ} (pick t 0 0) 0
    zero true = refl
    zero false = refl

    cut : (t : Bool) → Says (j < z) t → pick t (byte_seen fs n j) 0 ≡ said_or (pick (leb z j) (some 0) none) (byte_seen fs n j)
    cut true (holds h) = rw (lt-leb z j h) refl
    cut false (fails h) = rw (le-leb z j (omega (arith, h))) refl

remove-says : (n : ℕ) (fs : Fs) (m j : ℕ) → byte_seen (put_at n none fs.next fs) m j ≡ said_or (pick (eqb n m) (some 0) none) (byte_seen fs m j)
unfolding pick
remove-says n fs m j =
    said-by-node n j fs (put_at n none fs.next fs) (λ k. pick (eqb n k) (some 0) none)
    (rw (eq-eqb n n refl) (ap (λ o. byte_of o j) (put-here n none fs.next fs)))
    (λ k other. (rw (ne_eqb n k (λ e. other (sym e))) refl, ap (λ o. byte_of o j) (put_other n none fs.next fs k other))) m

create-says : (p : ℕ) (name : List ℕ) (byte : ℕ) (fs : Fs) → fs.at fs.next ≡ none → (m j : ℕ) → byte_seen (on_kind fs (λ kind. created_as p name kind fs) (kind_of byte)) m j ≡ byte_seen fs m j
unfolding on_kind
create-says p name byte fs absent m j = go (kind_of byte)
  where
    made : (o : Option NodeSeen) → byte_of o j ≡ 0 → byte_seen (put_at fs.next o (fs.next + 1) fs) m j ≡ byte_seen fs m j
    made o zero =
        by-node (λ k. byte_seen (put_at fs.next o (fs.next + 1) fs) k j ≡ byte_seen fs k j) fs.next
        (ap (λ q. byte_of q j) (put-here fs.next o (fs.next + 1) fs) ∙ zero ∙ sym (ap (λ q. byte_of q j) absent))
        (λ k other. ap (λ q. byte_of q j) (put_other fs.next o (fs.next + 1) fs k other)) m

    go : (k : Kind) → byte_seen (on_kind fs (λ kind. created_as p name kind fs) k) m j ≡ byte_seen fs m j
    go None = refl
    go (Some kind) = kept-bytes p (with_name name fs.next) _ (λ x i. refl) m j ∙ made (some (new_seen kind)) refl

pub new-says : (n j : ℕ) → byte_seen empty_fs n j ≡ 0
unfolding empty_fs pick
new-says n j = go (eqb n 0)
  where
    go : (t : Bool) → byte_of (pick t (some (new_seen Directory)) none) j ≡ 0
    go true = refl
    go false = refl

unlink-says : (fs : Fs) (o : Option NameIn) (m j : ℕ) → byte_seen (on_name fs (unlinked_from fs) o) m j ≡ byte_seen fs m j
unlink-says fs none m j = refl
unlink-says fs (some x) m j = kept-bytes x.directory _ _ (λ y i. refl) m j ∙ kept-bytes x.seen.node _ fs (λ y i. refl) m j

pub act-says : (c : Call) (fs : Fs) → Able c fs → (n j : ℕ) → byte_seen (act c fs) n j ≡ said_or (says n j c) (byte_seen fs n j)
act-says (new_volume a e c s) fs able n j = new-says n j
act-says check fs able n j = refl
act-says (report out) fs able n j = refl
act-says (set_chunk_size s) fs able n j = refl
act-says (read m offset buffer) fs able n j = refl
act-says (write m offset bs) fs able n j = write-says m offset bs.list fs able n j
act-says (resize m z) fs able n j = resize-says m z fs n j
act-says (set_limit m most) fs able n j = kept-bytes m _ fs (λ x i. refl) n j
act-says (find_node start path) fs able n j = refl
act-says (next_entry d from) fs able n j = refl
act-says (search d name from most) fs able n j = refl
act-says (create p name byte) fs able n j = create-says p name.list byte fs able n j
act-says (link p name t) fs able n j = kept-bytes p _ _ (λ x i. refl) n j ∙ kept-bytes t _ fs (λ x i. refl) n j
act-says (unlink start path want opens) fs able n j = unlink-says fs (path_name fs start path) n j
act-says (remove m) fs able n j = remove-says m fs n j
