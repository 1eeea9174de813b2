-- Demand 3: any sequence of calls that an accepted new volume begins. What tables and chunks show is what the accepted calls give when they
-- are worked out afresh; a byte read is what the last of them says of it; pointers stay live once or free once.
-- Assumes nothing.
use mathlib.Core.Path.{◌≡◌, refl, sym, ap, ◌∙◌, subst}
use mathlib.Core.Bool.{Bool, true, false}
use mathlib.Core.List.{List, [], ◌∷◌}
use mathlib.Core.Option.{Option, none, some}
use Prim.Native.Nat.{ℕ, ◌+◌, ◌%◌, ◌<◌}
use native.Mathlib.Omega.{arith}
use Rattle.words.specs.Bytes.{Bytes}
use Rattle.words.specs.Rules.{pick}
use Rattle.words.specs.Tables.{Each}
use Rattle.types.specs.Outcomes.{done}
use Rattle.allocator.proofs.Accounts.{due-facts, due-one}
use Rattle.volume.specs.Volume.{Store, shown}
use Rattle.volume.specs.Sound.{Stored, Sound}
use Rattle.soundness.proofs.Checked.{true-sound}
use Rattle.files.proofs.ReadGives.{read-shows}
use Rattle.lentilraft.specs.Door as Door
use Rattle.sequences.specs.Fs.{Fs}
use Rattle.sequences.specs.Show.{show}
use Rattle.sequences.specs.Calls.{Call, new_volume}
use Rattle.sequences.specs.Act.{empty_fs, replay}
use Rattle.sequences.specs.Run.{Ran, run, accepted, run_all, accepted_of}
use Rattle.sequences.specs.Changing.{MayChange}
use Rattle.sequences.specs.Saying.{says, said_or, later, last_said, byte_said, byte_of, byte_seen}
use Rattle.sequences.specs.GivenOut.{GivenOut, StillOnce, GoesOn}
use Rattle.sequences.specs.Demand.{WorkedOut, ReadsSaid, Permitted}
use Rattle.sequences.proofs.Shown.{show-there}
use Rattle.sequences.proofs.Changing.{act-leaves}
use Rattle.sequences.proofs.Saying.{act-says, new-says}
use Rattle.sequences.proofs.LaterStores.{Later, later_same, later-twice}
use Rattle.sequences.proofs.Carried.{Carried, carried, new-bytes, new-sound, new-empty}

-- ---- one call

-- refused or accepted, it changes only the nodes that the scope names for it
pub nodes-kept : (c : Call) (l : List ℕ) → Bytes l → Sound l → (m : ℕ) → (MayChange c (show (shown l)) m → ⊥) → (show (shown (run c l).memory)).at m ≡ (show (shown l)).at m
nodes-kept c l b h m other = go (accepted c l) refl
  where
    k : Carried c l
    k = carried c l b h

    go : (t : Bool) → accepted c l ≡ t → (show (shown (run c l).memory)).at m ≡ (show (shown l)).at m
    go true q = ap (λ (fs : Fs). fs.at m) (k.shows q) ∙ act-leaves c (show (shown l)) m other
    go false q = ap (λ x. (show (shown x)).at m) (k.stays q)

-- ---- calls one behind another, on any sound memory

record RanAll (cs : List Call) (l : List ℕ) : Type 0 where
  bytes : Bytes (run_all cs l)
  sound : Sound (run_all cs l)
  shows : show (shown (run_all cs l)) ≡ replay (accepted_of cs l) (show (shown l))
  said : (n j : ℕ) → byte_seen (show (shown (run_all cs l))) n j ≡ said_or (last_said n j (accepted_of cs l)) (byte_seen (show (shown l)) n j)
  later : Each GoesOn (accepted_of cs l) → Later (shown l).store (shown (run_all cs l)).store

-- what a later call says, else an earlier one, else what there was
said-first : (last first : Option ℕ) (old : ℕ) → said_or (later last first) old ≡ said_or last (said_or first old)
said-first none first old = refl
said-first (some b) first old = refl

ran-all : (cs : List Call) (l : List ℕ) → Bytes l → Sound l → RanAll cs l
unfolding pick Each
ran-all [] l b h = record { bytes = b; sound = h; shows = refl; said = λ n j. refl; later = λ g. later_same (shown l).store }
ran-all (c ∷ cs) l b h = let k = carried c l b h in go k (ran-all cs (run c l).memory k.bytes k.sound) (accepted c l) refl
  where
    m : List ℕ
    m = (run c l).memory

    go : Carried c l → RanAll cs m → (t : Bool) → accepted c l ≡ t → RanAll (c ∷ cs) l
    go k r true q = record {
      bytes = r.bytes;
      sound = r.sound;
      shows = rw q (r.shows ∙ ap (replay (accepted_of cs m)) (k.shows q));
      said = λ n j. rw q (r.said n j ∙ ap (said_or (last_said n j (accepted_of cs m))) (ap (λ fs. byte_seen fs n j) (k.shows q) ∙ act-says c (show (shown l)) (k.able q) n j) ∙ sym (said-first (last_said n j (accepted_of cs m)) (says n j c) _));
      later = rw q (λ g. later-twice (k.later g.0) (r.later g.1));
    }
    go k r false q = record {
      bytes = r.bytes;
      sound = r.sound;
      shows = rw q (r.shows ∙ ap (λ x. replay (accepted_of cs m) (show (shown x))) (k.stays q));
      said = λ n j. rw q (r.said n j ∙ ap (λ x. said_or (last_said n j (accepted_of cs m)) (byte_seen (show (shown x)) n j)) (k.stays q));
      later = rw q (λ g. subst (λ x. Later (shown x).store (shown (run_all cs m)).store) (k.stays q) (r.later g));
    }

-- ---- a sequence that an accepted new volume begins

module _ (nodes entries chunks size : ℕ) (l : List ℕ) (begun : accepted (new_volume nodes entries chunks size) l ≡ true) (cs : List Call) where
  abbrev calls : List Call
  calls = new_volume nodes entries chunks size ∷ cs

  abbrev new : List ℕ
  new = (run (new_volume nodes entries chunks size) l).memory

  abbrev end : List ℕ
  end = run_all calls l

  rest : RanAll cs new
  rest = ran-all cs new (new-bytes nodes entries chunks size l begun) (new-sound nodes entries chunks size l begun)

  -- the sequence theorem
  pub sequence : WorkedOut calls l
  unfolding pick
  sequence = record { sound = rest.sound; shows = rw begun (rest.shows ∙ ap (replay (accepted_of cs new)) (new-empty nodes entries chunks size l begun)) }

  pub sequence-bytes : Bytes end
  sequence-bytes = rest.bytes

  -- a byte shown is what the last accepted call says of it
  pub shown-said : (n j : ℕ) → byte_seen (show (shown end)) n j ≡ byte_said n j (accepted_of calls l)
  unfolding pick
  shown-said n j =
      let zero : byte_seen (show (shown new)) n j ≡ 0 = ap (λ fs. byte_seen fs n j) (new-empty nodes entries chunks size l begun) ∙ new-says n j in
      rw begun (rest.said n j ∙ ap (said_or (last_said n j (accepted_of cs new))) zero ∙ sym (said-first (last_said n j (accepted_of cs new)) (some 0) 0))

  -- and so it is when the calls are worked out afresh
  pub said-replayed : (n j : ℕ) → byte_seen (replay (accepted_of calls l) empty_fs) n j ≡ byte_said n j (accepted_of calls l)
  said-replayed n j = ap (λ fs. byte_seen fs n j) (sym sequence.shows) ∙ shown-said n j

  -- what a read gives
  pub read-said : (n offset : ℕ) (buffer : List ℕ) (k : ℕ) (bytes : List ℕ) → Door.read n offset end buffer ≡ done k bytes → ReadsSaid n offset (accepted_of calls l) buffer k bytes
  unfolding Door.read Door.door_into Door.if_sound pick
  read-said n offset buffer k bytes q =
      let s = read-shows n offset (shown end) buffer (sym (rw (true-sound end sequence.sound) at q)) in
      record {
        gives = λ i h. s.gives i h ∙ ap (λ o. byte_of o (offset + i)) (sym (show-there (shown end) n s.there)) ∙ shown-said n (offset + i);
        keeps = s.keeps;
      }

-- ---- pointers over the history

-- word 3 never falls, and the chunk size stays: a pointer that was given out is still one of the due ones
still-once : (p : ℕ) (s t : Store) → Stored s → Stored t → Later s t → GivenOut p s → StillOnce p s t
still-once p s t before after h given =
    let d = due-facts s.allocator.chunk_size s.allocator.next_ptr p (omega (arith, before.pointers p)) in
    let size = h.size (omega (arith, d.low)) in
    let lined : p % t.allocator.chunk_size ≡ 0 = rw size d.lined in
    let below : p < t.allocator.next_ptr = omega (arith, d.low, h.next) in
    record { size = size; next = h.next; lined = lined; below = below; once = after.pointers p ∙ due-one t.allocator.chunk_size t.allocator.next_ptr p lined below }

pub pointers-kept : (nodes entries chunks size : ℕ) (l : List ℕ) → accepted (new_volume nodes entries chunks size) l ≡ true → (cs ds : List Call)
    → Each GoesOn (accepted_of ds (run_all (new_volume nodes entries chunks size ∷ cs) l)) → (p : ℕ) → GivenOut p (shown (run_all (new_volume nodes entries chunks size ∷ cs) l)).store
    → StillOnce p (shown (run_all (new_volume nodes entries chunks size ∷ cs) l)).store (shown (run_all ds (run_all (new_volume nodes entries chunks size ∷ cs) l))).store
pointers-kept nodes entries chunks size l begun cs ds goes_on p given =
    let m = run_all (new_volume nodes entries chunks size ∷ cs) l in
    let sound = (sequence nodes entries chunks size l begun cs).sound in
    let r = ran-all ds m (sequence-bytes nodes entries chunks size l begun cs) sound in
    still-once p (shown m).store (shown (run_all ds m)).store sound.good.stored r.sound.good.stored (r.later goes_on) given

-- ---- one outcome

-- two runs of the same calls on the same bytes give the same answers and leave the same bytes
pub one-run : (cs : List Call) (l : List ℕ) (one two : List Ran) → Permitted cs l one → Permitted cs l two → one ≡ two
one-run [] l [] [] p q = refl
one-run [] l [] (r ∷ two) p q = absurd q
one-run [] l (r ∷ one) two p q = absurd p
one-run (c ∷ cs) l [] two p q = absurd p
one-run (c ∷ cs) l (r ∷ one) [] p q = absurd q
one-run (c ∷ cs) l (r ∷ one) (s ∷ two) p q =
    let same : r ≡ s = p.0 ∙ sym q.0 in
    let tail = one-run cs r.memory one two p.1 (subst (λ x. Permitted cs x.memory two) (sym same) q.1) in
    rw (same, tail) refl
