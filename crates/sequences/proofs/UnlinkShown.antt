-- An unlink, as shown: the names that lead to its entry, and the file system with that name and that link less.
-- Assumes nothing.
use Rattle.std.specs.Prelude.{Ok}
use mathlib.Core.Path.{◌≡◌, refl, sym, ap, ◌∙◌}
use mathlib.Core.Bool.{Bool, true, false, not, true≢false}
use mathlib.Core.List.{List, [], ◌∷◌, map}
use mathlib.Core.Option
use mathlib.Core.Option.{Option, none, some}
use Prim.Native.Nat.{ℕ, ◌-◌}
use native.Mathlib.Omega.{arith}
use lib.Dec.{eqb, ltb}
use lib.ListN.{length}
use borrow.Author.Tests.{eqb-true}
use Rattle.words.specs.Rules.{pick, both, same}
use Rattle.words.specs.Tables.{find, only}
use Rattle.words.proofs.Rules.{says-true, false-says}
use Rattle.words.proofs.FoundRows.{found-passes, found-each}
use Rattle.types.specs.Sizes.{most_name}
use Rattle.types.specs.declared.Error.TheVariants.{NoSuchEntry, BadName}
use Rattle.types.specs.declared.Expected.{Expected}
use Rattle.types.specs.declared.NodeRecord.{NodeRecord}
use Rattle.volume.specs.Rows.{Entry}
use Rattle.volume.specs.Volume.{Names, Volume, on_names}
use Rattle.volume.specs.Sound.{node, DirectoryThere, Named, Good}
use Rattle.volume.specs.Steps.{name_step}
use Rattle.names.specs.Entries.{has_name, entry_named, on_entry}
use Rattle.names.specs.Walks.{on_cutting, reached, stopped, walk_parts, on_start, walk_from}
use Rattle.names.specs.Unlinking.{is_entry, without, unlinked}
use Rattle.names.specs.Unlinking as Unlinking
use Rattle.names.proofs.Entered.{says-named}
use Rattle.names.proofs.EntryKeys.{says-entry}
use Rattle.names.proofs.Unlinked.{Unlinkable, unlink-apart, unlinked-target, unlinked-holder, unlinked-other}
use Rattle.names.proofs.UnlinkedNames.{unlink-leads}
use Rattle.sequences.specs.Fs.{NameSeen, Fs}
use Rattle.sequences.specs.Show.{name_seen, names_in, show}
use Rattle.sequences.specs.Act.{change_at, with_links, without_name, NameIn, names_of, on_name, followed, path_name, unlinked_from}
use Rattle.sequences.proofs.Shown.{seen_same, fs-same, change-here, change-other, by-node, show-there, shows_same}

-- ---- the names of a directory

-- without an entry: its directory has all names but the one with its index
pub names-without : (e : Entry) (es : List Entry) → names_in e.parent (without e es) ≡ only (λ y. not (eqb y.index e.index)) (names_in e.parent es)
unfolding names_in without only pick both
names-without e [] = refl
names-without e (x ∷ es) = go (eqb x.parent e.parent) refl (eqb x.index e.index) refl (names-without e es)
  where
    stay : Entry → Bool
    stay f = not (is_entry e.parent e.index f)

    inside : Entry → Bool
    inside f = eqb f.parent e.parent

    other : NameSeen → Bool
    other y = not (eqb y.index e.index)

    go : (b : Bool) → inside x ≡ b → (c : Bool) → eqb x.index e.index ≡ c → map name_seen (only inside (only stay es)) ≡ only other (map name_seen (only inside es))
        → map name_seen (only inside (pick (not (both b c)) (x ∷ only stay es) (only stay es))) ≡ only other (map name_seen (pick b (x ∷ only inside es) (only inside es)))
    go true p true q ih = rw q ih
    go true p false q ih = rw (p, q, ih)
    go false p c q ih = rw p ih

-- rows that pass one test are among those that pass a wider one
only-only : {R : Type 0} (f g : R → Bool) → ((r : R) → f r ≡ true → g r ≡ true) → (rs : List R) → only f (only g rs) ≡ only f rs
unfolding only pick
only-only f g h [] = refl
only-only {R} f g h (r ∷ rs) = go (f r) refl (g r) refl (only-only f g h rs)
  where
    go : (b : Bool) → f r ≡ b → (c : Bool) → g r ≡ c → only f (only g rs) ≡ only f rs → only f (pick c (r ∷ only g rs) (only g rs)) ≡ pick b (r ∷ only f rs) (only f rs)
    go b p true q ih = rw (p, ih)
    go true p false q ih = absurd (true≢false (sym (h r p) ∙ q))
    go false p false q ih = ih

-- any other directory has the names it had
pub names-without-other : (e : Entry) (m : ℕ) → (m ≡ e.parent → ⊥) → (es : List Entry) → names_in m (without e es) ≡ names_in m es
unfolding names_in without
names-without-other e m h es = ap (map name_seen) (only-only (λ f. eqb f.parent m) (λ f. not (is_entry e.parent e.index f)) stays es)
  where
    stays : (f : Entry) → eqb f.parent m ≡ true → not (is_entry e.parent e.index f) ≡ true
    stays f q = ap not (false-says (says-entry e.parent e.index f) (λ z. h (sym (eqb-true f.parent m q) ∙ z.0)))

-- a name among them is the name of the entry that has it
pub names-find : (n : ℕ) (p : List ℕ) (es : List Entry) → find (λ y. same y.name p) (names_in n es) ≡ Option.map name_seen (entry_named n p es)
unfolding names_in entry_named find only pick both
names-find n p [] = refl
names-find n p (x ∷ es) = go (eqb x.parent n) (same x.name p) refl (names-find n p es)
  where
    named : NameSeen → Bool
    named y = same y.name p

    inside : Entry → Bool
    inside f = eqb f.parent n

    go : (b c : Bool) → same x.name p ≡ c → find named (map name_seen (only inside es)) ≡ Option.map name_seen (find (has_name n p) es)
        → find named (map name_seen (pick b (x ∷ only inside es) (only inside es))) ≡ Option.map name_seen (pick (both b c) (some x) (find (has_name n p) es))
    go true true q ih = rw q
    go true false q ih = rw q ih
    go false c q ih = ih

-- ---- names followed

-- an entry as a name in its directory
abbrev pub name_in : Entry → NameIn
name_in e = record { directory = e.parent; seen = name_seen e }

module _ (v : Volume) (g : Named v.names) where
  abbrev es : List Entry
  es = v.names.entries

  -- the entry that has a name in node n is one of n
  its-parent : (n : ℕ) (p : List ℕ) (e : Entry) → entry_named n p es ≡ some e → e.parent ≡ n
  unfolding entry_named
  its-parent n p e h = (says-true (says-named n p e) (found-passes (has_name n p) es e h)).0

  -- and is seen there: a node that has an entry has a row
  entry_seen : (n : ℕ) (p : List ℕ) (e : Entry) → entry_named n p es ≡ some e → find (λ y. same y.name p) (names_of ((show v).at n)) ≡ some (name_seen e)
  entry_seen n p e h = go (node n v.names) refl (rw (its-parent n p e h) at (found-each (has_name n p) (λ f. DirectoryThere (node f.parent v.names)) es e g.parents (unfold entry_named in h)))
    where
      go : (o : Option NodeRecord) → node n v.names ≡ o → DirectoryThere o → find (λ y. same y.name p) (names_of ((show v).at n)) ≡ some (name_seen e)
      go none q k = absurd k
      go (some r) q k = rw (show-there v n q) (names-find n p es ∙ ap (Option.map name_seen) h)

  module _ (m : ℕ) (e : Entry) where
    -- where a walk ends with an entry, its parts are followed to the name of it; whatever entry the walk has come by
    followed-walk : (ps : List (List ℕ)) (n : ℕ) (last : Option Entry) → walk_parts es n last ps ≡ reached m (some e) → followed (show v) n (Option.map name_in last) ps ≡ some (name_in e)
    unfolding walk_parts followed pick on_entry
    followed-walk [] n last h = let q : last ≡ some e = cc in ap (Option.map name_in) q
    followed-walk (p ∷ ps) n last h = go (ltb most_name (length p)) (entry_named n p es) refl h (followed-walk ps)
      where
        go : (b : Bool) (o : Option Entry) → entry_named n p es ≡ o → pick b (stopped BadName) (on_entry (stopped NoSuchEntry) (λ f. walk_parts es f.node (some f) ps) o) ≡ reached m (some e)
            → ((k : ℕ) (l : Option Entry) → walk_parts es k l ps ≡ reached m (some e) → followed (show v) k (Option.map name_in l) ps ≡ some (name_in e)) → followed (show v) n (Option.map name_in last) (p ∷ ps) ≡ some (name_in e)
        go true o q w ih = let x : ◌≡◌ {A = ℕ} 0 1 = cc in absurd (omega arith)
        go false none q w ih = let x : ◌≡◌ {A = ℕ} 0 1 = cc in absurd (omega arith)
        go false (some f) q w ih = rw (entry_seen n p f q) (ap (λ (d : ℕ). followed (show v) f.node (some (record { directory = d; seen = name_seen f })) ps) (sym (its-parent n p f q)) ∙ ih f.node (some f) w)

    -- so from a start
    pub followed-leads : (start : ℕ) (ps : List (List ℕ)) → walk_parts es start none ps ≡ reached m (some e) → followed (show v) start none ps ≡ some (name_in e)
    followed-leads start ps h = followed-walk ps start none h

-- ---- the file system with the name and the link less

module _ (v : Volume) (g : Named v.names) (e : Entry) (u : Unlinkable v.names e) where
  -- the volume after it
  abbrev w : Volume
  w = on_names (unlinked e) v

  -- what v shows, with the link less
  abbrev fewer : Fs
  fewer = change_at e.node (λ y. with_links (y.links - 1) y) (show v)

  -- its entries are those of v but for one, and so are its names
  entries-without : w.names.entries ≡ without e v.names.entries
  unfolding unlinked
  entries-without = refl

  other-names : (m : ℕ) → (m ≡ e.parent → ⊥) → names_in m w.names.entries ≡ names_in m v.names.entries
  other-names m h = ap (names_in m) entries-without ∙ names-without-other e m h v.names.entries

  -- the directory has the name no more
  at-parent : (show w).at e.parent ≡ (unlinked_from (show v) (name_in e)).at e.parent
  at-parent =
      show-there w e.parent (unlinked-holder v.names g e u)
      ∙ ap some (seen_same refl refl refl refl (λ j. refl) (ap (names_in e.parent) entries-without ∙ names-without e v.names.entries))
      ∙ sym (change-here e.parent (without_name e.index) fewer (change-other e.node _ (show v) e.parent (λ q. unlink-apart v.names g e u (sym q)) ∙ show-there v e.parent u.parent))

  -- the node has a link less
  at-node : (show w).at e.node ≡ fewer.at e.node
  at-node =
      show-there w e.node (unlinked-target v.names g e u)
      ∙ ap some (seen_same refl refl refl refl (λ j. refl) (other-names e.node (unlink-apart v.names g e u)))
      ∙ sym (change-here e.node (λ y. with_links (y.links - 1) y) (show v) (show-there v e.node u.target))

  -- and another node is as it was
  at_other : (m : ℕ) → (m ≡ e.parent → ⊥) → (m ≡ e.node → ⊥) → (show w).at m ≡ fewer.at m
  at_other m p n = shows_same v w m (unlinked-other v.names g e u m n p) (λ j. refl) (other-names m p) ∙ sym (change-other e.node _ (show v) m n)

  -- so all of it
  unlinked-shows : show w ≡ unlinked_from (show v) (name_in e)
  unlinked-shows =
      fs-same (unfold show change_at unlinked in refl)
      (by-node (λ m. (show w).at m ≡ (unlinked_from (show v) (name_in e)).at m) e.parent at-parent
      (λ m p. by-node (λ k. (k ≡ e.parent → ⊥) → (show w).at k ≡ fewer.at k) e.node (λ _. at-node) (λ k n q. at_other k q n) m p ∙ sym (change-other e.parent _ fewer m p)))

-- ---- any unlink

-- a walk from a start is that of its parts
walk-parts : (start : ℕ) (a : Names) (ps : List (List ℕ)) (m : ℕ) (e : Entry) → walk_from start a ps ≡ reached m (some e) → walk_parts a.entries start none ps ≡ reached m (some e)
unfolding walk_from on_start
walk-parts start a ps m e = go (node start a)
  where
    go : (o : Option NodeRecord) → on_start (stopped NoSuchEntry) (walk_parts a.entries start none ps) o ≡ reached m (some e) → walk_parts a.entries start none ps ≡ reached m (some e)
    go none h = let x : ◌≡◌ {A = ℕ} 0 1 = cc in absurd (omega arith)
    go (some r) h = h

-- the name that the path leads by goes, and so does the link
pub unlink-shows : (start : ℕ) (path : List ℕ) (want : Expected) (opens : ℕ) (v : Volume) → Good v → (k : ℕ) → (Unlinking.unlink start path want opens v.names).answer ≡ Ok k
    → show (name_step (Unlinking.unlink start path want opens) v).after ≡ on_name (show v) (unlinked_from (show v)) (path_name (show v) start path)
unfolding on_cutting
unlink-shows start path want opens v g k h =
    let t = unlink-leads start path want opens v.names g.named k h in
    let l = t.leads in
    let f = followed-leads v g.named l.found t.entry start l.names (walk-parts start v.names l.names l.found t.entry l.walk) in
    rw (t.gone, l.cut, f) (unlinked-shows v g.named t.entry t.can)
