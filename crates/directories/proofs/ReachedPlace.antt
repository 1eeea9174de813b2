-- The place that a path leads to: where there is a part, an entry stands there.
-- Assumes nothing.
use Rattle.std.specs.Prelude.{Some, None, Ok, Err}
use mathlib.Core.Path.{◌≡◌, refl, sym, ◌∙◌}
use mathlib.Core.Bool.{Bool, true, false, false≢true}
use mathlib.Core.List.{List, [], ◌∷◌}
use Prim.Native.Nat.{ℕ, ◌<◌}
use native.Mathlib.Omega.{arith}
use lib.Dec.{ltb}
use lib.ListN.{length}
use borrow.Author.Tests.{lt-ltb}
use Rattle.words.specs.Rules.{pick}
use Rattle.words.specs.Tables.{Asc}
use Rattle.types.specs.Sizes.{most_name}
use Rattle.types.specs.declared.Error.{Error}
use Rattle.types.specs.declared.Error.TheVariants.{PathNotPermitted, BadName}
use Rattle.paths.specs.Path.{Cutting, parts, not_permitted, too_long, cut_path}
use Rattle.volume.specs.Rows.{Entry}
use Rattle.volume.specs.Volume.{Names}
use Rattle.volume.specs.Sound.{entry_before}
use Rattle.tables.specs.Tables.{entry_at, found_node, Found}
use Rattle.names.specs.Walks.{on_cutting}
use Rattle.directories.specs.declared.finding.Reached.{Reached}
use Rattle.directories.specs.Searches.{entry_found}
use Rattle.directories.specs.Reaches.{Reach, reached_by, begun, reach, reach_next, reach_all, reach_of, reach_from, reach_parts, reach_path}
use Rattle.directories.proofs.NamedEntry.{entry_found_lem}
use Rattle.directories.proofs.ReachedDirectory.{parts-reached}

module _ (es : List Entry) (asc : Asc entry_before es) where
  one_inside : (n : ℕ) (part : List ℕ) {m : Reached} → Ok m ≡ reach es n part → m.place < length es
  unfolding reach reached_by pick
  one_inside n part {m} e = go (ltb most_name (length part)) e
    where
      named : (s : Found) → s ≡ entry_found n part es → Ok m ≡ reached_by es s → m.place < length es
      named (Some i) h z = let j : m ≡ record { node = (entry_at es i).node; place = i } = cc in rw j (entry_found_lem n part es asc h).0
      named None h z = absurd cc

      go : (b : Bool) → Ok m ≡ pick b (Err BadName) (reached_by es (entry_found n part es)) → m.place < length es
      go true z = absurd cc
      go false z = named (entry_found n part es) refl z

  next-inside : (r : Reach) (part : List ℕ) {m : Reached} → Ok m ≡ reach_next es r part → m.place < length es
  unfolding reach_next
  next-inside (Ok n) part e = one_inside n.node part e
  next-inside (Err x) part e = absurd cc

  all-inside : (ps : List (List ℕ)) (r : Reach) → ((m : Reached) → Ok m ≡ r → m.place < length es) → {m : Reached} → Ok m ≡ reach_all es r ps → m.place < length es
  unfolding reach_all
  all-inside [] r h {m} e = h m e
  all-inside (part ∷ ps) r h e = all-inside ps (reach_next es r part) (λ m. next-inside r part) e

module _ (start : ℕ) (a : Names) (asc : Asc entry_before a.entries) where
  place_inside : (ps : List (List ℕ)) → (length ps ≡ 0 → ⊥) → {m : Reached} → Ok m ≡ reach_from start a ps → m.place < length a.entries
  unfolding reach_from reach_of reach_all
  place_inside [] h e = absurd (h refl)
  place_inside (part ∷ ps) h {m} e = go (found_node start a.nodes) e
    where
      go : (f : Found) → Ok m ≡ reach_of a.entries start (part ∷ ps) f → m.place < length a.entries
      go (Some i) z = all-inside a.entries asc ps (reach_next a.entries (begun start) part) (λ m. next-inside a.entries asc (begun start) part) z
      go None z = absurd cc

  -- where there is a part, an entry stands there
  pub path_inside : (path : List ℕ) (least : ℕ) → 0 < least → {m : Reached} → Ok m ≡ reach_path start path least a → m.place < length a.entries
  unfolding reach_path on_cutting pick
  path_inside path least some {m} e = go (cut_path path) e
    where
      refused : {x : Error} → ◌≡◌ {A = Reach} (Ok m) (Err x) → m.place < length a.entries
      refused z = absurd cc

      enough : (ps : List (List ℕ)) (b : Bool) → ltb (length ps) least ≡ b → Ok m ≡ pick b (Err PathNotPermitted) (reach_parts start path a ps) → m.place < length a.entries
      enough ps true h z = refused z
      enough ps false h z = place_inside ps (λ k. absurd (false≢true (sym h ∙ lt-ltb (length ps) least (omega arith)))) (parts-reached start path a ps z)

      go : (c : Cutting) → Ok m ≡ on_cutting Err (λ ps. pick (ltb (length ps) least) (Err PathNotPermitted) (reach_parts start path a ps)) c → m.place < length a.entries
      go (parts ps) z = enough ps (ltb (length ps) least) refl z
      go not_permitted z = refused z
      go too_long z = refused z
