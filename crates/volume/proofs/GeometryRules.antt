-- Laws of the geometry: what the tests mean, and the place that they give.
-- Assumes nothing.
use Rattle.std.specs.Prelude.{Option, Some, None}
use mathlib.Core.Path.{◌≡◌, refl, ap}
use mathlib.Core.Bool.{Bool, true, false}
use Prim.Native.Nat.{ℕ, ◌+◌, ◌≤◌}
use Rattle.words.specs.Rules.{Says}
use Rattle.words.proofs.Rules.{says-itself, says-opposite, says_both, says-leb, says_map, says-true, false-says, call-yes, pick_true, pick-false}
use Rattle.types.specs.Sizes.{most_rows, least_area}
use Rattle.volume.specs.declared.Layout.{Layout}
use Rattle.volume.specs.Volume.{at_bytes}
use Rattle.volume.specs.Framed.{Placed}
use Rattle.volume.specs.Geometry.{roomy, placed}
use Rattle.volume.specs.Layouts.{place_if}

pub says-roomy : (n : ℕ) → Says ((1 ≤ n) × (n ≤ most_rows)) (roomy n)
unfolding roomy
says-roomy n = says_both (says-leb 1 n) (says-leb n most_rows)

pub roomy-fits : {n : ℕ} → roomy n ≡ true → (1 ≤ n) × (n ≤ most_rows)
roomy-fits {n} e = says-true (says-roomy n) e

pub says-placed : (n e c size : ℕ) → Says (Placed n e c size) (placed n e c size)
unfolding placed
says-placed n e c size =
    says_map (λ p. record { nodes = p.0; entries = p.1.0; chunks = p.1.1.0; long = p.1.1.1 }) (λ h. (h.nodes, (h.entries, (h.chunks, h.long))))
    (says_both (says-roomy n) (says_both (says-roomy e) (says_both (says-roomy c) (says-leb (at_bytes n e c + least_area) size))))

-- ---- a place that stands for a test

module _ (b : Bool) (y : Layout) where
  pub nowhere : b ≡ false → None ≡ place_if b y
  unfolding place_if
  nowhere e = pick-false _ _ _ _ e refl

  pub somewhere : {z : Layout} → b ≡ true → z ≡ y → Some z ≡ place_if b y
  unfolding place_if
  somewhere e h = pick_true _ _ _ _ e (ap Some h)

  -- what a place that was given says of the test, and of the layout
  module _ {r : Option Layout} (h : r ≡ place_if b y) where
    pub place-fails : r ≡ None → b ≡ false
    place-fails t = false-says (says-itself b) (λ q. let s : Some y ≡ place_if b y = somewhere q refl in cc)

    pub place-passes : {z : Layout} → r ≡ Some z → b ≡ true
    place-passes t = call-yes refl (false-says (says-opposite b) (λ no. let n : None ≡ place_if b y = nowhere no in cc))

    pub place-layout : {z : Layout} → r ≡ Some z → z ≡ y
    place-layout k = let a : Some y ≡ place_if b y = somewhere (place-passes k) refl in cc

  pub is_at : {z : Layout} → Some z ≡ place_if b y → (b ≡ true) × (z ≡ y)
  is_at h = (place-passes h refl, place-layout h refl)
