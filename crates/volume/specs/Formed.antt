-- Inner: bytes that are a volume laid out, which the functions over its tables ask for.
-- Assumes nothing.
use Rattle.std.specs.Prelude.{◌≡◌, ℕ, List}
use Rattle.volume.specs.Volume.{shown, laid}
use Rattle.volume.specs.Framed.{Fits}

pub record Formed (l : List ℕ) : Type 0 where
  pub same : laid (shown l) ≡ l
  pub fits : Fits (shown l)
