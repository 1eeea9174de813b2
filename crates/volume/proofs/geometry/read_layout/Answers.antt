use mathlib.Core.Path.{◌∙◌}
use Rattle.volume.proofs.geometry.read_layout.Goals as goal

pub returns : goal.returns
returns c =
    c.starts.ensures ∙ rw (c.get.ensures.value, c.get-2.ensures.value, c.get-3.ensures.value)
