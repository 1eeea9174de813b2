use mathlib.Core.Path.{◌∙◌, ap}
use lib.ListN.{take}
use Rattle.words.specs.Bytes.{spell}
use Rattle.words.proofs.Parts.{lent_at}
use Rattle.words.proofs.Numbers.{least-bytes, length-spell}
use Rattle.words.proofs.put.Goals as goal

pub returns : goal.returns
returns g c =
    let a = c.args in
    let e = c.copy_from_slice.ensures.after ∙ ap (take g.row.N) c.to_le_bytes.ensures ∙ least-bytes g.row.N a.x c.requires.width in
    lent_at a.v.now a.at g.row.N _ (spell g.row.N a.x) e (length-spell g.row.N a.x)
