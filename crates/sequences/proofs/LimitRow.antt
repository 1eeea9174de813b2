-- An accepted set limit at the door: the row of its node afterwards has the limit, and is else as it was.
-- Assumes nothing.
use Rattle.std.specs.Prelude.{}
use mathlib.Core.Path.{◌≡◌, sym, ap, ◌∙◌}
use mathlib.Core.Bool.{true}
use mathlib.Core.List.{List}
use mathlib.Core.Option.{some}
use Prim.Native.Nat.{ℕ}
use Rattle.words.specs.Bytes.{Bytes}
use Rattle.types.specs.Nodes.{Limit}
use Rattle.types.specs.declared.NodeRecord.{NodeRecord}
use Rattle.volume.specs.Volume.{Volume, shown}
use Rattle.volume.specs.Sound.{node, Sound}
use Rattle.volume.proofs.Laid.{framed-formed}
use Rattle.tables.specs.OneRow.{limited}
use Rattle.files.specs.Limits as Limits
use Rattle.files.proofs.LimitSteps.{limit-kept}
use Rattle.lentilraft.specs.Door as Door
use Rattle.lentilraft.specs.Door.{door}
use Rattle.sequences.specs.Calls.{set_limit}
use Rattle.sequences.specs.Run.{run, accepted}
use Rattle.sequences.proofs.FilesShown.{limit-row}
use Rattle.sequences.proofs.OneCall.{is-done, door-answer, door-after}

pub limit-becomes : (n : ℕ) (m : Limit) (l : List ℕ) → Bytes l → Sound l → accepted (set_limit n m) l ≡ true → (r : NodeRecord) → node n (shown l).names ≡ some r
    → node n (shown (run (set_limit n m) l).memory).names ≡ some (limited m r)
unfolding Door.set_limit
limit-becomes n m l b h q r there =
    let call = Limits.set_limit n m in
    let d = is-done (door l call).answer q in
    ap (λ (v : Volume). node n v.names) (door-after call (limit-kept n m) l b h)
    ∙ limit-row n m (shown l) (framed-formed l b h.framed).fits h.good d.0 (sym (door-answer call (limit-kept n m) l b h) ∙ d.1) r there
