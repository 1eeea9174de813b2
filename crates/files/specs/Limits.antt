-- Believed: set limit, to a number or none: 2, 3, 13 above 2^40, 5 below size.
-- Assumes nothing.
use Rattle.std.specs.Prelude.{ℕ, ltb}
use Rattle.words.specs.Rules.{pick}
use Rattle.types.specs.Sizes.{most_size}
use Rattle.types.specs.Nodes.{limit_word, file_limit}
use Rattle.types.specs.Nodes.{Limit}
use Rattle.types.specs.declared.Error.TheVariants.{InvalidArgument, FileTooLarge}
use Rattle.types.specs.declared.NodeRecord.{NodeRecord}
use Rattle.volume.specs.Volume.{Volume, on_names}
use Rattle.volume.specs.Steps.{Step, stays, becomes, with_node}
use Rattle.volume.specs.Files.{on_file}
use Rattle.tables.specs.OneRow.{limited}

unfoldable pub limit_file : Limit → Volume → NodeRecord → Step
limit_file limit v r =
    pick (ltb most_size (limit_word limit)) (stays InvalidArgument v)
    (pick (ltb (file_limit limit) r.size) (stays FileTooLarge v) (becomes 0 (on_names (with_node r.node (limited limit)) v)))

unfoldable pub set_limit : ℕ → Limit → Volume → Step
set_limit n limit v = on_file n v.names (λ e. stays e v) (limit_file limit v)
