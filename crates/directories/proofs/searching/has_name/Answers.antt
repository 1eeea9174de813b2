use mathlib.Core.Path.{◌∙◌, ap}
use Rattle.words.specs.Rules.{same}
use Rattle.directories.proofs.searching.has_name.Goals as goal

pub returns : goal.returns
returns c =
    c.same.ensures ∙ ap (λ n. same n c.args.name.now) c.entry_name.ensures
