use borrow.Author.Rules.{rules}
use mathlib.Core.Path.{◌≡◌, ◌∙◌}
use Rattle.paths.proofs.Names.{is_name, name-long, name-slash, name-by-sort}
use Rattle.paths.proofs.name_allowed.Goals as goal

pub returns-then-name-gt-MOST_NAME : goal.returns-then-name-gt-MOST_NAME
returns-then-name-gt-MOST_NAME c =
    name-long c.args.name.now c.if-name-gt-MOST_NAME.true

pub returns-then-not-contains : goal.returns-then-not-contains
returns-then-not-contains c =
    let named : c.eq.result ≡ is_name c.sort_of.result = search rules in
    named ∙ name-by-sort c.args.name.now c.if-name-gt-MOST_NAME.false c.contains.ensures.value c.if-not-contains.true c.sort_of.ensures

pub returns-else-not-contains : goal.returns-else-not-contains
returns-else-not-contains c =
    name-slash c.args.name.now c.contains.ensures.value c.if-not-contains.false
