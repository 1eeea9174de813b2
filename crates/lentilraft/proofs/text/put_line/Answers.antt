use Rattle.lentilraft.proofs.Lines.{line-put}
use Rattle.lentilraft.proofs.text.put_line.Goals as goal

pub returns : goal.returns
returns c =
    let p = c.places-k in
    line-put c.args.out.now c.args.at c.args.key.now c.args.n p.result p.ensures.0 p.ensures.2 c.requires c.copy.ensures c.put_digits.ensures c.put.ensures
