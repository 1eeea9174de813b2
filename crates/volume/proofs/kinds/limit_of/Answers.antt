use Rattle.volume.proofs.KindBytes.{no-limit, one-limit}
use Rattle.volume.proofs.kinds.limit_of.Goals as goal

pub returns-in-0 : goal.returns-in-0
returns-in-0 c =
    no-limit c.args.word c.in-0.is

pub returns-in-1-to-255 : goal.returns-in-1-to-255
returns-in-1-to-255 c =
    one-limit c.args.flag c.args.word c.in-1-to-255.in-1-to-255-own.rest.1
