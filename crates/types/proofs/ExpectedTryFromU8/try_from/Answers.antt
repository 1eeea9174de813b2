use mathlib.Core.Path.{refl}
use Rattle.words.specs.Rules.{pick}
use Rattle.types.specs.declared.Expected.TheVariants.{Any, Directory, File}
use Rattle.types.specs.Kinds.{wanted_of}
use Rattle.types.proofs.KindBytes.{means_wanted, means-not-wanted}
use Rattle.types.proofs.ExpectedTryFromU8.try_from.Goals as goal

pub returns-in-0 : goal.returns-in-0
unfolding wanted_of pick
returns-in-0 c = means_wanted Any c.in-0.is refl

pub returns-in-1 : goal.returns-in-1
unfolding wanted_of pick
returns-in-1 c = means_wanted Directory c.in-1.is refl

pub returns-in-2 : goal.returns-in-2
unfolding wanted_of pick
returns-in-2 c = means_wanted File c.in-2.is refl

pub returns-in-3-to-255 : goal.returns-in-3-to-255
returns-in-3-to-255 c =
    means-not-wanted _ c.in-3-to-255.in-3-to-255-own.rest.0.0.1 c.in-3-to-255.in-3-to-255-own.rest.0.1 c.in-3-to-255.in-3-to-255-own.rest.1
