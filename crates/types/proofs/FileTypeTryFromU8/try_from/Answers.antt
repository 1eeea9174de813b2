use Rattle.types.specs.declared.FileType.TheVariants.{Directory, RegularFile, SymbolicLink}
use Rattle.types.proofs.KindBytes.{means_kind, means-no-kind}
use Rattle.types.proofs.FileTypeTryFromU8.try_from.Goals as goal

pub returns-in-0 : goal.returns-in-0
returns-in-0 c = means_kind Directory c.in-0.is

pub returns-in-1 : goal.returns-in-1
returns-in-1 c = means_kind RegularFile c.in-1.is

pub returns-in-2 : goal.returns-in-2
returns-in-2 c = means_kind SymbolicLink c.in-2.is

pub returns-in-3-to-255 : goal.returns-in-3-to-255
returns-in-3-to-255 c =
    means-no-kind _ c.in-3-to-255.in-3-to-255-own.rest.0.0.1 c.in-3-to-255.in-3-to-255-own.rest.0.1 c.in-3-to-255.in-3-to-255-own.rest.1
