use Rattle.words.proofs.Rules.{told}
use Rattle.soundness.proofs.Marks.{place-there}
use Rattle.soundness.proofs.pointers.mark.Goals as goal

pub bounds-marks-place : goal.bounds-marks-place
bounds-marks-place c =
    (place-there c.args.span c.args.next c.args.pointer c.requires.0 c.requires.1 c.quotient-place.ensures (told c.is_lined.ensures c.if-not-is_lined.false))

pub bounds-marks-place-2 : goal.bounds-marks-place-2
bounds-marks-place-2 c =
    (place-there c.args.span c.args.next c.args.pointer c.requires.0 c.requires.1 c.quotient-place.ensures (told c.is_lined.ensures c.if-not-is_lined.false))
