use Rattle.std.proofs.Common.{◌≡◌, ◌+◌, ◌≤◌, min, length, take, drop}
use Rattle.vectors.specs.Scan.{numbers_at, after_at}
use Rattle.vectors.proofs.numbers.Numbers.numbers_into.Given as goal

abbrev pub invariant-loop-x : goal.invariant-loop-x
invariant-loop-x l =
    (take l.x-index l.out ≡ numbers_at l.initial.self 0 l.x-index) × (l.self ≡ drop (after_at l.initial.self 0 l.x-index) l.initial.self) × (min l.x-index (length l.initial.self) + length l.self ≤ length l.initial.self)
