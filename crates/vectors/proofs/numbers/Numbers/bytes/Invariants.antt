use Rattle.std.proofs.Common.{◌≡◌, ◌+◌, ◌%◌, ◌≤◌, min, map, length, take, drop}
use Rattle.vectors.specs.Scan.{numbers_at, after_at}
use Rattle.vectors.proofs.numbers.Numbers.bytes.Given as goal

abbrev pub invariant-loop-byte : goal.invariant-loop-byte
invariant-loop-byte l =
    (take l.byte-index l.out ≡ map (λ n. n % 256) (numbers_at l.initial.self 0 l.byte-index)) × (l.self ≡ drop (after_at l.initial.self 0 l.byte-index) l.initial.self) × (min l.byte-index (length l.initial.self) + length l.self ≤ length l.initial.self)
