use Prim.Native.Nat.{◌-◌}
use lib.ListN.{length}
use Rattle.files.proofs.ReadPieces.{ReadTo}
use Rattle.files.proofs.reading.read_chunks_v2.Given as goal

abbrev pub invariant-loop-done : goal.invariant-loop-done
invariant-loop-done l =
    ReadTo l.tables.store l.node l.offset l.initial.buffer l.buffer l.place l.done

abbrev pub decreases-loop-done : goal.decreases-loop-done
decreases-loop-done l =
    length l.initial.buffer - l.done
