use Prim.Native.Nat.{◌*◌}
use lib.ListN.{take, drop}
use Rattle.kinds.specs.Limits.{buffer_size}
use Rattle.rules.specs.Bytes.{decode}
use Rattle.rules.specs.Read.{copied}
use Rattle.transfer.specs.Behind.{behind}
use Rattle.transfer.proofs.Copy.{bytes_from}
use Rattle.transfer.proofs.Move.{Moving}
use Rattle.transfer.proofs.refill_buffer.Given as goal

abbrev pub invariant-loop-left : goal.invariant-loop-left
invariant-loop-left l =
    let T = decode l.pool in
    Moving T (buffer_size * l.b.0) buffer_size l.initial.storage (copied (bytes_from T l.initial.storage l.initial.g l.n) (take buffer_size (drop (buffer_size * l.b.0) l.initial.storage))) (behind T l.initial.g l.n) l.g l.left l.at l.storage

abbrev pub decreases-loop-left : goal.decreases-loop-left
decreases-loop-left l = l.left
