use Rattle.rules.specs.Bytes.{decode}
use Rattle.rules.specs.Read.{copied}
use Rattle.transfer.specs.Behind.{behind}
use Rattle.transfer.proofs.Copy.{bytes_from, Going}
use Rattle.transfer.proofs.copy_out.Given as goal

abbrev pub invariant-loop-left : goal.invariant-loop-left
invariant-loop-left l =
    let T = decode l.pool in
    Going T l.storage (copied (bytes_from T l.storage l.initial.g l.n) l.initial.output) (behind T l.initial.g l.n) l.g l.left l.at l.output

abbrev pub decreases-loop-left : goal.decreases-loop-left
decreases-loop-left l = l.left
