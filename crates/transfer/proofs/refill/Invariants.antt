use lib.ListN.{take}
use Rattle.rules.specs.Bytes.{decode}
use Rattle.rules.specs.Chain.{contents}
use Rattle.rules.specs.Room.{new_buffers}
use Rattle.rules.specs.Build.{buffers_for, stored}
use Rattle.chain.specs.Length.{stretches_from}
use Rattle.transfer.proofs.Afresh.{Refilling}
use Rattle.transfer.proofs.refill.Given as goal

abbrev pub invariant-loop-left : goal.invariant-loop-left
invariant-loop-left l =
    let T = decode l.pool in
    Refilling T (stored T.stock l.initial.storage (new_buffers T (buffers_for l.n)) (take l.n (contents T.stock l.initial.storage (stretches_from T l.link)))) l.from.0 l.storage l.c l.left

abbrev pub decreases-loop-left : goal.decreases-loop-left
decreases-loop-left l = l.left
