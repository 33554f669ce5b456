use Rattle.rules.specs.Bytes.{decode}
use Rattle.rules.specs.Chain.{state_of}
use Rattle.tables.specs.Shape.{Shaped}
use Rattle.release.proofs.Laws.{Left, references}
use Rattle.release.proofs.release.Given as goal

abbrev pub invariant-loop-next : goal.invariant-loop-next
invariant-loop-next l = Shaped l.pool l.shape × Left (state_of (decode l.initial.pool) l.initial.storage) l.link (state_of (decode l.pool) l.storage) l.next

abbrev pub decreases-loop-next : goal.decreases-loop-next
decreases-loop-next l = references (decode l.pool)
