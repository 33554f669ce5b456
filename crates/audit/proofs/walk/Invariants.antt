use Prim.Native.Nat.{◌-◌, ◌+◌}
use Rattle.audit.proofs.Colours.{Under}
use Rattle.audit.proofs.walk.Given as goal

abbrev pub invariant-loop-i : goal.invariant-loop-i
invariant-loop-i l = Under l.pool l.shape l.fn.colours l.follows l.fn.d.0 l.colours l.link l.n

abbrev pub decreases-loop-i : goal.decreases-loop-i
decreases-loop-i l = l.shape.pieces + 1 - l.n
