use mathlib.Core.Path.{◌≡◌}
use Prim.Native.Nat.{◌+◌}
use lib.ListN.{length}
use Rattle.rules.specs.Basics.{Is}
use Rattle.rules.specs.Bytes.{decode}
use Rattle.rules.specs.Sound.{link_ok}
use Rattle.chain.specs.Length.{stretches_from}
use Rattle.chain.proofs.pieces_from.Given as goal

abbrev pub invariant-loop-at : goal.invariant-loop-at
invariant-loop-at l =
    let T = decode l.pool in
    Is (link_ok T l.at) × (l.pieces + length (stretches_from T l.at) ≡ length (stretches_from T l.link))

abbrev pub decreases-loop-at : goal.decreases-loop-at
decreases-loop-at l = length (stretches_from (decode l.pool) l.at)
