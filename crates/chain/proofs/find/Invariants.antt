use mathlib.Core.Path.{◌≡◌}
use mathlib.Core.Bool.{true}
use lib.ListN.{length}
use Rattle.rules.specs.Basics.{Is}
use Rattle.rules.specs.Tables.{piece_total}
use Rattle.rules.specs.Bytes.{decode}
use Rattle.rules.specs.Chain.{walk}
use Rattle.rules.specs.Sound.{link_ok}
use Rattle.chain.specs.Find.{spot_of}
use Rattle.chain.proofs.find.Given as goal

abbrev pub invariant-loop-at : goal.invariant-loop-at
invariant-loop-at l =
    let T = decode l.pool in
    Is (link_ok T l.at) × (spot_of (piece_total T) T l.own l.at l.left ≡ spot_of (piece_total T) T true l.link l.off)

abbrev pub decreases-loop-at : goal.decreases-loop-at
decreases-loop-at l = let T = decode l.pool in length (walk (piece_total T) T l.at)
