use mathlib.Core.Path.{◌≡◌}
use Prim.Native.Nat.{◌+◌, ◌≤◌}
use lib.ListN.{length}
use Rattle.rules.specs.Basics.{Is}
use Rattle.rules.specs.Tables.{piece_total}
use Rattle.rules.specs.Bytes.{decode}
use Rattle.rules.specs.Chain.{walk}
use Rattle.rules.specs.Sound.{link_ok}
use Rattle.chain.specs.Part.{part_of}
use Rattle.chain.proofs.Parts.{part_from}
use Rattle.chain.proofs.part_of.Given as goal

abbrev pub invariant-loop-left : goal.invariant-loop-left
invariant-loop-left l =
    let T = decode l.pool in
    Is (link_ok T l.at) × (l.pieces + length (walk (piece_total T) T l.at) ≤ piece_total T) × (part_from l.pieces T l.at l.left ≡ part_of T l.link l.n)

abbrev pub decreases-loop-left : goal.decreases-loop-left
decreases-loop-left l = let T = decode l.pool in length (walk (piece_total T) T l.at)
