use mathlib.Core.Path.{◌≡◌}
use Prim.Native.Nat.{◌+◌, ◌-◌, ◌*◌, ◌≤◌}
use Rattle.kinds.specs.Limits.{buffer_size}
use Rattle.rules.specs.Basics.{Is}
use Rattle.rules.specs.Tables.{piece_total}
use Rattle.rules.specs.Bytes.{decode}
use Rattle.rules.specs.Chain.{total}
use Rattle.rules.specs.Sound.{link_ok}
use Rattle.chain.specs.Length.{stretches_from}
use Rattle.own.specs.Own.{own_part}
use Rattle.own.proofs.Own.{own_part_from}
use Rattle.own.proofs.own_part.Given as goal

abbrev pub invariant-loop-bytes : goal.invariant-loop-bytes
invariant-loop-bytes l =
    let T = decode l.pool in
    Is (link_ok T l.at) × (l.bytes + total (stretches_from T l.at) ≤ buffer_size * piece_total T) × (own_part_from l.bytes l.last (l.n - l.bytes) T l.at ≡ own_part T l.link l.n)

abbrev pub decreases-loop-bytes : goal.decreases-loop-bytes
decreases-loop-bytes l = l.n - l.bytes
