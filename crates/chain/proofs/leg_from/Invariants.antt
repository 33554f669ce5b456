use mathlib.Core.Path.{◌≡◌}
use Prim.Native.Nat.{◌+◌, ◌-◌, ◌*◌, ◌≤◌}
use Rattle.kinds.specs.Limits.{buffer_size}
use Rattle.rules.specs.Basics.{Is}
use Rattle.rules.specs.Bytes.{decode}
use Rattle.rules.specs.Chain.{follow, walk, stretches, total}
use Rattle.rules.specs.Sound.{link_ok}
use Rattle.chain.proofs.leg_from.Given as goal

abbrev pub invariant-loop : goal.invariant-loop
invariant-loop l =
    let T = decode l.pool in
    let left = l.most - l.counter in
    Is (link_ok T l.at) × (l.bytes ≤ buffer_size * l.counter) × (follow T left l.at ≡ follow T l.most l.link)
    × (l.bytes + total (stretches T (walk left T l.at)) ≡ total (stretches T (walk l.most T l.link)))
