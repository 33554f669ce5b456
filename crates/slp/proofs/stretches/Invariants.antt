-- After so many turns as many records are written, and the link has been followed as often.
use mathlib.Core.Path.{◌≡◌}
use Prim.Native.Nat.{◌≤◌}
use lib.ListN.{length}
use Rattle.rules.specs.Bytes.{decode}
use Rattle.rules.specs.Chain.{follow}
use Rattle.chain.specs.Length.{stretches_from}
use Rattle.slp.proofs.Records.{written}
use Rattle.slp.proofs.stretches.Given as goal

abbrev pub invariant-loop-stretch : goal.invariant-loop-stretch
invariant-loop-stretch l =
    let T = decode l.pool in
    let link = l.begun.link in
    let xs = stretches_from T link in
    (l.stretch-index ≤ length xs) × (l.list ≡ written T.stock xs l.initial.list l.stretch-index) × (l.at ≡ follow T l.stretch-index link)
