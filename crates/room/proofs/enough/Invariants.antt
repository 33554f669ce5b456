use mathlib.Core.Path.{◌≡◌}
use Prim.Native.Nat.{◌<◌}
use Rattle.rules.specs.Bytes.{decode}
use Rattle.room.specs.Free.{enough_from}
use Rattle.room.proofs.enough.Given as goal

abbrev pub invariant-loop-n : goal.invariant-loop-n
invariant-loop-n g l =
    let N = g.N.Numbered in
    let T = decode l.pool in
    (0 < l.left) × (enough_from (N.free T) l.left l.n (N.total T) ≡ enough_from (N.free T) l.k (g.N.Number.number l.fn.lowest) (N.total T))
