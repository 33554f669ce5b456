use mathlib.Core.Path.{◌≡◌}
use Rattle.rules.specs.Bytes.{decode}
use Rattle.room.specs.Free.{first_from}
use Rattle.room.proofs.next_free.Given as goal

abbrev pub invariant-loop-n : goal.invariant-loop-n
invariant-loop-n g l =
    let N = g.N.Numbered in
    let T = decode l.pool in
    first_from (N.free T) l.n (N.total T) ≡ first_from (N.free T) (g.N.Number.number l.fn.from) (N.total T)
