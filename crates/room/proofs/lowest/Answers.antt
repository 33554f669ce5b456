-- `room::lowest` meets its contract. Assumes nothing.
use Rattle.room.proofs.Free.{lowest_in}
use Rattle.room.proofs.lowest.Goals as goal

pub returns : goal.returns
returns g c =
    let first = rw c.at.ensures at c.next_free-first.ensures in
    rw (c.then_some.ensures, c.below.ensures, c.total.ensures c.args.pool.now c.requires) (lowest_in g.N.Number.number _ _ c.next_free-first.result first)
