-- `room::room_for` meets its contract. Assumes nothing.
use Rattle.room.proofs.Free.{room_empty, room_some, room_in}
use Rattle.room.proofs.room_for.Goals as goal

pub returns-in_err-first : goal.returns-in_err-first
returns-in_err-first g c = rw c.from_residual.ensures (room_empty _ _ _ c.if-k-eq0.false c.in_err-first.ensures)

pub returns : goal.returns
returns g c = rw c.then_some.ensures (room_in _ _ _ _ _ _ (room_some _ _ _ c.if-k-eq0.false c.in_ok-first.ensures.0 c.enough.ensures))
