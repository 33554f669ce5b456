-- `room::BufferNumberNumbered::total` meets its contract. Assumes nothing.
use mathlib.Core.Path.{sym}
use Rattle.tables.proofs.Laws.{whole, total_buffers}
use Rattle.room.proofs.BufferNumberNumbered.total.Goals as goal

pub returns : goal.returns
returns c = λ p is. sym (total_buffers (whole is))
