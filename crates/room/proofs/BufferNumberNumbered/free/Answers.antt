-- `room::BufferNumberNumbered::free` meets its contract. Assumes nothing.
use native.Mathlib.Omega.{arith}
use Rattle.tables.proofs.Laws.{whole, total_buffers}
use Rattle.room.proofs.BufferNumberNumbered.free.Goals as goal

pub buffer_count-requires : goal.buffer_count-requires
buffer_count-requires c = (c.requires.0, omega (arith, c.requires.1, total_buffers (whole c.requires.0)))
