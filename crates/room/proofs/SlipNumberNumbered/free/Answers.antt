-- `room::SlipNumberNumbered::free` meets its contract. Assumes nothing.
use native.Mathlib.Omega.{arith}
use Rattle.tables.proofs.Laws.{whole, total_slips}
use Rattle.room.proofs.SlipNumberNumbered.free.Goals as goal

pub slip-requires : goal.slip-requires
slip-requires c = (c.requires.0, omega (arith, c.requires.1, total_slips (whole c.requires.0)))

pub serial-requires : goal.serial-requires
serial-requires c = (c.requires.0, omega (arith, c.requires.1, total_slips (whole c.requires.0)))
