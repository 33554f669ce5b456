-- `room::PieceNumberNumbered::free` meets its contract. Assumes nothing.
use native.Mathlib.Omega.{arith}
use Rattle.tables.proofs.Laws.{whole, total_pieces}
use Rattle.room.proofs.PieceNumberNumbered.free.Goals as goal

pub piece_count-requires : goal.piece_count-requires
piece_count-requires c = (c.requires.0, omega (arith, c.requires.1, total_pieces (whole c.requires.0)))
