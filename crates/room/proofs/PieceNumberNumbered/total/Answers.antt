-- `room::PieceNumberNumbered::total` meets its contract. Assumes nothing.
use mathlib.Core.Path.{sym}
use Rattle.tables.proofs.Laws.{whole, total_pieces}
use Rattle.room.proofs.PieceNumberNumbered.total.Goals as goal

pub returns : goal.returns
returns c = λ p is. sym (total_pieces (whole is))
