-- `room::SlipNumberNumbered::total` meets its contract. Assumes nothing.
use mathlib.Core.Path.{sym}
use Rattle.tables.proofs.Laws.{whole, total_slips}
use Rattle.room.proofs.SlipNumberNumbered.total.Goals as goal

pub returns : goal.returns
returns c = λ p is. sym (total_slips (whole is))
