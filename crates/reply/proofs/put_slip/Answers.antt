-- `reply::put_slip` meets its contract. Assumes nothing.
use Rattle.page.proofs.Ink.{on}
use Rattle.reply.proofs.put_slip.Goals as goal

pub returns : goal.returns
returns c = on c.tagged.ensures c.serial.ensures
