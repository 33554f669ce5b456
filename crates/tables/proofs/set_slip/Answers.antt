-- `tables::set_slip` meets its contract. Assumes nothing.
use Rattle.std.proofs.Common.{arith}
use Rattle.tables.proofs.Laws.{store_slip}
use Rattle.tables.proofs.set_slip.Goals as goal

pub returns : goal.returns
returns c = store_slip c.requires.0 (omega arith) c.set16.ensures c.args.s.0 c.requires.1 (omega arith)
