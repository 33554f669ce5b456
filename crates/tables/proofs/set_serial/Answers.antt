-- `tables::set_serial` meets its contract. Assumes nothing.
use Rattle.std.proofs.Common.{arith}
use Rattle.tables.proofs.Laws.{store_serial}
use Rattle.tables.proofs.set_serial.Goals as goal

pub returns : goal.returns
returns c = store_serial c.requires.0 (omega arith) c.set16.ensures c.args.s.0 c.requires.1 (omega arith)
