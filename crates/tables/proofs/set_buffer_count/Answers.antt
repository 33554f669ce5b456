-- `tables::set_buffer_count` meets its contract. Assumes nothing.
use Rattle.std.proofs.Common.{arith}
use Rattle.tables.proofs.Laws.{store_count}
use Rattle.tables.proofs.set_buffer_count.Goals as goal

pub returns : goal.returns
returns c = store_count c.requires.0 (omega arith) c.set16.ensures c.args.b.0 c.requires.1 (omega arith)
