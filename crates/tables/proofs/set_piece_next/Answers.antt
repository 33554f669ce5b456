-- `tables::set_piece_next` meets its contract. Assumes nothing.
use Rattle.std.proofs.Common.{arith}
use Rattle.tables.proofs.Laws.{store_field}
use Rattle.tables.proofs.set_piece_next.Goals as goal

pub returns : goal.returns
returns c = store_field c.requires.0 (omega arith) c.set16.ensures c.args.d.0 4 c.requires.1 (omega arith) (omega arith)
