-- `storage::clean_buffer` meets its contract. Assumes nothing.
use Rattle.std.proofs.Common.{arith}
use Rattle.kinds.specs.Limits.{buffer_size}
use Rattle.storage.proofs.Laws.{cleaned}
use Rattle.storage.proofs.clean_buffer.Goals as goal

pub returns : goal.returns
returns c =
    rw (← c.start-start.ensures) (cleaned c.args.storage.now c.zero.new.s c.start-start.result buffer_size (omega arith) c.zero.ensures)
