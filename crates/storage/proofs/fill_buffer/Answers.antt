-- `storage::fill_buffer` meets its contract. Assumes nothing.
use Rattle.std.proofs.Common.{arith}
use Rattle.kinds.specs.Limits.{buffer_size}
use Rattle.storage.proofs.Laws.{lent}
use Rattle.storage.proofs.fill_buffer.Goals as goal

pub returns : goal.returns
returns c =
    let a = c.args in
    rw (← c.start-start.ensures) (lent a.storage.now a.input.now c.fill.new.part c.start-start.result buffer_size (omega arith) c.requires.1 c.fill.ensures)
