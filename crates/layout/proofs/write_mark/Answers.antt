-- `layout::write_mark` meets its contract. Assumes nothing.
use Rattle.std.proofs.Common.{arith}
use Rattle.layout.proofs.Laws.{put_mark}
use Rattle.layout.proofs.write_mark.Goals as goal

pub returns : goal.returns
returns c = rw c.set16.ensures (put_mark c.args.pool.now (omega arith))
