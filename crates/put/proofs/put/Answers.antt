-- `put::put` meets its contract. Assumes nothing.
use Rattle.std.proofs.Common.{rules, arith}
use Rattle.put.proofs.Laws.{put_done}
use Rattle.put.proofs.put.Goals as goal

pub returns-clause-no_view_after : goal.returns-clause-no_view_after
returns-clause-no_view_after c =
    put_done _ _ _ (grind arith) c.buffers_for-count.ensures (grind arith) (grind arith) c.fill_free.ensures c.lay-first.ensures c.under_new.ensures.becomes c.under_new.ensures.value (search rules)
