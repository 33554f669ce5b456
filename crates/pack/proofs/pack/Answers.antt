-- `pack::pack` meets its contract. Assumes nothing.
use Rattle.std.proofs.Common.{◌∙◌, rules, arith}
use Rattle.pack.proofs.Laws.{pack_whole, new_held, pack_done}
use Rattle.pack.proofs.pack.Goals as goal

pub returns-then-not-scattered-clause-no_view_after : goal.returns-then-not-scattered-clause-no_view_after
returns-then-not-scattered-clause-no_view_after c =
    pack_whole _ _ _ c.in_ok-head.ensures.named (grind arith) c.done.ensures (search rules) c.requires.0.shaped

pub turn-requires : goal.turn-requires
turn-requires c =
    (c.lay-first.ensures.0.shaped, c.in_ok-head.ensures.below, new_held _ c.requires.0 c.buffers_for-count.ensures c.lay-first.ensures, c.refill.auto.storage ∙ c.requires.1)

pub returns-clause-no_view_after : goal.returns-clause-no_view_after
returns-clause-no_view_after c =
    let head = c.in_ok-head.ensures in
    let laid = rw (c.buffers_for-count.ensures, c.bytes_from-n.ensures, head.link_is) at c.lay-first.ensures in
    pack_done _ _ _ head.named (grind arith) (grind arith) c.requires.0 c.requires.1 (grind arith) (grind arith) laid c.turn.ensures c.done-2.ensures (search rules)
