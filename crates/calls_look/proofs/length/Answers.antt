-- `calls_look::length` meets its contract. Assumes nothing.
use Rattle.std.proofs.Common.{◌∙◌}
use Rattle.calls.proofs.Laws.{opened, performed}
use Rattle.calls_look.proofs.length.Goals as goal

pub length-requires : goal.length-requires
length-requires c = opened (rw c.in_ok-shape.was at c.audit.ensures.audit)

pub returns-clause-does : goal.returns-clause-does
returns-clause-does c = c.length.ensures.by_index c.args.storage.now ∙ performed c.args.storage.now (rw c.in_ok-shape.was at c.audit.ensures.audit) _
