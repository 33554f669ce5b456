-- `calls_new::cut` meets its contract. Assumes nothing.
use Rattle.std.proofs.Common.{◌∙◌}
use Rattle.calls.proofs.Laws.{opened, performed}
use Rattle.calls_new.proofs.cut.Goals as goal

pub cut-requires : goal.cut-requires
cut-requires c = opened (rw c.in_ok-shape.was at c.audit.ensures.audit)

pub returns-clause-does : goal.returns-clause-does
returns-clause-does c = c.cut.ensures.by_index c.args.storage.now ∙ performed c.args.storage.now (rw c.in_ok-shape.was at c.audit.ensures.audit) _
