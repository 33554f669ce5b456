-- `calls_new::put` meets its contract. Assumes nothing.
use Rattle.std.proofs.Common.{◌∙◌}
use Rattle.calls.proofs.Laws.{opened, fitted, performed}
use Rattle.calls_new.proofs.put.Goals as goal

pub put-requires : goal.put-requires
put-requires c = let v = rw c.in_ok-shape.was at c.audit.ensures.audit in (opened v, fitted v)

pub returns-clause-does : goal.returns-clause-does
returns-clause-does c = c.put.ensures.no_view_after ∙ performed c.args.storage.now (rw c.in_ok-shape.was at c.audit.ensures.audit) _
