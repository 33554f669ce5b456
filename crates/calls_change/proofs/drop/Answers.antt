-- `calls_change::drop` meets its contract. Assumes nothing.
use Rattle.std.proofs.Common.{◌∙◌}
use Rattle.calls.proofs.Laws.{opened, fitted, performed}
use Rattle.calls_change.proofs.drop.Goals as goal

pub drop_first-requires : goal.drop_first-requires
drop_first-requires c = let v = rw c.in_ok-shape.was at c.audit.ensures.audit in (opened v, fitted v)

pub returns-clause-does : goal.returns-clause-does
returns-clause-does c = c.drop_first.ensures.no_view_after ∙ performed c.args.storage.now (rw c.in_ok-shape.was at c.audit.ensures.audit) _
