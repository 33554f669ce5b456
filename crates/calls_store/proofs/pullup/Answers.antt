-- `calls_store::pullup` meets its contract. Assumes nothing.
use Rattle.std.proofs.Common.{◌∙◌}
use Rattle.calls.proofs.Laws.{opened, fitted, performed}
use Rattle.calls_store.proofs.pullup.Goals as goal

pub pullup-requires : goal.pullup-requires
pullup-requires c = let v = rw c.in_ok-shape.was at c.audit.ensures.audit in (opened v, fitted v)

pub returns-clause-does : goal.returns-clause-does
returns-clause-does c = c.pullup.ensures.no_view_after ∙ performed c.args.storage.now (rw c.in_ok-shape.was at c.audit.ensures.audit) _
