-- `calls_store::pack` meets its contract. Assumes nothing.
use Rattle.std.proofs.Common.{◌∙◌}
use Rattle.calls.proofs.Laws.{opened, fitted, performed}
use Rattle.calls_store.proofs.pack.Goals as goal

pub pack-requires : goal.pack-requires
pack-requires c = let v = rw c.in_ok-shape.was at c.audit.ensures.audit in (opened v, fitted v)

pub returns-clause-does : goal.returns-clause-does
returns-clause-does c = c.pack.ensures.no_view_after ∙ performed c.args.storage.now (rw c.in_ok-shape.was at c.audit.ensures.audit) _
