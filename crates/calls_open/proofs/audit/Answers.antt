-- `calls_open::audit` meets its contract. Assumes nothing.
use Rattle.std.proofs.Common.{rules}
use Rattle.calls_open.proofs.Laws.{audit_done}
use Rattle.calls_open.proofs.audit.Goals as goal

pub returns : goal.returns
returns c = audit_done c.args.storage.now (rw c.in_ok-audit.was at c.audit.ensures.audit) (search rules)
