-- `calls_look::begin` meets its contract. Assumes nothing.
use Rattle.std.proofs.Common.{rules}
use Rattle.std.proofs.lemmas.Result.{err_from_is_err_and}
use Rattle.calls.proofs.Laws.{opened}
use Rattle.calls_look.proofs.Laws.{begins_torn, begins_refused, begins_sound}
use Rattle.calls_look.proofs.begin.Goals as goal

pub returns-in_err-shape : goal.returns-in_err-shape
returns-in_err-shape c =
    let p = err_from_is_err_and c.from_residual.result c.from_residual.ensures.1 in
    rw (p.1, p.2) (begins_torn c.args.storage.now _ _ (rw c.in_err-shape.was at c.audit.ensures.audit))

pub begin-requires : goal.begin-requires
begin-requires c = opened (rw c.in_ok-shape.was at c.audit.ensures.audit)

pub returns-in_err-step : goal.returns-in_err-step
returns-in_err-step c =
    let p = err_from_is_err_and c.from_residual-in_err-step.result c.from_residual-in_err-step.ensures.1 in
    rw (p.1, p.2) (begins_refused c.args.storage.now _ _ (rw c.in_ok-shape.was at c.audit.ensures.audit) (search rules) c.in_err-step.ensures)

pub returns : goal.returns
returns c = begins_sound c.args.storage.now _ _ (rw c.in_ok-shape.was at c.audit.ensures.audit) (search rules) c.in_ok-step.ensures
