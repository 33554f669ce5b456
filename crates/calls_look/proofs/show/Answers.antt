-- `calls_look::show` meets its contract. Assumes nothing.
use Rattle.calls.proofs.Laws.{opened, fitted}
use Rattle.calls_look.proofs.Laws.{torn_shown, start_small, shown}
use Rattle.calls_look.proofs.show.Goals as goal

pub show-requires : goal.show-requires
show-requires c = let v = rw c.in-Ok.is at c.audit.ensures.audit in (opened v, fitted v)

pub shown_of-requires : goal.shown_of-requires
shown_of-requires c = start_small c.args.storage.now (rw c.in-Ok.is at c.audit.ensures.audit) _ _ _ c.show.ensures.lies

pub returns-in-Ok : goal.returns-in-Ok
returns-in-Ok c = shown c.args.storage.now (rw c.in-Ok.is at c.audit.ensures.audit) c.shown_of.ensures c.show.ensures

pub returns-in-Err : goal.returns-in-Err
returns-in-Err c = torn_shown (rw c.in-Err.is at c.audit.ensures.audit) _ _ c.args.scratch.now c.shown_of-in-Err.ensures
