-- `audit::audit` meets its contract. Assumes nothing.
use Rattle.std.proofs.Common.{refl}
use Rattle.audit.proofs.Verdict.{unfit, limited, tested}
use Rattle.audit.proofs.audit.Goals as goal

pub returns-in_default : goal.returns-in_default
returns-in_default c = unfit c.in_default.ensures

pub tables_ok-requires : goal.tables_ok-requires
tables_ok-requires c = limited c.in-Some.ensures

pub returns-in-Ok : goal.returns-in-Ok
returns-in-Ok c = tested c.in-Some.ensures c.in-Ok.ensures refl c.in-Some.ensures.shaped tt

pub returns-in-Err : goal.returns-in-Err
returns-in-Err c = tested c.in-Some.ensures c.in-Err.ensures refl tt refl
