-- `free::free` meets its contract. Assumes nothing.
use mathlib.Core.Path.{ap}
use Rattle.std.proofs.Common.{rules}
use Rattle.std.specs.Prelude.{Ok}
use Rattle.std.proofs.lemmas.Result.{err_from_is_err_and}
use Rattle.rules.specs.Tables.{Tables, aged}
use Rattle.rules.specs.Rule.{name}
use Rattle.rules.proofs.Audit.{tables_now}
use Rattle.tables.proofs.Laws.{onward}
use Rattle.release.proofs.Laws.{releasable_none}
use Rattle.free.proofs.Laws.{free_slip, free_done}
use Rattle.free.proofs.free.Goals as goal

pub returns-in_err-enter-clause-no_view_after : goal.returns-in_err-enter-clause-no_view_after
returns-in_err-enter-clause-no_view_after c =
    let p = err_from_is_err_and c.from_residual.result c.from_residual.ensures.1 in
    rw (p.1, p.2, c.in_err-enter.ensures.0) (free_slip c.args.pool.now c.args.storage.now _ c.in_err-enter.ensures.1)

pub turn-requires : goal.turn-requires
turn-requires c = (c.requires.0.shaped, c.in_ok-enter.ensures.below, releasable_none (tables_now _ c.requires.0.sound), c.requires.1)

pub returns-clause-no_view_after : goal.returns-clause-no_view_after
returns-clause-no_view_after c =
    let a = c.args in
    let x = name a.s.slip.0 a.s.serial.0 in
    free_done a.pool.now a.storage.now x c.in_ok-enter.ensures.named (ap Ok c.done.ensures) (search rules)
    (onward c.turn.ensures.0 (λ (T : Tables). aged T x.slip) c.age.ensures) c.turn.ensures.1
