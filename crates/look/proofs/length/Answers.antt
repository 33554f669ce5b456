-- `look::length` meets its contract. Assumes nothing.
use mathlib.Core.Path.{ap}
use Rattle.std.proofs.Common.{rules}
use Rattle.std.specs.Prelude.{Ok}
use Rattle.std.proofs.lemmas.Result.{err_from_is_err_and}
use Rattle.tables.proofs.Laws.{fits_decode}
use Rattle.look.proofs.Perform.{length_slip, length_done}
use Rattle.look.proofs.length.Goals as goal

pub returns-in_err-enter-clause-by_index : goal.returns-in_err-enter-clause-by_index
returns-in_err-enter-clause-by_index c =
    let p = err_from_is_err_and c.from_residual.result c.from_residual.ensures.1 in
    λ st. rw (p.1, p.2, c.in_err-enter.ensures.0) (length_slip c.args.pool.now st _ c.in_err-enter.ensures.1)

pub returns-clause-by_index : goal.returns-clause-by_index
returns-clause-by_index c =
    λ st. length_done c.args.pool.now st _ (ap Ok c.done.ensures) c.in_ok-enter.ensures.named c.chain_length-n.ensures (fits_decode c.args.pool.now (search rules) c.requires.shaped.fits)
