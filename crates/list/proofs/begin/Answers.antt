-- `list::begin` meets its contract. Assumes nothing.
use mathlib.Core.Path.{◌≡◌, ap, ◌∙◌}
use native.Mathlib.Omega.{arith}
use lib.ListN.{length}
use Rattle.std.proofs.lemmas.Result.{err_from_is_err_and}
use Rattle.rules.specs.Bytes.{decode}
use Rattle.rules.specs.Chain.{spans}
use Rattle.chain.specs.Length.{stretches_from}
use Rattle.list.proofs.Laws.{begun_slip, begun_narrow, begun_done}
use Rattle.list.proofs.begin.Goals as goal
use Rattle.list.proofs.begin.Goals.{After-pieces_from-pieces}

pub returns-in_err-link : goal.returns-in_err-link
returns-in_err-link c =
    let p = err_from_is_err_and c.from_residual.result c.from_residual.ensures.1 in
    rw (p.1, p.2, c.in_err-link.ensures.0) (begun_slip (decode c.args.pool.now) _ c.args.room c.in_err-link.ensures.1)

-- the pieces counted are the chain's
counted : (c : After-pieces_from-pieces) → c.pieces_from-pieces.result ≡ length (spans (decode c.args.pool.now) c.args.s.slip.0)
counted c = c.pieces_from-pieces.ensures ∙ ap (λ n. length (stretches_from (decode c.args.pool.now) n)) c.in_ok-link.ensures.link_is

pub returns-then-room-pieces : goal.returns-then-room-pieces
returns-then-room-pieces c =
    let n = counted (goal.at.returns-then-room-pieces c).After-pieces_from-pieces in
    begun_narrow (decode c.args.pool.now) _ c.args.room c.in_ok-link.ensures.named (omega arith)

pub returns : goal.returns
returns c =
    let n = counted (goal.at.returns c).After-pieces_from-pieces in
    let e = c.in_ok-link.ensures in
    begun_done (decode c.args.pool.now) _ c.args.room e.named c.done-step.ensures e.link_is n (omega arith)
