-- `append::join` meets its contract. Assumes nothing.
use Rattle.std.proofs.Common.{arith, rules}
use borrow.Author.Tests.{leb-true, leb-false}
use Rattle.append.proofs.Ready.{asks, next_ok, next_long, others_cut, join_own, join_pieces, join_new}
use Rattle.append.proofs.join.Goals as goal

pub set_slip-requires : goal.set_slip-requires
set_slip-requires c = search (rules, asks)

pub link-requires : goal.link-requires
link-requires c = search (rules, asks)

pub retire-requires : goal.retire-requires
retire-requires c = search (rules, asks)

pub returns-then-next-eq0-clause-by_index : goal.returns-then-next-eq0-clause-by_index
returns-then-next-eq0-clause-by_index c =
    join_own c.requires.0 c.requires.1 c.own_run-last.ensures c.if-next-eq0.true c.set_slip.ensures c.link.ensures c.retire.ensures.becomes c.retire.ensures.value (search rules)

-- ---- some are not own

pub pieces_from-pieces-requires : goal.pieces_from-pieces-requires
pieces_from-pieces-requires c = search (rules, asks)

pub returns-in_err-lowest-clause-by_index : goal.returns-in_err-lowest-clause-by_index
returns-in_err-lowest-clause-by_index c =
    λ st. grind (arith, leb-false, join_pieces c.requires.0 c.requires.1 c.own_run-last.ensures c.if-next-eq0.false c.pieces_from-pieces.ensures)

pub copy_pieces-first-requires : goal.copy_pieces-first-requires
copy_pieces-first-requires c =
    let is = c.own_run-last.ensures in
    let n = others_cut c.requires.0 c.requires.1 is c.if-next-eq0.false c.pieces_from-pieces.ensures in
    record { opened = search (rules, next_ok); pieces_value = (n, search (rules, leb-true)); into_bound = next_long c.requires.0 c.requires.1 is; first_value = search rules }

pub set_slip-requires-2 : goal.set_slip-requires-2
set_slip-requires-2 c = search (rules, asks)

pub link-requires-2 : goal.link-requires-2
link-requires-2 c = search (rules, asks)

pub lower-requires : goal.lower-requires
lower-requires c = search (rules, asks)

pub retire-requires-2 : goal.retire-requires-2
retire-requires-2 c = search (rules, asks)

pub returns-clause-by_index : goal.returns-clause-by_index
returns-clause-by_index c =
    let k = c.copy_pieces-first.ensures in
    join_new c.requires.0 c.requires.1 c.own_run-last.ensures c.if-next-eq0.false c.pieces_from-pieces.ensures k.0 k.1 c.set_slip-2.ensures c.link-2.ensures
    (search (rules, leb-true)) c.lower.ensures c.retire-2.ensures.becomes c.retire-2.ensures.value (search rules)
