-- `rest::move_to` meets its contract. Assumes nothing.
use Rattle.std.proofs.Common.{arith}
use Rattle.rest.proofs.Rest.{held_takes, held_small}
use Rattle.rest.proofs.move_to.Goals as goal

pub overflow_add-tail : goal.overflow_add-tail
overflow_add-tail c =
    let r = c.requires in
    omega (arith, held_small c.args.at r.opened.0 r.opened.1 r.into_bound.0 c.hold-tail.ensures, r.opened.0.few_pieces_lem)

pub turn-requires : goal.turn-requires
turn-requires c =
    let r = c.requires in
    (c.hold-tail.ensures.0.shaped, r.opened.2, held_takes c.args.at r.opened.0 r.opened.1 r.into_bound.0 c.hold-tail.ensures, r.into_bound.1)
