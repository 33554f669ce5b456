-- `rest::give_back` meets its contract. Assumes nothing.
use Rattle.rest.proofs.Rest.{held_asks}
use Rattle.rest.proofs.give_back.Goals as goal

pub turn-requires : goal.turn-requires
turn-requires c =
    let r = c.requires in
    (c.hold-tail.ensures.0.shaped, r.opened.2, held_asks c.args.at r.opened.0 r.opened.1 r.into_bound.0 c.hold-tail.ensures, r.into_bound.1)
