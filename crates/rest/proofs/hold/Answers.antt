-- `rest::hold` meets its contract, case by case. Assumes nothing.
use Rattle.std.proofs.Common.{arith, rules}
use Rattle.chain.proofs.Links.{link_leads}
use Rattle.build.proofs.Laws.{opened_sharable, opened_copyable}
use Rattle.rest.proofs.Rest.{shared_place}
use Rattle.rest.proofs.hold.Goals as goal

pub share-requires : goal.share-requires
share-requires c = search (rules, opened_sharable)

pub overflow_cast-n : goal.overflow_cast-n
overflow_cast-n c = grind (arith, link_leads)

pub share-requires-then-at : goal.share-requires-then-at
share-requires-then-at c = search (rules, opened_sharable)

pub shorten-requires-clause-back_bound : goal.shorten-requires-clause-back_bound
shorten-requires-clause-back_bound c = grind (arith, link_leads, shared_place)

pub hold_behind-next-requires : goal.hold_behind-next-requires
hold_behind-next-requires c =
    let (o, good) = c.requires.opened in
    let u = link_leads _ c.args.at.link o.sound good c.if-at-eq0.false in
    (o.shaped, opened_copyable o _ _ u (c.requires.into_bound c.if-at-eq0.false), opened_sharable o _ u.onward)
