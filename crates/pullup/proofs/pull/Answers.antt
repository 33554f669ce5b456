-- `pullup::pull` meets its contract. Assumes nothing.
use Rattle.std.proofs.Common.{arith}
use Rattle.tables.proofs.Laws.{totals}
use Rattle.pullup.proofs.Plan.{buffer_free, pulled_place, pulled_makable, pulled_link, pull_done}
use Rattle.pullup.proofs.pull.Goals as goal

pub refill-requires-clause-n_in_bounds : goal.refill-requires-clause-n_in_bounds
refill-requires-clause-n_in_bounds c = buffer_free c.requires.pullable

pub give_back-tail-requires : goal.give_back-tail-requires
give_back-tail-requires c =
    let place = pulled_place c.requires.opened.0 c.requires.pullable in
    record {
      opened = (c.requires.opened.0, place.good, grind (arith, totals, c.requires.pullable.named));
      into_bound = (place.inside, grind arith);
    }

pub make_first-first-requires : goal.make_first-first-requires
make_first-first-requires c =
    let o = c.requires.opened.0 in
    (c.give_back-tail.ensures.becomes.0.shaped, omega (arith, o.few_pieces_lem), pulled_makable o c.requires.pullable c.give_back-tail.ensures.becomes)

pub overflow_add-first : goal.overflow_add-first
overflow_add-first c =
    let o = c.requires.opened.0 in
    omega (arith, pulled_link o c.requires.pullable c.give_back-tail.ensures.becomes c.make_first-first.ensures, o.few_pieces_lem)

pub returns : goal.returns
returns c =
    pull_done c.requires.opened.0 c.requires.pullable c.give_back-tail.ensures.becomes c.make_first-first.ensures c.args.storage.now c.set_slip.ensures c.refill.ensures
    c.give_back-tail.ensures.storage_after
