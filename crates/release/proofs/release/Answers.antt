-- `release::release` meets its contract: each turn gives up one of the references that the pieces count. Assumes nothing.
use Rattle.std.proofs.Common.{◌∙◌}
use Rattle.release.proofs.Laws.{starts, ends_tables, ends_storage, goes}
use Rattle.release.proofs.release.Goals as goal

pub loop-next-init : goal.loop-next-init
loop-next-init c = (c.requires.0, starts c.args.storage.now c.requires.1)

pub give_up-next-requires : goal.give_up-next-requires
give_up-next-requires c =
    let l = c.loop-next in
    (l.invariant.0, (goes l.next l.invariant.1 c.loop-next-test.true).held, l.auto.storage ∙ c.requires.2)

pub loop-next-smaller : goal.loop-next-smaller
loop-next-smaller c =
    rw c.give_up-next.ensures.0.is (goes c.loop-next.next c.loop-next.invariant.1 c.loop-next-test.true).less

pub loop-next-preserved : goal.loop-next-preserved
loop-next-preserved c =
    let is = c.give_up-next.ensures in
    (is.0.shaped, rw (is.0.is, is.1, is.2) (goes c.loop-next.next c.loop-next.invariant.1 c.loop-next-test.true).left)

pub returns : goal.returns
returns c =
    let l = c.loop-next in
    (record { shaped = l.invariant.0; is = ends_tables l.invariant.1 c.loop-next-test.false }, ends_storage l.invariant.1 c.loop-next-test.false)
