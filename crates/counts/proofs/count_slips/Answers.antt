-- `counts::count_slips` meets its contract. The invariant: the slips passed are in range and counted. Assumes nothing.
use Rattle.std.proofs.Common.{arith}
use Rattle.counts.proofs.Counters.{totals, slips_start, slips_torn, slips_room, slips_on, slips_end}
use Rattle.counts.proofs.count_slips.Goals as goal

pub loop-s-init : goal.loop-s-init
loop-s-init c = slips_start _ (totals c.requires.0) c.requires.1

pub returns-then-n-shape : goal.returns-then-n-shape
returns-then-n-shape c =
    let t = totals c.requires.0 in
    slips_torn _ {m = c.link_of-n.result} c.loop-s.s (omega (arith, c.loop-s-test.true, t.slips)) (cc) (omega (arith, c.if-n-shape.true, t.pieces))

pub count_link-requires : goal.count_link-requires
count_link-requires c =
    let t = totals c.requires.0 in
    (omega arith, slips_room _ c.loop-s.invariant (omega arith))

pub loop-s-preserved : goal.loop-s-preserved
loop-s-preserved c =
    let t = totals c.requires.0 in
    slips_on _ c.loop-s.invariant (cc) (omega (arith, c.if-n-shape.false)) c.count_link.ensures

pub returns : goal.returns
returns c =
    let t = totals c.requires.0 in
    slips_end _ c.loop-s.invariant (omega arith)
