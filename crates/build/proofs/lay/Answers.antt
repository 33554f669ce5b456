-- `build::lay` meets its contract: the pieces taken so far and those still to come make what the rule builds. Assumes nothing.
use Rattle.std.proofs.Common.{arith, rules}
use Rattle.rules.specs.Bytes.{decode}
use Rattle.build.proofs.Line.{line_link, built_none}
use Rattle.build.proofs.Laid.{laid_all, lays_start, lays_ask, lays_on, lays_done}
use Rattle.build.proofs.lay.Goals as goal

pub returns-then-count-eq0 : goal.returns-then-count-eq0
returns-then-count-eq0 c = built_none c.requires.opened.shaped _ _ 0 (omega (arith, laid_all))

pub loop-more-init : goal.loop-more-init
loop-more-init c =
    let r = c.requires in
    (r.opened.shaped, lays_start r.opened c.args.n c.args.count r.count_in_bounds.0 r.count_in_bounds.1 c.if-count-eq0.false r.first_value)

pub lay_piece-c-requires : goal.lay_piece-c-requires
lay_piece-c-requires c = search (rules, lays_ask)

pub loop-more-preserved : goal.loop-more-preserved
loop-more-preserved c =
    let e = c.lay_piece-c.ensures in
    (e.0.shaped, rw (e.0.is, e.1) (lays_on c.loop-more.invariant.1 c.loop-more-test.true))

pub returns : goal.returns
returns c =
    let i = c.loop-more.invariant in
    let r = c.requires in
    (record { shaped = i.0; is = lays_done i.1 c.loop-more-test.false }, line_link (decode c.args.pool.now) _ _ 0 (omega (arith, laid_all)) c.if-count-eq0.false r.count_in_bounds.0 r.first_value.0)
