-- `build::copy_pieces` meets its contract: the pieces taken so far and those still to come make what the rule builds. Assumes nothing.
use Rattle.std.proofs.Common.{arith, rules}
use Rattle.rules.specs.Bytes.{decode}
use Rattle.build.proofs.Line.{line_done, line_link, built_none}
use Rattle.build.proofs.Clone.{copies_start, copies_ask, copies_on}
use Rattle.build.proofs.copy_pieces.Goals as goal

pub returns-then-pieces-eq0 : goal.returns-then-pieces-eq0
returns-then-pieces-eq0 c = built_none c.requires.opened.0.shaped _ _ c.args.tail (omega arith)

pub loop-more-init : goal.loop-more-init
loop-more-init c =
    let a = c.args in
    let r = c.requires in
    (r.opened.0.shaped, copies_start r.opened.0 a.link a.into a.n a.pieces a.tail r.opened.1 r.pieces_value.0 r.pieces_value.1 r.into_bound c.if-pieces-eq0.false r.first_value)

pub clone_piece-c-requires : goal.clone_piece-c-requires
clone_piece-c-requires c = search (rules, copies_ask)

pub loop-more-preserved : goal.loop-more-preserved
loop-more-preserved c =
    let e = c.clone_piece-c.ensures in
    (e.0.shaped, rw (e.0.is, e.1) (copies_on c.requires.opened.0 c.loop-more.invariant.0 c.loop-more.invariant.1 c.loop-more-test.true))

pub returns : goal.returns
returns c =
    let i = c.loop-more.invariant in
    let r = c.requires in
    (record { shaped = i.0; is = line_done _ i.1.line (omega (arith, i.1.more, c.loop-more-test.false)) }, line_link (decode c.args.pool.now) _ _ c.args.tail r.pieces_value.0 c.if-pieces-eq0.false r.pieces_value.1 r.first_value)
