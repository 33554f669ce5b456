-- `chain::find` meets its contract: the place from the link reached, with what is left of the offset, is the one asked for. Assumes nothing.
use mathlib.Core.Path.{refl, sym, ap, subst, ◌∙◌}
use Prim.Native.Nat.{ℕ, ◌-◌, ◌<◌}
use native.Mathlib.Omega.{arith}
use lib.ListN.{length}
use Rattle.rules.specs.Basics.{Is}
use Rattle.rules.specs.Tables.{piece_total}
use Rattle.rules.specs.Bytes.{decode}
use Rattle.rules.specs.Chain.{walk}
use Rattle.rules.specs.Sound.{link_ok}
use Rattle.tables.proofs.Laws.{whole, total_pieces}
use Rattle.chain.specs.Find.{spot_of}
use Rattle.chain.proofs.Links.{InUse, link_leads, walk_less}
use Rattle.chain.proofs.Spots.{spot_end, spot_turn, spot_stop}
use Rattle.chain.proofs.find.Goals as goal
use Rattle.chain.proofs.find.Goals.{In-loop-at}

pub loop-at-init : goal.loop-at-init
loop-at-init c = (c.before.requires.1, refl)

pub overflow_sub-d : goal.overflow_sub-d
overflow_sub-d c = omega arith

-- the link reached leads to a piece in use
leads : (c : In-loop-at) → InUse (decode c.before.before.before.args.pool.now) (c.before.loop-at.at - 1)
leads c =
    let z = c.before.before.before in
    link_leads (decode z.args.pool.now) c.before.loop-at.at z.requires.0.sound c.before.loop-at.invariant.0 c.loop-at-test.true

pub piece_bytes-n-requires : goal.piece_bytes-n-requires
piece_bytes-n-requires c =
    let o = c.before.before.before.requires.0.shaped in
    (o, omega (arith, (leads (goal.at.piece_bytes-n-requires c).In-loop-at).below, total_pieces (whole o)))

pub own_at-own-requires : goal.own_at-own-requires
own_at-own-requires c = piece_bytes-n-requires (goal.at.own_at-own-requires c).In-loop-at

pub returns-then-left-n : goal.returns-then-left-n
returns-then-left-n c =
    let z = c.before.before.before.before.before.before in
    let l = c.before.before.before.before.loop-at in
    let T = decode z.args.pool.now in
    spot_stop T l.own l.at l.left z.requires.0.sound l.invariant.0 c.before.before.before.loop-at-test.true
    c.before.own_at-own.ensures c.before.before.piece_bytes-n.ensures (omega (arith, c.if-left-n.true)) ∙ l.invariant.1

pub piece_next-at-requires : goal.piece_next-at-requires
piece_next-at-requires c = piece_bytes-n-requires (goal.at.piece_next-at-requires c).In-loop-at

pub loop-at-smaller : goal.loop-at-smaller
loop-at-smaller c =
    let z = c.before.before.before.before.before.before.before in
    let l = c.before.before.before.before.before.loop-at in
    let T = decode z.args.pool.now in
    let e = c.piece_next-at.ensures in
    subst (λ (n : ℕ). length (walk (piece_total T) T n) < length (walk (piece_total T) T l.at)) (sym e)
    (walk_less T l.at z.requires.0.sound l.invariant.0 c.before.before.before.before.loop-at-test.true)

pub loop-at-preserved : goal.loop-at-preserved
loop-at-preserved c =
    let z = c.before.before.before.before.before.before.before in
    let l = c.before.before.before.before.before.loop-at in
    let T = decode z.args.pool.now in
    let e = c.piece_next-at.ensures in (
      subst (λ (x : ℕ). Is (link_ok T x)) (sym e) (leads (goal.at.loop-at-preserved c).In-loop-at).onward,
      spot_turn T l.own l.at l.left z.requires.0.sound l.invariant.0 c.before.before.before.before.loop-at-test.true
          e c.before.before.own_at-own.ensures c.before.before.before.piece_bytes-n.ensures (omega (arith, c.before.if-left-n.false)) ∙ l.invariant.1,
    )

pub returns : goal.returns
returns c =
    let l = c.before.loop-at in
    let T = decode c.before.before.before.args.pool.now in
    sym (spot_end (piece_total T) T l.own l.left)
    ∙ ap (λ (x : ℕ). spot_of (piece_total T) T l.own x l.left) (sym c.loop-at-test.false) ∙ l.invariant.1
