-- `chain::part_of` meets its contract: the pieces passed, and what is left of the bytes from the link reached, are what was asked for. Assumes nothing.
use mathlib.Core.Path.{sym, subst, ◌∙◌}
use Prim.Native.Nat.{ℕ, ◌+◌, ◌-◌, ◌≤◌, ◌<◌}
use native.Mathlib.Omega.{arith}
use lib.ListN.{length}
use Rattle.rules.specs.Basics.{Is}
use Rattle.rules.specs.Tables.{piece, piece_total}
use Rattle.rules.specs.Bytes.{decode}
use Rattle.rules.specs.Chain.{walk}
use Rattle.rules.specs.Sound.{link_ok}
use Rattle.tables.proofs.Laws.{whole, total_pieces}
use Rattle.chain.proofs.Links.{InUse, link_leads, walk_less, walk_most}
use Rattle.chain.proofs.Parts.{part_start, part_done, part_short, part_turn}
use Rattle.chain.proofs.part_of.Goals as goal
use Rattle.chain.proofs.part_of.Goals.{Else-at-eq0}

pub loop-left-init : goal.loop-left-init
loop-left-init c =
    let z = c.before in
    let T = decode z.args.pool.now in
    (z.requires.1, omega (arith, walk_most T z.args.link z.requires.0.sound z.requires.1), part_start T z.args.link z.args.n)

pub returns-then-at-eq0 : goal.returns-then-at-eq0
returns-then-at-eq0 c =
    let l = c.before.before.loop-left in
    part_short l.pieces (decode c.before.before.before.before.args.pool.now) l.at l.left (omega (arith, c.before.loop-left-test.true)) c.if-at-eq0.true ∙ l.invariant.2

pub overflow_sub-d : goal.overflow_sub-d
overflow_sub-d c = omega arith

-- the link reached leads to a piece in use
leads : (c : Else-at-eq0) → InUse (decode c.before.before.before.before.args.pool.now) (c.before.before.loop-left.at - 1)
leads c =
    let z = c.before.before.before.before in
    let l = c.before.before.loop-left in
    link_leads (decode z.args.pool.now) l.at z.requires.0.sound l.invariant.0 c.if-at-eq0.false

-- and fewer are met from the next
fewer : (c : Else-at-eq0) → let T = decode c.before.before.before.before.args.pool.now in let n = c.before.before.loop-left.at in
    length (walk (piece_total T) T (piece T (n - 1)).next) < length (walk (piece_total T) T n)
fewer c =
    let z = c.before.before.before.before in
    let l = c.before.before.loop-left in
    walk_less (decode z.args.pool.now) l.at z.requires.0.sound l.invariant.0 c.if-at-eq0.false

pub piece_bytes-requires : goal.piece_bytes-requires
piece_bytes-requires c =
    let o = c.before.before.before.before.requires.0.shaped in
    (o, omega (arith, (leads (goal.at.piece_bytes-requires c).Else-at-eq0).below, total_pieces (whole o)))

pub overflow_add-pieces : goal.overflow_add-pieces
overflow_add-pieces c =
    let o = c.before.before.before.before.before.before.requires.0 in
    omega (arith, fewer (goal.at.overflow_add-pieces c).Else-at-eq0, c.before.before.before.before.loop-left.invariant.1, total_pieces (whole o.shaped), o.few_pieces_lem)

pub piece_next-at-requires : goal.piece_next-at-requires
piece_next-at-requires c = piece_bytes-requires (goal.at.piece_next-at-requires c).Else-at-eq0

pub loop-left-smaller : goal.loop-left-smaller
loop-left-smaller c =
    let l = c.before.before.before.before.before.loop-left in
    let T = decode c.before.before.before.before.before.before.before.args.pool.now in
    subst (λ (n : ℕ). length (walk (piece_total T) T n) < length (walk (piece_total T) T l.at)) (sym c.piece_next-at.ensures) (fewer (goal.at.loop-left-smaller c).Else-at-eq0)

pub loop-left-preserved : goal.loop-left-preserved
loop-left-preserved c =
    let z = c.before.before.before.before.before.before.before in
    let l = c.before.before.before.before.before.loop-left in
    let T = decode z.args.pool.now in
    let e = c.piece_next-at.ensures in (
      subst (λ (x : ℕ). Is (link_ok T x)) (sym e) (leads (goal.at.loop-left-preserved c).Else-at-eq0).onward,
      subst (λ (x : ℕ). l.pieces + 1 + length (walk (piece_total T) T x) ≤ piece_total T) (sym e) (omega (arith, fewer (goal.at.loop-left-preserved c).Else-at-eq0, l.invariant.1)),
      part_turn l.pieces T l.at l.left z.requires.0.sound l.invariant.0 c.before.before.before.if-at-eq0.false (omega (arith, c.before.before.before.before.loop-left-test.true))
          e c.before.before.piece_bytes.ensures c.before.saturating_sub-left.ensures ∙ l.invariant.2,
    )

pub returns : goal.returns
returns c =
    let l = c.before.loop-left in
    part_done l.pieces (decode c.before.before.before.args.pool.now) l.at l.left (omega (arith, c.loop-left-test.false)) ∙ l.invariant.2
