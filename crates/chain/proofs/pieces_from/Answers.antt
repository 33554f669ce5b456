-- `chain::pieces_from` meets its contract: the pieces passed, and those from the link reached on, are all. Assumes nothing.
use mathlib.Core.Path.{◌≡◌, sym, ap, subst}
use Prim.Native.Nat.{ℕ, suc, ◌-◌}
use native.Mathlib.Omega.{arith}
use lib.ListN.{length}
use Rattle.rules.specs.Basics.{Is}
use Rattle.rules.specs.Tables.{Tables, piece}
use Rattle.rules.specs.Bytes.{decode}
use Rattle.rules.specs.Sound.{link_ok}
use Rattle.tables.proofs.Laws.{whole, total_pieces}
use Rattle.chain.specs.Length.{stretches_from}
use Rattle.chain.proofs.Links.{InUse, link_leads, stretches_none, stretches_on, stretches_few}
use Rattle.chain.proofs.pieces_from.Goals as goal
use Rattle.chain.proofs.pieces_from.Goals.{In-loop-at}

pub loop-at-init : goal.loop-at-init
loop-at-init c = (c.before.requires.1, omega arith)

module _ (c : In-loop-at) where
  abbrev T : Tables
  T = decode c.before.before.before.args.pool.now

  -- the link reached
  abbrev reached : ℕ
  reached = c.before.loop-at.at

  -- it leads to a piece in use
  leads : InUse T (reached - 1)
  leads = link_leads T reached c.before.before.before.requires.0.sound c.before.loop-at.invariant.0 c.loop-at-test.true

  -- and one piece fewer is met from the next
  fewer : length (stretches_from T reached) ≡ suc (length (stretches_from T (piece T (reached - 1)).next))
  fewer = ap length (stretches_on T reached c.before.before.before.requires.0.sound c.before.loop-at.invariant.0 c.loop-at-test.true)

pub overflow_add-pieces : goal.overflow_add-pieces
overflow_add-pieces c =
    let z = c.before.before.before in
    let o = z.requires.0 in
    omega (arith, c.before.loop-at.invariant.1, fewer (goal.at.overflow_add-pieces c).In-loop-at, stretches_few (T (goal.at.overflow_add-pieces c).In-loop-at) z.args.link o.sound z.requires.1, total_pieces (whole o.shaped), o.few_pieces_lem)

pub overflow_sub-at : goal.overflow_sub-at
overflow_sub-at c = omega arith

pub piece_next-at-requires : goal.piece_next-at-requires
piece_next-at-requires c =
    let o = c.before.before.before.requires.0.shaped in
    (o, omega (arith, (leads (goal.at.piece_next-at-requires c).In-loop-at).below, total_pieces (whole o)))

pub loop-at-smaller : goal.loop-at-smaller
loop-at-smaller c =
    let e = c.before in
    omega (arith, fewer (goal.at.loop-at-smaller c).In-loop-at, ap (λ (x : ℕ). length (stretches_from (T (goal.at.loop-at-smaller c).In-loop-at) x)) c.piece_next-at.ensures)

pub loop-at-preserved : goal.loop-at-preserved
loop-at-preserved c =
    let e = c.before in
    let m = c.piece_next-at.ensures in (
      subst (λ (x : ℕ). Is (link_ok (T (goal.at.loop-at-preserved c).In-loop-at) x)) (sym m) (leads (goal.at.loop-at-preserved c).In-loop-at).onward,
      omega (arith, e.before.loop-at.invariant.1, fewer (goal.at.loop-at-preserved c).In-loop-at, ap (λ (x : ℕ). length (stretches_from (T (goal.at.loop-at-preserved c).In-loop-at) x)) m),
    )

pub returns : goal.returns
returns c =
    let l = c.before.loop-at in
    let U = decode c.before.before.before.args.pool.now in
    omega (arith, l.invariant.1, ap (λ (x : ℕ). length (stretches_from U x)) c.loop-at-test.false, ap length (stretches_none U))
