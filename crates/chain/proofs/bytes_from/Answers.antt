-- `chain::bytes_from` meets its contract: the bytes passed, and those from the link reached on, are all. Assumes nothing.
use mathlib.Core.Path.{sym, ap, subst}
use Prim.Native.Nat.{ℕ, ◌-◌, ◌<◌}
use native.Mathlib.Omega.{arith}
use lib.ListN.{length}
use Rattle.rules.specs.Basics.{Is}
use Rattle.rules.specs.Tables.{Tables, piece_total}
use Rattle.rules.specs.Bytes.{decode}
use Rattle.rules.specs.Chain.{walk, total}
use Rattle.rules.specs.Sound.{link_ok}
use Rattle.tables.proofs.Laws.{whole, total_pieces}
use Rattle.chain.specs.Length.{stretches_from}
use Rattle.chain.proofs.Links.{InUse, link_leads, length_empty, stretches_small, walk_less}
use Rattle.chain.proofs.Parts.{part_total}
use Rattle.chain.proofs.bytes_from.Goals as goal
use Rattle.chain.proofs.bytes_from.Goals.{In-loop-at}

pub loop-at-init : goal.loop-at-init
loop-at-init c = (c.before.requires.1, omega arith)

pub overflow_sub-d : goal.overflow_sub-d
overflow_sub-d c = omega arith

module _ (c : In-loop-at) where
  abbrev T : Tables
  T = decode c.before.before.before.args.pool.now

  -- the link reached
  abbrev reached : ℕ
  reached = c.before.loop-at.at

  -- it leads to a piece in use
  leads : InUse T (reached - 1)
  leads = link_leads T reached c.before.before.before.requires.0.sound c.before.loop-at.invariant.0 c.loop-at-test.true

pub piece_bytes-bytes-requires : goal.piece_bytes-bytes-requires
piece_bytes-bytes-requires c =
    let o = c.before.before.before.requires.0.shaped in
    (o, omega (arith, (leads (goal.at.piece_bytes-bytes-requires c).In-loop-at).below, total_pieces (whole o)))

pub overflow_add-bytes : goal.overflow_add-bytes
overflow_add-bytes c =
    let e = c.before in
    let z = e.before.before.before in
    let o = z.requires.0 in
    let i = e.before.loop-at.invariant in
    omega (
      arith,
      c.piece_bytes-bytes.ensures,
      i.1,
      part_total (T (goal.at.overflow_add-bytes c).In-loop-at) (reached (goal.at.overflow_add-bytes c).In-loop-at) o.sound i.0 e.loop-at-test.true,
      stretches_small (T (goal.at.overflow_add-bytes c).In-loop-at) z.args.link o.sound z.requires.1,
      total_pieces (whole o.shaped),
      o.few_pieces_lem,
    )

pub piece_next-at-requires : goal.piece_next-at-requires
piece_next-at-requires c = piece_bytes-bytes-requires (goal.at.piece_next-at-requires c).In-loop-at

pub loop-at-smaller : goal.loop-at-smaller
loop-at-smaller c =
    let e = c.before.before in
    let z = e.before.before.before in
    subst (λ (n : ℕ). length (walk (piece_total (T (goal.at.loop-at-smaller c).In-loop-at)) (T (goal.at.loop-at-smaller c).In-loop-at) n) < length (walk (piece_total (T (goal.at.loop-at-smaller c).In-loop-at)) (T (goal.at.loop-at-smaller c).In-loop-at) (reached (goal.at.loop-at-smaller c).In-loop-at))) (sym c.piece_next-at.ensures)
    (walk_less (T (goal.at.loop-at-smaller c).In-loop-at) (reached (goal.at.loop-at-smaller c).In-loop-at) z.requires.0.sound e.before.loop-at.invariant.0 e.loop-at-test.true)

pub loop-at-preserved : goal.loop-at-preserved
loop-at-preserved c =
    let e = c.before.before in
    let z = e.before.before.before in
    let i = e.before.loop-at.invariant in
    let m = c.piece_next-at.ensures in (
      subst (λ (x : ℕ). Is (link_ok (T (goal.at.loop-at-preserved c).In-loop-at) x)) (sym m) (leads (goal.at.loop-at-preserved c).In-loop-at).onward,
      omega (arith, i.1, c.before.piece_bytes-bytes.ensures, part_total (T (goal.at.loop-at-preserved c).In-loop-at) (reached (goal.at.loop-at-preserved c).In-loop-at) z.requires.0.sound i.0 e.loop-at-test.true, ap (λ (x : ℕ). total (stretches_from (T (goal.at.loop-at-preserved c).In-loop-at) x)) m),
    )

pub returns : goal.returns
returns c =
    let l = c.before.loop-at in
    let U = decode c.before.before.before.args.pool.now in
    omega (arith, l.invariant.1, length_empty (piece_total U) l.at U c.loop-at-test.false)
