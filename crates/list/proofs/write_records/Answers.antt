-- `list::write_records` meets its contract: each turn writes the record of the piece reached, behind those written. Assumes nothing.
use mathlib.Core.Path.{◌≡◌}
use Prim.Native.Nat.{◌-◌, ◌<◌}
use native.Mathlib.Omega.{arith}
use Rattle.kinds.proofs.Sizes.{start_most}
use Rattle.rules.specs.Tables.{piece}
use Rattle.rules.specs.Bytes.{decode}
use Rattle.tables.proofs.Laws.{whole, total_pieces, total_buffers}
use Rattle.chain.proofs.Links.{InUse}
use Rattle.list.proofs.Laws.{writing_first, writing_some, writing_piece, writing_on}
use Rattle.list.proofs.write_records.Goals as goal
use Rattle.list.proofs.write_records.Goals.{In-loop-k}

pub loop-k-init : goal.loop-k-init
loop-k-init c = writing_first (decode c.args.pool.now) c.args.link c.args.list.now

-- the piece reached
module _ (c : In-loop-k) where
  some : c.loop-k.at ≡ 0 → ⊥
  some = let o = c.requires.opened in writing_some o.0.sound o.1 c.loop-k.invariant (omega (arith, c.requires.n_in_bounds.0))

  -- is in use
  used : InUse (decode c.args.pool.now) (c.loop-k.at - 1)
  used = let o = c.requires.opened in writing_piece o.0.sound o.1 c.loop-k.invariant (omega (arith, c.requires.n_in_bounds.0))

  below : c.loop-k.at - 1 < c.args.shape.pieces
  below = omega (arith, used.below, total_pieces (whole c.requires.opened.0.shaped))

pub overflow_sub-d : goal.overflow_sub-d
overflow_sub-d c = omega (arith, some (goal.at.overflow_sub-d c).In-loop-k)

pub position-requires : goal.position-requires
position-requires c = (c.requires.opened.0.shaped, below (goal.at.position-requires c).In-loop-k)

-- its stretch lies in storage, whose bytes 32 bits count
pub overflow_cast-list : goal.overflow_cast-list
overflow_cast-list c =
    let T = decode c.args.pool.now in
    let o = c.requires.opened.0 in
    let u = used (goal.at.overflow_cast-list c).In-loop-k in
    let m = start_most T.stock (piece T (c.loop-k.at - 1)).buffer in
    omega (arith, c.position.ensures, u.in_store, u.most, total_buffers (whole o.shaped), o.few_buffers_lem, m)

pub piece_bytes-requires : goal.piece_bytes-requires
piece_bytes-requires c = (c.requires.opened.0.shaped, below (goal.at.piece_bytes-requires c).In-loop-k)

pub piece_next-at-requires : goal.piece_next-at-requires
piece_next-at-requires c = (c.requires.opened.0.shaped, below (goal.at.piece_next-at-requires c).In-loop-k)

pub loop-k-preserved : goal.loop-k-preserved
loop-k-preserved c =
    let o = c.requires.opened in
    let b = c.requires.n_in_bounds in
    writing_on o.0.sound o.1 c.loop-k.invariant (omega (arith, b.0)) (omega (arith, b.1)) c.position.ensures c.piece_bytes.ensures c.piece_next-at.ensures
