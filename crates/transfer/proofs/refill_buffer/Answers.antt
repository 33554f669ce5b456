-- `transfer::refill_buffer` meets its contract: the bytes from the place `g` on are still to go to the place `at` of the buffer. Assumes nothing.
use mathlib.Core.Path.{refl}
use Prim.Native.Nat.{◌+◌, ◌*◌, ◌≤◌, ◌<◌}
use native.Mathlib.Omega.{arith}
use lib.ListN.{length, take, drop}
use Rattle.kinds.specs.Limits.{buffer_size}
use Rattle.rules.specs.Tables.{buffer_total}
use Rattle.rules.specs.Bytes.{decode}
use Rattle.rules.proofs.Contents.{Fit}
use Rattle.tables.proofs.Laws.{whole, total_pieces, total_buffers, storage_fits}
use Rattle.transfer.proofs.Copy.{bytes_from, bytes_count, Next, going_before, going_shaped, going_next, going_end}
use Rattle.storage.proofs.Place.{Place, place_one, place_inside}
use Rattle.transfer.proofs.Move.{moving_first, moving_on, moving_done}
use Rattle.transfer.proofs.refill_buffer.Goals as goal
use Rattle.transfer.proofs.refill_buffer.Goals.{After-extent_at-x, At-loop-left}

pub loop-left-init : goal.loop-left-init
loop-left-init c =
    let p = c.requires in
    let T = decode c.args.pool.now in
    let fits = storage_fits (whole p.opened.0.shaped) p.backs.0 in
    let below : c.args.b.0 < buffer_total T = omega (arith, p.backs.1, total_buffers (whole p.opened.0.shaped)) in
    moving_first T c.args.b.0 _ _ (place_one T.stock c.args.b.0) c.args.storage.now p.opened.0.sound fits below c.args.c c.args.n
    p.opened.1 p.opened.2 p.n_bound.0 p.n_bound.1

pub extent_at-x-requires : goal.extent_at-x-requires
extent_at-x-requires c =
    let o = c.requires.opened.0 in
    let w = c.loop-left.invariant.going in
    record {
      shaped = going_shaped o.sound w c.loop-left-test.true o.shaped (total_pieces (whole o.shaped));
      into_bound = omega (arith, going_before o.sound w c.loop-left-test.true);
    }

module _ (c : At-loop-left) where
  -- the storage has the pool's buffers
  fits : Fit (decode c.args.pool.now).stock (buffer_total (decode c.args.pool.now)) c.args.storage.now
  fits = storage_fits (whole c.requires.opened.0.shaped) c.requires.backs.0

  -- where the buffer lies
  place : Place (decode c.args.pool.now).stock c.args.b.0 (buffer_size * c.args.b.0) buffer_size
  place = place_one (decode c.args.pool.now).stock c.args.b.0

  -- of which the buffer is one
  below : c.args.b.0 < buffer_total (decode c.args.pool.now)
  below = omega (arith, c.requires.backs.1, total_buffers (whole c.requires.opened.0.shaped))

  -- in the storage
  lies_in : buffer_size * c.args.b.0 + buffer_size ≤ length c.args.storage.now
  lies_in = place_inside place (buffer_total (decode c.args.pool.now)) c.args.storage.now fits below

-- the next extent
next : (c : After-extent_at-x) → Next (decode c.args.pool.now) c.args.storage.now c.loop-left.g c.loop-left.left c.extent_at-x.result
next c =
    let p = c.requires in
    going_next p.opened.0.sound c.loop-left.invariant.going c.loop-left-test.true (storage_fits (whole p.opened.0.shaped) p.backs.0) c.extent_at-x.ensures

pub fill_part-requires : goal.fill_part-requires
fill_part-requires c =
    let o = goal.at.fill_part-requires c in
    let x = next o.After-extent_at-x in
    let w = c.loop-left.invariant in
    (omega (arith, lies_in o.At-loop-left), omega (arith, w.going.room, w.size, x.most), omega (arith, x.lies))

pub advance-g-requires : goal.advance-g-requires
advance-g-requires c =
    let o = c.requires.opened.0 in
    record {
      shaped = going_shaped o.sound c.loop-left.invariant.going c.loop-left-test.true o.shaped (total_pieces (whole o.shaped));
      k_bound = (next (goal.at.advance-g-requires c).After-extent_at-x).within;
    }

pub loop-left-smaller : goal.loop-left-smaller
loop-left-smaller c = let x = next (goal.at.loop-left-smaller c).After-extent_at-x in omega (arith, x.some, x.most)

pub loop-left-preserved : goal.loop-left-preserved
loop-left-preserved c =
    let o = (goal.at.loop-left-preserved c).At-loop-left in
    moving_on (decode c.args.pool.now) c.args.b.0 _ _ (place o) c.args.storage.now c.requires.opened.0.sound (fits o) (below o) c.loop-left.invariant
    c.requires.backs.2 c.loop-left-test.true c.extent_at-x.ensures c.advance-g.ensures c.fill_part.ensures

pub fill_rest-requires : goal.fill_rest-requires
fill_rest-requires c =
    let o = (goal.at.fill_rest-requires c).At-loop-left in
    (omega (arith, lies_in o), c.requires.n_bound.1)

pub returns : goal.returns
returns c =
    let o = (goal.at.returns c).At-loop-left in
    let T = decode c.args.pool.now in
    let st = c.args.storage.now in
    let w = c.loop-left.invariant in
    let s = c.requires.opened.0.sound in
    let xs = bytes_from T st c.args.c c.args.n in
    let count = bytes_count T st c.args.c c.args.n s (fits o) c.requires.opened.1 c.requires.n_bound.0 in
    record {
      storage_after = moving_done T c.args.b.0 _ _ (place o) st s (fits o) (below o) w c.loop-left-test.false xs
          (take buffer_size (drop (buffer_size * c.args.b.0) st)) _ c.args.n refl count c.requires.n_bound.1 c.fill_rest.ensures;
      value = going_end s w.going c.loop-left-test.false;
    }
