-- `transfer::fill_free` meets its contract: what is left of the input is still to go to the lowest free buffers from `from` on. Assumes nothing.
use mathlib.Core.Path.{◌∙◌}
use Prim.Native.Nat.{◌<◌}
use native.Mathlib.Omega.{arith}
use Rattle.kinds.specs.Limits.{buffer_size}
use Rattle.rules.specs.Tables.{buffer_total}
use Rattle.rules.specs.Bytes.{decode}
use Rattle.rules.specs.Room.{is_unheld}
use Rattle.tables.proofs.Laws.{whole, total_buffers, storage_fits}
use Rattle.storage.proofs.Place.{place_one, place_inside}
use Rattle.transfer.proofs.Fill.{next_part_lem, filling_first, filling_done, filling_below, filling_on}
use Rattle.transfer.proofs.fill_free.Goals as goal
use Rattle.transfer.proofs.fill_free.Goals.{After-next_free-to}

pub loop-part-init : goal.loop-part-init
loop-part-init c =
    let T = decode c.args.pool.now in
    let p = c.requires in
    let fits = storage_fits (whole p.shaped.0) p.shaped.1 in
    rw (c.into_iter-part-iterator.ensures.into_iter_gives, c.chunks-part-items.ensures.size, c.chunks-part-items.ensures.rest)
    (omega arith, filling_first T.stock (is_unheld T) (buffer_total T) c.args.storage.now c.args.input.now p.buffer_value fits p.input_in_bounds)

-- the buffer found is one of the pool's
below : (c : After-next_free-to) → c.next_free-to.result.0 < buffer_total (decode c.args.pool.now)
below c = filling_below c.loop-part.invariant.1 c.in-Some.ensures.steps.1.2 c.next_free-to.ensures

pub fill_buffer-requires : goal.fill_buffer-requires
fill_buffer-requires c =
    let l = c.loop-part in
    let T = decode c.args.pool.now in (
      place_inside (place_one T.stock c.next_free-to.result.0) (buffer_total T) l.storage l.invariant.1.fits (below (goal.at.fill_buffer-requires c).After-next_free-to),
      omega (arith, c.in-Some.ensures.steps.1.1, l.invariant.0),
    )

pub overflow_add-from : goal.overflow_add-from
overflow_add-from c = omega (arith, below (goal.at.overflow_add-from c).After-next_free-to, total_buffers (whole c.requires.shaped.0))

pub loop-part-preserved : goal.loop-part-preserved
loop-part-preserved c =
    let steps = c.in-Some.ensures.steps in
    let w = c.loop-part.invariant in
    let p = next_part_lem buffer_size _ _ _ steps.1.0 (rw w.0 at steps.1.1) in
    (steps.0 ∙ w.0, filling_on w.1 steps.1.2 c.next_free-to.ensures p.0 p.1 c.fill_buffer.ensures)

pub returns : goal.returns
returns c = filling_done c.loop-part.invariant.1 c.in-None.ensures.steps.1.0
