-- `transfer::refill` meets its contract: the bytes from the place `c` on are still to go to the lowest free buffers from `from` on. Assumes nothing.
use Prim.Native.Nat.{◌<◌}
use native.Mathlib.Omega.{arith}
use Rattle.rules.specs.Bytes.{decode}
use Rattle.tables.proofs.Laws.{whole, total_buffers, storage_fits, storage_shaped}
use Rattle.transfer.proofs.Afresh.{refilling_first, refilling_done, refilling_below, refilling_free, refilling_on}
use Rattle.transfer.proofs.refill.Goals as goal
use Rattle.transfer.proofs.refill.Goals.{After-next_free-b}

pub loop-left-init : goal.loop-left-init
loop-left-init c =
    let p = c.requires in
    let fits = storage_fits (whole p.opened.0.shaped) p.backs.0 in
    refilling_first (decode c.args.pool.now) c.args.storage.now c.args.link c.args.n p.buffer_value p.opened.0.sound fits p.opened.1 p.backs.1 p.n_in_bounds

-- the buffer found is one of the pool's
below : (c : After-next_free-b) → c.next_free-b.result.0 < c.args.shape.buffers
below c =
    let o = c.requires.opened.0 in
    omega (arith, refilling_below o.sound c.loop-left.invariant c.loop-left-test.true c.next_free-b.ensures, total_buffers (whole o.shaped))

pub refill_buffer-c-requires-clause-backs : goal.refill_buffer-c-requires-clause-backs
refill_buffer-c-requires-clause-backs c =
    let w = c.loop-left.invariant in
    let o = c.requires.opened.0 in (
      storage_shaped (whole o.shaped) w.filling.fits,
      below (goal.at.refill_buffer-c-requires-clause-backs c).After-next_free-b,
      refilling_free o.sound w c.loop-left-test.true c.next_free-b.ensures,
    )

pub overflow_add-from : goal.overflow_add-from
overflow_add-from c =
    omega (arith, below (goal.at.overflow_add-from c).After-next_free-b)

pub loop-left-preserved : goal.loop-left-preserved
loop-left-preserved c =
    refilling_on c.requires.opened.0.sound c.loop-left.invariant c.loop-left-test.true c.next_free-b.ensures c.min-m.ensures c.refill_buffer-c.ensures.storage_after c.refill_buffer-c.ensures.value

pub returns : goal.returns
returns c = refilling_done c.requires.opened.0.sound c.loop-left.invariant c.loop-left-test.false
