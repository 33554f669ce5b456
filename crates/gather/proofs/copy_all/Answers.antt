-- `gather::copy_all` meets its contract: the bytes of the records that are left are still to go to the place `at`. Assumes nothing.
use Rattle.std.proofs.Common.{arith, ◌∙◌}
use Rattle.gather.proofs.Laws.{listing_first, listing_fits, listing_on, listing_done}
use Rattle.gather.proofs.copy_all.Goals as goal

pub loop-record-init : goal.loop-record-init
loop-record-init c =
    let a = c.args in
    (grind arith, listing_first a.storage.now a.list.now a.output.now _ (cc) c.requires.0 c.requires.1)

pub copy_run-requires : goal.copy_run-requires
copy_run-requires c =
    let w = c.loop-record.invariant in
    listing_fits w.1 (record { joined = c.in-Some.ensures.steps.1.0; long = c.in-Some.ensures.steps.1.1 ∙ w.0 })

pub loop-record-preserved : goal.loop-record-preserved
loop-record-preserved c =
    let w = c.loop-record.invariant in
    (grind arith, listing_on w.1 (record { joined = c.in-Some.ensures.steps.1.0; long = c.in-Some.ensures.steps.1.1 ∙ w.0 }) c.copy_run.ensures)

pub returns : goal.returns
returns c = listing_done c.loop-record.invariant.1 (omega (arith, c.in-None.ensures.steps))
