-- `gather::asked` meets its contract: the records before those that are left are summed and judged. Assumes nothing.
use Rattle.std.proofs.Common.{◌≡◌, ◌+◌, ◌<◌, get_or, ◌∙◌, arith}
use Rattle.std.proofs.lemmas.Result.{err_from_is_err_and}
use Rattle.gather.proofs.Laws.{summing_narrow, summing_on, summing_room, summing_amiss, summing_done}
use Rattle.gather.proofs.asked.Goals as goal

pub returns-in_err-left : goal.returns-in_err-left
returns-in_err-left c =
    let w = c.loop-record.invariant in
    let s = c.in-Some.ensures.steps.1 in
    let p = err_from_is_err_and c.from_residual.result c.from_residual.ensures.1 in
    let less : c.loop-record.left < get_or c.in-Some.record.now 1 0 = grind arith in
    let e = summing_narrow w.1 (record { joined = s.0; long = s.1 ∙ w.0 }) less in
    grind arith

pub loop-record-preserved : goal.loop-record-preserved
loop-record-preserved c =
    let w = c.loop-record.invariant in
    let s = c.in-Some.ensures.steps.1 in
    let less : c.loop-record.left ≡ c.in_ok-left.left + get_or c.in-Some.record.now 1 0 = grind arith in
    (grind arith, summing_on w.1 (record { joined = s.0; long = s.1 ∙ w.0 }) less c.amiss-bad.ensures)

pub returns-then-bad : goal.returns-then-bad
returns-then-bad c = summing_amiss c.loop-record.invariant.1 (omega (arith, c.in-None.ensures.steps)) c.if-bad.true

pub overflow_sub-result : goal.overflow_sub-result
overflow_sub-result c = summing_room c.loop-record.invariant.1 (omega (arith, c.in-None.ensures.steps))

pub returns : goal.returns
returns c = summing_done c.loop-record.invariant.1 (omega (arith, c.in-None.ensures.steps)) c.if-bad.false
