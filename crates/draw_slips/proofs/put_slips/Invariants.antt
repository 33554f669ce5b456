-- The lines of the first `s` slips are drawn.
use Rattle.rules.specs.Bytes.{decode}
use Rattle.page.specs.Page.{Wrote}
use Rattle.draw_slips.specs.Text.{up_to, slip_text}
use Rattle.draw_slips.proofs.put_slips.Given as goal

abbrev pub invariant-loop-s : goal.invariant-loop-s
invariant-loop-s l = Wrote l.initial.page l.page (up_to l.s (slip_text (decode l.pool) l.w))
