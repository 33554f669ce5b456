-- The line of the first `b` buffers is drawn.
use Rattle.rules.specs.Bytes.{decode}
use Rattle.page.specs.Page.{Wrote}
use Rattle.draw_slips.specs.Text.{up_to}
use Rattle.draw.specs.Text.{buffer_text}
use Rattle.draw.proofs.put_buffers.Given as goal

abbrev pub invariant-loop-b : goal.invariant-loop-b
invariant-loop-b l = Wrote l.initial.page l.page (up_to l.b (buffer_text (decode l.pool)))
