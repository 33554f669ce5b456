-- `draw_slips::put_slip` meets its contract. Assumes nothing.
use Rattle.page.proofs.Ink.{on}
use Rattle.draw_slips.specs.Text.{slip_text}
use Rattle.draw_slips.proofs.put_slip.Goals as goal

pub returns : goal.returns
unfolding slip_text
returns c = rw (c.from.ensures, c.serial.ensures) at (on (on (on c.tagged.ensures c.serial-2.ensures) c.put_state.ensures) c.text.ensures)
