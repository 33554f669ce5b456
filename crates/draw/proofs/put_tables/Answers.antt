-- `draw::put_tables` meets its contract. Assumes nothing.
use Rattle.page.proofs.Ink.{on}
use Rattle.draw.specs.Text.{tables_text}
use Rattle.draw.proofs.put_tables.Goals as goal

pub returns : goal.returns
unfolding tables_text
returns c = on (on c.put_slips.ensures c.put_buffers.ensures) c.put_stock.ensures
