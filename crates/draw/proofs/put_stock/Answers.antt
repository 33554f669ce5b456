-- `draw::put_stock` meets its contract. Assumes nothing.
use Rattle.page.proofs.Ink.{on}
use Rattle.draw_chain.proofs.Text.{piece_count}
use Rattle.draw.proofs.put_stock.Goals as goal

pub returns : goal.returns
returns c =
    rw (← c.free_pieces-n.ensures.0, piece_count c.requires)
    (rw (c.from.ensures, c.from-2.ensures) at (on (on c.tagged.ensures c.tagged-2.ensures) c.text.ensures))
