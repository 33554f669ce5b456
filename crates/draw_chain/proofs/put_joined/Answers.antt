-- `draw_chain::put_joined` meets its contract. Assumes nothing.
use Rattle.page.proofs.Ink.{on}
use Rattle.draw_chain.specs.Text.{joined_text}
use Rattle.draw_chain.proofs.put_joined.Goals as goal

pub returns : goal.returns
unfolding joined_text
returns c = on c.text.ensures c.put_piece.ensures
