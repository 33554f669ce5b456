-- `draw_chain::chain_length` meets its contract. Assumes nothing.
use Rattle.draw_chain.proofs.Text.{piece_count}
use Rattle.draw_chain.proofs.chain_length.Goals as goal

pub returns : goal.returns
returns c = rw (piece_count c.requires.0) (cc)
