-- `draw_chain::put_piece` meets its contract. Assumes nothing.
use native.Mathlib.Omega.{arith}
use Rattle.page.proofs.Ink.{inks}
use Rattle.draw_chain.specs.Text.{piece_text}
use Rattle.draw_chain.proofs.put_piece.Goals as goal

pub returns : goal.returns
unfolding piece_text
returns c = grind (arith, inks)
