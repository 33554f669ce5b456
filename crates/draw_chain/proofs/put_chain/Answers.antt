-- `draw_chain::put_chain` meets its contract. Assumes nothing.
use native.Mathlib.Omega.{arith}
use Rattle.draw_chain.proofs.Text.{drawing, piece_count}
use Rattle.draw_chain.proofs.put_chain.Goals as goal

pub returns-then-shape-eq0 : goal.returns-then-shape-eq0
returns-then-shape-eq0 c = rw (piece_count c.requires) (grind (arith, drawing))

pub returns : goal.returns
returns c = rw (piece_count c.requires) (grind (arith, drawing))
