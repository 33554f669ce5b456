-- `draw_chain::entry` meets its contract. Assumes nothing.
use Rattle.std.proofs.Common.{rules}
use Rattle.draw_chain.proofs.Text.{piece_past}
use Rattle.draw_chain.proofs.entry.Goals as goal

pub returns-then-shape-d : goal.returns-then-shape-d
returns-then-shape-d c = rw (piece_past c.requires c.args.d.0 c.if-shape-d.true) (search rules)
