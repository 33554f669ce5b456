-- `draw_slips::put_slips` meets its contract. Assumes nothing.
use mathlib.Core.Path.{◌≡◌}
use native.Mathlib.Omega.{arith}
use Rattle.draw_slips.proofs.Text.{slip_count}
use Rattle.draw_slips.proofs.put_slips.Goals as goal

pub returns : goal.returns
returns c =
    let all : c.loop-s.s ≡ c.args.shape.slips = omega arith in
    rw (← c.widest-w.ensures, slip_count c.requires, ← all) c.loop-s.invariant
