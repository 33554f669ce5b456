-- `draw::put_buffers` meets its contract. Assumes nothing.
use mathlib.Core.Path.{◌≡◌}
use native.Mathlib.Omega.{arith}
use Rattle.page.proofs.Ink.{on}
use Rattle.draw.proofs.Text.{buffer_count}
use Rattle.draw.proofs.put_buffers.Goals as goal

pub returns : goal.returns
returns c =
    let all : c.loop-b.b ≡ c.args.shape.buffers = omega arith in
    rw (buffer_count c.requires, ← all) (on (on c.text.ensures c.loop-b.invariant) c.text-2.ensures)
