-- `draw_slips::put_state` meets its contract. Assumes nothing.
use Rattle.rules.specs.Bytes.{decode}
use Rattle.page.proofs.Ink.{on}
use Rattle.draw_slips.proofs.Text.{state_empty, state_heads}
use Rattle.draw_slips.proofs.put_state.Goals as goal

pub returns-in-Empty : goal.returns-in-Empty
returns-in-Empty c =
    rw (state_empty (decode c.args.pool.now) c.args.w c.args.s.0 c.in-Empty.ensures) (on c.put_length.ensures c.text-in-Empty.ensures)

pub returns-in-Heads : goal.returns-in-Heads
returns-in-Heads c =
    rw (state_heads (decode c.args.pool.now) c.args.w c.args.s.0 _ c.in-Heads.ensures)
    (rw (c.chain_length.ensures, c.head_link.ensures) at (on c.put_length-in-Heads.ensures c.put_chain.ensures))
