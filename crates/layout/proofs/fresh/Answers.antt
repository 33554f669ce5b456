-- `layout::fresh` meets its contract. Assumes nothing.
use Rattle.layout.proofs.Laws.{put_fresh}
use Rattle.layout.proofs.fresh.Goals as goal

pub returns : goal.returns
returns c =
    let h = c.args.shape in
    put_fresh c.args.pool.now c.write_mark.new.pool c.write_counts.new.pool c.zero.new.s h.buffers h.pieces h.slips c.requires c.write_mark.ensures c.write_counts.ensures c.zero.ensures
