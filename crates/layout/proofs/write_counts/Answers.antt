-- `layout::write_counts` meets its contract. Assumes nothing.
use Rattle.layout.proofs.Laws.{put_counts}
use Rattle.layout.proofs.write_counts.Goals as goal

pub returns : goal.returns
returns c = let h = c.args.shape in rw (c.set16-3.ensures, c.set16-2.ensures, c.set16.ensures) (put_counts c.args.pool.now h.buffers h.pieces h.slips c.requires)
