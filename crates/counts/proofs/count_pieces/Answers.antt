-- `counts::count_pieces` meets its contract. The invariant: the pieces passed are in range and counted. Assumes nothing.
use mathlib.Core.Path.{refl}
use Rattle.std.proofs.Common.{arith}
use Rattle.counts.proofs.Counters.{totals, pieces_start, pieces_torn, pieces_fit, pieces_on, pieces_end}
use Rattle.counts.proofs.count_pieces.Goals as goal

pub loop-d-init : goal.loop-d-init
loop-d-init c = pieces_start _ (totals c.requires.0) c.requires.1 c.requires.2

pub returns-then-not-entry_ok : goal.returns-then-not-entry_ok
returns-then-not-entry_ok c = pieces_torn _ (totals c.requires.0) c.loop-d-test.true c.entry_of-e.ensures refl (cc)

pub count_entry-requires : goal.count_entry-requires
count_entry-requires c = pieces_fit _ (totals c.requires.0) c.loop-d-test.true c.entry_of-e.ensures refl (cc) c.loop-d.invariant

pub loop-d-preserved : goal.loop-d-preserved
loop-d-preserved c =
    pieces_on _ (totals c.requires.0) c.loop-d-test.true c.entry_of-e.ensures refl (cc) c.loop-d.invariant c.count_entry.ensures.0 c.count_entry.ensures.1

pub returns : goal.returns
returns c =
    let t = totals c.requires.0 in
    pieces_end _ c.loop-d.invariant (omega arith)
