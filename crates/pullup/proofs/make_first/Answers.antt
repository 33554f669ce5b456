-- `pullup::make_first` meets its contract. Assumes nothing.
use Rattle.std.proofs.Common.{arith}
use Rattle.tables.proofs.Laws.{totals}
use Rattle.pullup.proofs.Plan.{first_below, rest_makable, first_counts, first_made}
use Rattle.pullup.proofs.make_first.Goals as goal

pub overflow_add-f : goal.overflow_add-f
overflow_add-f c = grind (arith, totals, first_below c.requires.2 c.next_free-f.ensures)

pub make-link-requires : goal.make-link-requires
make-link-requires c = (c.requires.0, c.requires.1, rest_makable c.requires.2 c.next_free-f.ensures c.max-second.ensures)

pub take_piece-requires : goal.take_piece-requires
take_piece-requires c = grind (arith, totals, first_below c.requires.2 c.next_free-f.ensures, first_counts c.requires.2 c.next_free-f.ensures c.max-second.ensures c.make-link.ensures.0)

pub returns : goal.returns
returns c = first_made c.requires.2 c.next_free-f.ensures c.max-second.ensures c.args.n c.make-link.ensures c.take_piece.ensures
