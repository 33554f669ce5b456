-- `release::free_piece` meets its contract. Assumes nothing.
use Rattle.std.proofs.Common.{arith}
use Rattle.std.proofs.lemmas.Bool.Decides.{nat_tests}
use Rattle.rules.specs.Basics.{whether◌then◌else◌}
use Rattle.storage.proofs.Place.{place_one, place_inside, place_filled}
use Rattle.tables.proofs.Laws.{totals}
use Rattle.tables.specs.Shape.{stock_of}
use Rattle.rules.specs.Bytes.{decode}
use Rattle.release.proofs.free_piece.Goals as goal

pub clean_buffer-requires : goal.clean_buffer-requires
clean_buffer-requires c =
    grind (arith, totals, place_inside (place_one (stock_of c.args.shape) c.piece_buffer-b.result.0) c.args.shape.buffers c.args.storage.now c.requires.2)

pub returns-then-n-eq0 : goal.returns-then-n-eq0
unfolding whether◌then◌else◌
returns-then-n-eq0 c = grind (arith, totals, nat_tests, place_filled (place_one (decode c.args.pool.now).stock c.piece_buffer-b.result.0))

pub returns-else-n-eq0 : goal.returns-else-n-eq0
unfolding whether◌then◌else◌
returns-else-n-eq0 c = grind (arith, totals, nat_tests)
