-- `tables::set_piece_place` meets its contract. Assumes nothing.
use Rattle.std.proofs.Common.{arith}
use Rattle.tables.proofs.Laws.{with_field, store_field, again}
use Rattle.tables.proofs.set_piece_place.Goals as goal

pub returns : goal.returns
returns c =
    let d = c.args.d.0 in
    let first = store_field c.requires.0 (omega arith) c.set16.ensures d 2 c.requires.1 (omega arith) (omega arith) in
    again _ d _ c.requires.1 first (with_field 3 c.args.length) (store_field first.shaped (omega arith) c.set16-2.ensures d 3 c.requires.1 (omega arith) (omega arith))
