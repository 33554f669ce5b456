-- `tables::set_piece` meets its contract. Assumes nothing.
use Rattle.rules.specs.Tables.{Piece, with_place, with_next}
use Rattle.tables.proofs.Laws.{again}
use Rattle.tables.proofs.set_piece.Goals as goal

pub returns : goal.returns
returns c =
    let e = c.args.e in
    let place = again _ _ _ c.requires.1 c.set_piece_base.ensures (λ (x : Piece). with_place x e.offset e.len) c.set_piece_place.ensures in
    again _ _ _ c.requires.1 place (λ (x : Piece). with_next x e.next) c.set_piece_next.ensures
