-- The five numbers of a piece, loaded.
use Rattle.rules.specs.Tables.{Piece}
use Rattle.tables.specs.declared.Entry.{Entry}

-- the piece of a loaded entry
abbrev pub piece_of : Entry → Piece
piece_of e = record { count = e.count; buffer = e.buffer.0; offset = e.offset; len = e.len; next = e.next }
