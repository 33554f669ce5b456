-- The record of one piece, as a struct.
use Rattle.std.specs.Prelude.{List, ℕ}
use Rattle.rules.specs.Tables.{Piece}
use Rattle.rules.specs.Chain.{stretch, position_of}
use Rattle.list.specs.declared.Record.{Record}

-- where the piece lies in the storage of a pool with the stock Z, how long it is, and the link behind it
abbrev pub record_of : List ℕ → Piece → Record
record_of Z p = record { stretch = record { position = position_of Z (stretch p); length = p.len }; next = p.next }
