-- New pieces taken in line: the next of each is the next free piece.
use Rattle.std.specs.Prelude.{ℕ, zero, suc}
use Rattle.rules.specs.Tables.{Tables, piece_total}
use Rattle.rules.specs.Room.{is_free}
use Rattle.room.specs.Free.{first_from}
use Rattle.build.specs.declared.InLine.{InLine}

-- the piece after f in line, where k more are to come; f itself where none is
abbrev pub next_in_line : Tables → ℕ → ℕ → ℕ
next_in_line T f zero = f
next_in_line T f (suc k) = first_from (is_free T) (suc f) (piece_total T)

-- the link to it; tail where none is to come
abbrev pub link_in_line : Tables → ℕ → ℕ → ℕ → ℕ
link_in_line T f zero tail = tail
link_in_line T f (suc k) tail = suc (next_in_line T f (suc k))

-- both
abbrev pub in_line : Tables → ℕ → ℕ → ℕ → InLine
in_line T f k tail = record { free = record { 0 = next_in_line T f k }; link = link_in_line T f k tail }
