-- A piece that ends earlier.
use Rattle.std.specs.Prelude.{ℕ, zero, suc, ◌-◌}
use Rattle.rules.specs.Tables.{Tables, piece, set_piece, with_place}

-- the piece that the link `last` leads to without its last n bytes; nothing changes where it leads nowhere
abbrev pub shortened_by : Tables → ℕ → ℕ → Tables
shortened_by T zero n = T
shortened_by T (suc l) n = set_piece T l (with_place (piece T l) (piece T l).offset ((piece T l).len - n))
