-- Laying new pieces on the lowest free buffers, one after another.
use Rattle.std.specs.Prelude.{ℕ, ◌+◌, ◌-◌, ◌<◌, min}
use Rattle.kinds.specs.Limits.{buffer_size}
use Rattle.rules.specs.Tables.{Tables, piece_total, buffer_total}
use Rattle.rules.specs.Chain.{Stretch}
use Rattle.rules.specs.Room.{is_unheld}
use Rattle.room.specs.Free.{first_from}
use Rattle.build.specs.declared.Laying.{Laying}
use Rattle.build.specs.Line.{next_in_line}

-- the lowest free buffer, from where laying is
abbrev pub buffer_at : Tables → Laying → ℕ
buffer_at T c = first_from (is_unheld T) c.from.0 (buffer_total T)

-- what is laid on it: from offset 0, as much as it holds of what is left
abbrev pub laid_at : Tables → Laying → Stretch
laid_at T c = record { buffer = buffer_at T c; offset = 0; len = min buffer_size c.left }

-- how far laying is once a new piece for that is taken, where k more are to come
abbrev pub laid_on : Tables → Laying → ℕ → Laying
laid_on T c k = record { free = record { 0 = next_in_line T c.free.0 k }; from = record { 0 = buffer_at T c + 1 }; left = c.left - (laid_at T c).len }

-- laying can go on: there is a piece to take, and a free buffer
pub record Layable (T : Tables) (c : Laying) : Type 0 where
  pub free_below : c.free.0 < piece_total T
  pub in_store : buffer_at T c < buffer_total T
