-- Copying the pieces of a range, one after another.
use Rattle.std.specs.Prelude.{ℕ, ◌+◌, ◌-◌, ◌≤◌, ◌<◌, min}
use Rattle.kinds.specs.Limits.{buffer_size}
use Rattle.rules.specs.Tables.{Tables, piece, buffer_count, piece_total, buffer_total}
use Rattle.rules.specs.Chain.{Stretch, stretch}
use Rattle.build.specs.declared.Cloning.{Cloning}
use Rattle.build.specs.Line.{next_in_line}

-- the stretch of the piece that the link n leads to
abbrev pub stretch_at : Tables → ℕ → Stretch
stretch_at T n = stretch (piece T (n - 1))

-- what the range has of the stretch x
abbrev pub next_part : Stretch → Cloning → Stretch
next_part x c = record { buffer = x.buffer; offset = x.offset + c.skip; len = min c.left (x.len - c.skip) }

-- how far copying is once a new piece for that part is taken, where k more are to come
abbrev pub cloned : Tables → Cloning → ℕ → Cloning
cloned T c k = record {
  free = record { 0 = next_in_line T c.free.0 k };
  at = (piece T (c.at - 1)).next;
  skip = 0;
  left = c.left - (next_part (stretch_at T c.at) c).len;
}

-- A new piece can be taken for what piece d has from its byte n on: d is below P, the place lies inside it, and the count of its
-- buffer, which is below B, can rise.
pub record Copyable (T : Tables) (d n : ℕ) : Type 0 where
  pub below : d < piece_total T
  pub inside : n < (piece T d).len
  pub small : (piece T d).offset + (piece T d).len ≤ buffer_size
  pub in_store : (piece T d).buffer < buffer_total T
  pub room : buffer_count T (piece T d).buffer < 65535

-- copying can go on: there is a piece to copy, and a piece to take for it
pub record Clonable (T : Tables) (c : Cloning) : Type 0 where
  pub free_below : c.free.0 < piece_total T
  pub some : 0 < c.at
  pub place : Copyable T (c.at - 1) c.skip
