-- What an operation may trust of the pool that it is lent.
use Rattle.std.specs.Prelude.{List, ℕ, ◌≤◌}
use Rattle.kinds.specs.Limits.{most_buffers, most_pieces, most_slips}
use Rattle.rules.specs.Bytes.{decode}
use Rattle.rules.specs.Sound.{SoundTables}
use Rattle.layout.specs.declared.Shape.{Shape}
use Rattle.tables.specs.Shape.{Shaped}

-- a pool that an operation may trust: it has the shape h, whose counts are within their limits,
-- and its tables are sound
pub record Opened (p : List ℕ) (h : Shape) : Type 0 where
  pub shaped : Shaped p h
  pub few_buffers_lem : h.buffers ≤ most_buffers
  pub few_pieces_lem : h.pieces ≤ most_pieces
  pub few_slips : h.slips ≤ most_slips
  pub sound : SoundTables (decode p)
