-- What is met from a link on, and its length.
use Rattle.std.specs.Prelude.{◌≡◌, ℕ, ◌*◌, ◌≤◌, List}
use Rattle.kinds.specs.Limits.{buffer_size}
use Rattle.rules.specs.Tables.{Tables, piece_total}
use Rattle.rules.specs.Chain.{Stretch, follow, walk, stretches, total}
use Rattle.chain.specs.declared.Leg.{Leg}

-- the stretches of the pieces met from the link n on
abbrev pub stretches_from : Tables → ℕ → List Stretch
stretches_from T n = stretches T (walk (piece_total T) T n)

-- r is the leg of a walk over the pieces met from the link n, at most k of them: their length, and where k follows lead
pub record LegIs (T : Tables) (n k : ℕ) (r : Leg) : Type 0 where
  pub is : r.bytes ≡ total (stretches T (walk k T n))
  pub most : r.bytes ≤ buffer_size * k
  pub behind : r.link ≡ follow T k n

-- r is the length of the pieces met from the link n, at most k of them
pub record LengthIs (T : Tables) (n k r : ℕ) : Type 0 where
  pub is : r ≡ total (stretches T (walk k T n))
  pub most : r ≤ buffer_size * k
