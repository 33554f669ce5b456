-- When a reference can be added.
use Rattle.std.specs.Prelude.{◌≡◌, ℕ, suc, ◌≤◌, ◌<◌}
use Rattle.rules.specs.Tables.{Tables, piece, piece_total}

-- the link n leads nowhere, or to a piece below P whose count can rise
pub record Sharable (T : Tables) (n : ℕ) : Type 0 where
  pub inside : n ≤ piece_total T
  pub room : (d : ℕ) → n ≡ suc d → (piece T d).count < 65535
