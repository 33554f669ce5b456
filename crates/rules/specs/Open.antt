-- open B, P, S: writes the fresh pool; storage is unchanged.
use Rattle.std.specs.Prelude.{Bool, ◌&&◌, ℕ, length}
use Rattle.rules.specs.Sound.{Lent, counts_ok, lengths_ok}

-- each count is in its range, and both lent lengths are the ones it asks
unfoldable pub openable : ℕ → ℕ → ℕ → Lent → Bool
openable B P S m = counts_ok B P S && lengths_ok B P S (length m.pool) (length m.storage)
