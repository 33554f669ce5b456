-- A link hung behind a run of own pieces.
use Rattle.std.specs.Prelude.{List, ℕ, zero, suc}
use Rattle.rules.specs.Tables.{Tables, piece, holding, set_piece, with_next}
use Rattle.release.specs.Release.{Releasable, turned_to, relinked_to, turned_storage, relinked_storage}

-- the tables once the link n is behind the piece that `last` leads to, or under slip s where that leads nowhere
abbrev pub hung_to : Tables → ℕ → ℕ → ℕ → Tables
hung_to T s zero n = turned_to T s (holding n)
hung_to T s (suc l) n = relinked_to T l n

-- and the storage st beside them
abbrev pub hung_storage : Tables → List ℕ → ℕ → ℕ → ℕ → List ℕ
hung_storage T st s zero n = turned_storage T st s (holding n)
hung_storage T st s (suc l) n = relinked_storage T st l n

-- the link n is held by the operation under way, and what stands behind `last` can be released once n stands there
abbrev pub Hangable : Tables → ℕ → ℕ → Type 0
Hangable T zero n = Releasable T n
Hangable T (suc l) n = Releasable (set_piece T l (with_next (piece T l) n)) (piece T l).next
