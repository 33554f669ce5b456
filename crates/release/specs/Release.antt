-- Release over the tables alone and over the storage beside them, its single steps, and when a reference can be released.
use Rattle.std.specs.Prelude.{List, [], ◌∷◌, ℕ, ◌<◌}
use Rattle.rules.specs.Basics.{whether◌then◌else◌}
use Rattle.rules.specs.Tables.{Tables, piece, buffer_count, piece_total, buffer_total}
use Rattle.rules.specs.Chain.{State, state_of}
use Rattle.rules.specs.Release.{lowered, another, freed, release, turned, relinked}
use Rattle.rules.proofs.Moves.{SoundWith}

-- the tables with no storage beside them
abbrev pub bare : Tables → State
bare T = state_of T []

-- the tables after a release of the link n
unfoldable pub released : Tables → ℕ → Tables
released T n = (release (bare T) n).tables

-- the tables after slip s took the entry v and the link that it held was released
unfoldable pub turned_to : Tables → ℕ → ℕ → Tables
turned_to T s v = (turned (bare T) s v).tables

-- the tables after piece l took the next n and its old next was released
unfoldable pub relinked_to : Tables → ℕ → ℕ → Tables
relinked_to T l n = (relinked (bare T) l n).tables

-- the tables after one reference to piece d is given up, and the link to give up after that
unfoldable pub stepped : Tables → ℕ → Tables
stepped T d = whether another T d then lowered T d else (freed (bare T) d).tables

unfoldable pub step_next : Tables → ℕ → ℕ
step_next T d = whether another T d then 0 else (piece T d).next

-- ---- the storage st beside the tables T, after each of these

unfoldable pub released_storage : Tables → List ℕ → ℕ → List ℕ
released_storage T st n = (release (state_of T st) n).storage

unfoldable pub turned_storage : Tables → List ℕ → ℕ → ℕ → List ℕ
turned_storage T st s v = (turned (state_of T st) s v).storage

unfoldable pub relinked_storage : Tables → List ℕ → ℕ → ℕ → List ℕ
relinked_storage T st l n = (relinked (state_of T st) l n).storage

unfoldable pub stepped_storage : Tables → List ℕ → ℕ → List ℕ
stepped_storage T st d = whether another T d then st else (freed (state_of T st) d).storage

-- ---- when

-- piece d has a reference to give up, and its buffer counts it
pub record Held (T : Tables) (d : ℕ) : Type 0 where
  pub inside : d < piece_total T
  pub counted : 0 < (piece T d).count
  pub buffer_inside : (piece T d).buffer < buffer_total T
  pub buffer_counted : 0 < buffer_count T (piece T d).buffer

-- the tables are sound but for the link n and the links `others`, which the operation under way holds
pub record Releasable (T : Tables) (n : ℕ) : Type 0 where
  pub others : List ℕ
  pub sound : SoundWith (n ∷ others) T
