-- Release of a reference (bf_afree), and the stores that give a reference or take one.
use Rattle.std.specs.Prelude.{Bool, ℕ, zero, suc, ◌-◌, eqb, ltb}
use Rattle.rules.specs.Basics.{whether◌then◌else◌}
use Rattle.rules.specs.Tables.{Tables, blank, piece, buffer_count, head_of, piece_total, set_slip, set_piece, set_piece_count, with_count, with_next}
use Rattle.rules.specs.Chain.{State, state_of, with_tables}
use Rattle.rules.specs.Storage.{cleaned}

-- one reference more, and one less, to piece d
abbrev pub raised : Tables → ℕ → Tables
raised T d = set_piece T d (with_count (piece T d) (suc (piece T d).count))

abbrev pub lowered : Tables → ℕ → Tables
lowered T d = set_piece T d (with_count (piece T d) ((piece T d).count - 1))

-- one reference more to where a link leads
abbrev pub shared : Tables → ℕ → Tables
shared T zero = T
shared T (suc d) = raised T d

-- piece d has another reference besides the one released
abbrev pub another : Tables → ℕ → Bool
another T d = ltb 1 (piece T d).count

-- Piece d has lost its last reference: 1 is taken from its buffer's count, and it is zeroed.
-- Where the buffer's count reaches 0, every byte of the buffer is zeroed too.
abbrev pub freed : State → ℕ → State
freed S d =
    let T = S.tables in
    let b = (piece T d).buffer in
    let n = buffer_count T b - 1 in
    state_of (set_piece_count T d blank b n) (whether eqb n 0 then cleaned T.stock S.storage b else S.storage)

-- Release of a reference to the link n: 1 is taken from the piece's count; only where that
-- reaches 0 is the piece freed and its next released in turn. k bounds the pieces freed.
unfoldable pub release_in : ℕ → State → ℕ → State
release_in zero S n = S
release_in (suc k) S zero = S
release_in (suc k) S (suc d) =
    let T = S.tables in
    let more = release_in k (freed S d) (piece T d).next in
    whether another T d then with_tables S (lowered T d) else more

-- no chain has more than P pieces
unfoldable pub release : State → ℕ → State
unfolding release_in
release S n = release_in (piece_total S.tables) S n

-- slip s takes the entry v, and the link that it held is released
unfoldable pub turned : State → ℕ → ℕ → State
turned S s v = release (with_tables S (set_slip S.tables s v)) (head_of S.tables s)

-- piece l takes the next n, and its old next is released
unfoldable pub relinked : State → ℕ → ℕ → State
relinked S l n =
    let T = S.tables in
    release (with_tables S (set_piece T l (with_next (piece T l) n))) (piece T l).next
