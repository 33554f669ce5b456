-- The free numbers, lowest first, and the new numbers that a call takes.
use Rattle.std.specs.Prelude.{Bool, not, ◌&&◌, ◌||◌, List, ℕ, ◌-◌, get_or, take, eqb}
use Rattle.kinds.specs.Serial.{last_serial}
use Rattle.rules.specs.Basics.{places, member}
use Rattle.rules.specs.Tables.{Tables, slip, serial, piece, buffer_count, vacant, slip_total, piece_total, buffer_total}

abbrev pub is_vacant : Tables → ℕ → Bool
is_vacant T s = eqb (slip T s) vacant

-- slip s is spent: vacant at the last serial, and not given again
abbrev pub is_spent : Tables → ℕ → Bool
is_spent T s = is_vacant T s && eqb (serial T s) last_serial

-- slip s may be given: it is vacant and not spent
abbrev pub is_ready : Tables → ℕ → Bool
is_ready T s = is_vacant T s && not (is_spent T s)

abbrev pub is_free : Tables → ℕ → Bool
is_free T d = eqb (piece T d).count 0

abbrev pub is_unheld : Tables → ℕ → Bool
is_unheld T b = eqb (buffer_count T b) 0

abbrev pub ready_slips : Tables → List ℕ
ready_slips T = places (is_ready T) 0 (slip_total T)

abbrev pub free_pieces : Tables → List ℕ
free_pieces T = places (is_free T) 0 (piece_total T)

-- piece d is one of ds, which are given back first, or free; and all such pieces
abbrev pub is_free_with : Tables → List ℕ → ℕ → Bool
is_free_with T ds d = member d ds || is_free T d

abbrev pub free_with : Tables → List ℕ → List ℕ
free_with T ds = places (is_free_with T ds) 0 (piece_total T)

-- the free pieces from number i on
abbrev pub free_from : Tables → ℕ → List ℕ
free_from T i = places (is_free T) i (piece_total T - i)

abbrev pub free_buffers : Tables → List ℕ
free_buffers T = places (is_unheld T) 0 (buffer_total T)

-- a new slip is the lowest that may be given; the k new buffers are the lowest k free
abbrev pub new_slip : Tables → ℕ
new_slip T = get_or (ready_slips T) 0 0

abbrev pub new_buffers : Tables → ℕ → List ℕ
new_buffers T k = take k (free_buffers T)
