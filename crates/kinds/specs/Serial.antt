-- The serial of a slip, and the number that is answered for a slip and its serial.
use Rattle.std.specs.Prelude.{ℕ, suc, ◌+◌, ◌*◌, ◌/◌, ◌%◌, min}

-- the last serial of a slip: a generation number that does not wrap
abbrev pub last_serial : ℕ
last_serial = 65535

-- the serial after n, once its slip is vacated: 1 more, never past the last
abbrev pub older : ℕ → ℕ
older n = min (suc n) last_serial

-- the number that a caller is answered for slip s with the serial k: a handle and its generation in one
abbrev pub name_with : ℕ → ℕ → ℕ
name_with s k = s + 65536 * k

-- the slip and the serial that such a number names
abbrev pub slip_in : ℕ → ℕ
slip_in n = n % 65536

abbrev pub serial_in : ℕ → ℕ
serial_in n = n / 65536
