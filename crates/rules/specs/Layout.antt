-- How a pool lies in bytes: its mark, its version, its lengths, and where each entry stands.
use Rattle.std.specs.Prelude.{List, [], ◌∷◌, ℕ, ◌+◌, ◌*◌}
use Rattle.kinds.specs.Sizes.{start_of}

-- `SLP`
abbrev pub mark : List ℕ
mark = 83 ∷ 76 ∷ 80 ∷ []

abbrev pub version : ℕ
version = 2

-- The header: mark (3 bytes), then version, B, P and S (2 bytes each), at these bytes.
abbrev pub version_at : ℕ
version_at = 3

abbrev pub buffers_at : ℕ
buffers_at = 5

abbrev pub pieces_at : ℕ
pieces_at = 7

abbrev pub slips_at : ℕ
slips_at = 9

abbrev pub header_length : ℕ
header_length = 11

-- the bytes of a slip's entry (its state, then its serial), of a piece's, and of a buffer's count
abbrev pub slip_width : ℕ
slip_width = 4

abbrev pub piece_width : ℕ
piece_width = 10

abbrev pub count_width : ℕ
count_width = 2

-- where the entries stand: first the slips', then the pieces', then the counts
abbrev pub slip_at : ℕ → ℕ
slip_at s = header_length + slip_width * s

abbrev pub serial_at : ℕ → ℕ
serial_at s = slip_at s + 2

abbrev pub piece_at : ℕ → ℕ → ℕ
piece_at S d = slip_at S + piece_width * d

abbrev pub count_at : ℕ → ℕ → ℕ → ℕ
count_at P S b = piece_at S P + count_width * b

-- the exact length of a pool of B buffers, P pieces and S slips: where a further count would stand
abbrev pub pool_length : ℕ → ℕ → ℕ → ℕ
pool_length B P S = count_at P S B

-- the exact length of its storage: where a buffer B would start
abbrev pub storage_length : List ℕ → ℕ → ℕ
storage_length Z B = start_of Z B
