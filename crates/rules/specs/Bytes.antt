-- From bytes to tables and back. All numbers are 16 bits, low byte first.
use Rattle.std.specs.Prelude.{List, [], ◌∷◌, ◌++◌, ℕ, ◌+◌, ◌%◌}
use Rattle.word.specs.Word.{get16, bytes16}
use Rattle.rules.specs.Basics.{table}
use Rattle.rules.specs.Layout.{mark, version, slip_at, serial_at, piece_at, count_at, version_at, buffers_at, pieces_at, slips_at}
use Rattle.rules.specs.Tables.{Piece, Tables, slip_total, piece_total, buffer_total}

-- the header's numbers
abbrev pub version_in : List ℕ → ℕ
version_in p = get16 p version_at

abbrev pub buffers_in : List ℕ → ℕ
buffers_in p = get16 p buffers_at

-- the count of buffers of each size
abbrev pub stock_in : List ℕ → List ℕ
stock_in p = buffers_in p ∷ []

abbrev pub pieces_in : List ℕ → ℕ
pieces_in p = get16 p pieces_at

abbrev pub slips_in : List ℕ → ℕ
slips_in p = get16 p slips_at

-- the serial of slip s: 16 bits, whatever numbers p has for bytes
abbrev pub serial_of : List ℕ → ℕ → ℕ
serial_of p s = get16 p (serial_at s) % 65536

-- the piece whose entry starts at byte a
abbrev pub piece_in : List ℕ → ℕ → Piece
piece_in p a = record {
  count = get16 p a;
  buffer = get16 p (a + 2);
  offset = get16 p (a + 4);
  len = get16 p (a + 6);
  next = get16 p (a + 8);
}

-- the tables that a pool's bytes hold
unfoldable pub decode : List ℕ → Tables
decode p = record {
  slips = table (slips_in p) (λ s. get16 p (slip_at s));
  serials = table (slips_in p) (serial_of p);
  pieces = table (pieces_in p) (λ d. piece_in p (piece_at (slips_in p) d));
  counts = table (buffers_in p) (λ b. get16 p (count_at (pieces_in p) (slips_in p) b));
  stock = stock_in p;
}

abbrev pub slip_bytes : List ℕ → List ℕ → List ℕ
slip_bytes [] ks = []
slip_bytes (x ∷ xs) [] = bytes16 (x ∷ 0 ∷ []) ++ slip_bytes xs []
slip_bytes (x ∷ xs) (k ∷ ks) = bytes16 (x ∷ k ∷ []) ++ slip_bytes xs ks

abbrev pub piece_bytes : List Piece → List ℕ
piece_bytes [] = []
piece_bytes (x ∷ xs) = bytes16 (x.count ∷ x.buffer ∷ x.offset ∷ x.len ∷ x.next ∷ []) ++ piece_bytes xs

-- the bytes of a pool that holds the tables T
unfoldable pub encode : Tables → List ℕ
encode T =
    mark ++ (bytes16 (version ∷ buffer_total T ∷ piece_total T ∷ slip_total T ∷ [])
    ++ (slip_bytes T.slips T.serials ++ (piece_bytes T.pieces ++ bytes16 T.counts)))
