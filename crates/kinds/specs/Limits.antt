-- How many buffers, pieces and slips a pool may have, and the bytes of a buffer.
use Rattle.std.specs.Prelude.{ℕ, ◌+◌, Bool, ◌&&◌, leb}

-- the most buffers of a pool: the limit on fixed-size clusters
abbrev pub most_buffers : ℕ
most_buffers = 1024

-- the most pieces of a pool: the limit on segment descriptors
abbrev pub most_pieces : ℕ
most_pieces = 2048

-- the most slips of a pool: the limit on handles
abbrev pub most_slips : ℕ
most_slips = 256

-- no count is higher, one reference for each piece and each slip: the limit on reference counts
abbrev pub most_count : ℕ
most_count = most_pieces + most_slips

-- the bytes of a buffer: the cluster size
abbrev pub buffer_size : ℕ
buffer_size = 512

-- n is a count from 1 to most: a range test
abbrev pub counted : ℕ → ℕ → Bool
counted most n = leb 1 n && leb n most
