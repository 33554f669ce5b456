-- What is asked of entries and counts, in the order of the passes. Links are held to their range first: that they lead to
-- pieces in use follows once the counts agree (proofs/Ranges.antt).
use Rattle.std.specs.Prelude.{Bool, ◌&&◌, ℕ, ◌+◌, ltb, eqb, leb}
use Rattle.kinds.specs.Limits.{buffer_size}
use Rattle.rules.specs.Basics.{whether◌then◌else◌, all_to}
use Rattle.rules.specs.Tables.{Piece, Tables, piece, buffer_count, is_blank, head_of, slip_total, piece_total, buffer_total}
use Rattle.rules.specs.Sound.{heads, nexts, lying}

-- ---- one entry

-- no piece, or a piece below P
abbrev pub link_in_range : ℕ → ℕ → Bool
link_in_range P n = leb n P

-- a buffer below B, a length of at least 1, inside the buffer, and a next in range
abbrev pub used_in_range : ℕ → ℕ → Piece → Bool
used_in_range B P p = ltb p.buffer B && (leb 1 p.len && (leb (p.offset + p.len) buffer_size && link_in_range P p.next))

-- all zero, or in range
abbrev pub piece_in_range : ℕ → ℕ → Piece → Bool
piece_in_range B P p = whether eqb p.count 0 then is_blank p else used_in_range B P p

-- ---- all entries

unfoldable pub slips_in_range : Tables → Bool
slips_in_range T = all_to (slip_total T) (λ s. link_in_range (piece_total T) (head_of T s))

unfoldable pub pieces_in_range : Tables → Bool
pieces_in_range T = all_to (piece_total T) (λ d. piece_in_range (buffer_total T) (piece_total T) (piece T d))

-- each piece's count is its references
unfoldable pub counts_agree : Tables → Bool
counts_agree T = all_to (piece_total T) (λ d. eqb (piece T d).count (heads T d + nexts T d))

-- each buffer's count is the pieces that lie on it
unfoldable pub buffers_agree : Tables → Bool
buffers_agree T = all_to (buffer_total T) (λ b. eqb (buffer_count T b) (lying T b))

-- all of these
unfoldable pub references_ok : Tables → Bool
references_ok T = slips_in_range T && (pieces_in_range T && (counts_agree T && buffers_agree T))
