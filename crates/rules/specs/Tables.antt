-- The pool's three tables as lists, and their entries.
use Rattle.std.specs.Prelude.{Bool, ◌&&◌, List, [], ◌∷◌, ℕ, suc, pred, length, get_or, set, replicate, eqb}
use Rattle.kinds.specs.Serial.{older, name_with}

-- A link names a piece or none, as a next does in bytes: 0 none, 1 + d piece d.

-- A piece is a segment descriptor (an mbuf, an accessor): a reference count, and the stretch
-- of one buffer that it covers; next is a link to the piece after it.
pub record Piece : Type 0 where
  pub count : ℕ
  pub buffer : ℕ
  pub offset : ℕ
  pub len : ℕ
  pub next : ℕ

-- A slip is a handle, the caller's one name for a chain. Its entry is 0 vacant, 1 empty,
-- 2 + d heading piece d; `serials` has beside each entry the serial that a caller must give (a generation).
-- `counts` has the reference count of each buffer, `stock` the count of buffers of each size, smallest first.
pub record Tables : Type 0 where
  pub slips : List ℕ
  pub serials : List ℕ
  pub pieces : List Piece
  pub counts : List ℕ
  pub stock : List ℕ

-- a free piece: its ten bytes are zero
abbrev pub blank : Piece
blank = record { count = 0; buffer = 0; offset = 0; len = 0; next = 0 }

abbrev pub is_blank : Piece → Bool
is_blank p = eqb p.count 0 && (eqb p.buffer 0 && (eqb p.offset 0 && (eqb p.len 0 && eqb p.next 0)))

-- the entries; past its end a table reads as zero
abbrev pub slip : Tables → ℕ → ℕ
slip T s = get_or T.slips s 0

abbrev pub serial : Tables → ℕ → ℕ
serial T s = get_or T.serials s 0

abbrev pub piece : Tables → ℕ → Piece
piece T d = get_or T.pieces d blank

abbrev pub buffer_count : Tables → ℕ → ℕ
buffer_count T b = get_or T.counts b 0

-- the link that a slip's entry holds, and the entry of a slip that holds the link n
abbrev pub head_of : Tables → ℕ → ℕ
head_of T s = pred (slip T s)

abbrev pub holding : ℕ → ℕ
holding n = suc n

abbrev pub vacant : ℕ
vacant = 0

-- the number that a caller is answered for slip s
abbrev pub name_of : Tables → ℕ → ℕ
name_of T s = name_with s (serial T s)

-- S, P and B
abbrev pub slip_total : Tables → ℕ
slip_total T = length T.slips

abbrev pub piece_total : Tables → ℕ
piece_total T = length T.pieces

abbrev pub buffer_total : Tables → ℕ
buffer_total T = length T.counts

-- T with other slips, with other serials, with other pieces, with other buffer counts, and with other pieces and counts
abbrev pub with_slips : Tables → List ℕ → Tables
with_slips T ss = record { slips = ss; serials = T.serials; pieces = T.pieces; counts = T.counts; stock = T.stock }

abbrev pub with_serials : Tables → List ℕ → Tables
with_serials T ks = record { slips = T.slips; serials = ks; pieces = T.pieces; counts = T.counts; stock = T.stock }

abbrev pub with_pieces : Tables → List Piece → Tables
with_pieces T ps = record { slips = T.slips; serials = T.serials; pieces = ps; counts = T.counts; stock = T.stock }

abbrev pub with_counts : Tables → List ℕ → Tables
with_counts T cs = record { slips = T.slips; serials = T.serials; pieces = T.pieces; counts = cs; stock = T.stock }

abbrev pub with_both : Tables → List Piece → List ℕ → Tables
with_both T ps cs = with_counts (with_pieces T ps) cs

-- the stores
abbrev pub set_slip : Tables → ℕ → ℕ → Tables
set_slip T s v = with_slips T (set T.slips s v)

abbrev pub set_serial : Tables → ℕ → ℕ → Tables
set_serial T s k = with_serials T (set T.serials s k)

abbrev pub set_piece : Tables → ℕ → Piece → Tables
set_piece T d p = with_pieces T (set T.pieces d p)

abbrev pub set_count : Tables → ℕ → ℕ → Tables
set_count T b n = with_counts T (set T.counts b n)

abbrev pub set_piece_count : Tables → ℕ → Piece → ℕ → ℕ → Tables
set_piece_count T d p b n = with_both T (set T.pieces d p) (set T.counts b n)

abbrev pub with_count : Piece → ℕ → Piece
with_count p n = record { count = n; buffer = p.buffer; offset = p.offset; len = p.len; next = p.next }

abbrev pub with_next : Piece → ℕ → Piece
with_next p n = record { count = p.count; buffer = p.buffer; offset = p.offset; len = p.len; next = n }

abbrev pub with_place : Piece → ℕ → ℕ → Piece
with_place p off n = record { count = p.count; buffer = p.buffer; offset = off; len = n; next = p.next }

-- the serial of slip s goes up by 1, never past the last
abbrev pub aged : Tables → ℕ → Tables
aged T s = set_serial T s (older (serial T s))

-- the tables that open writes
abbrev pub fresh_tables : ℕ → ℕ → ℕ → Tables
fresh_tables B P S = record { slips = replicate S vacant; serials = replicate S 0; pieces = replicate P blank; counts = replicate B 0; stock = B ∷ [] }
