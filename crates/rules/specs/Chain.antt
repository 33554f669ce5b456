-- Chains: following next, the pieces that a slip's chain has, their stretches, and their bytes.
use Rattle.std.specs.Prelude.{◌&&◌, Bool, List, [], ◌∷◌, ◌++◌, ℕ, zero, suc, ◌+◌, ◌-◌, min, take, drop, eqb, ltb, leb}
use Rattle.kinds.specs.Sizes.{start_of}
use Rattle.rules.specs.Basics.{whether◌then◌else◌, bit}
use Rattle.rules.specs.Tables.{Piece, Tables, piece, head_of, piece_total, aged}

-- the link that k follows of next lead to from the link n
unfoldable pub follow : Tables → ℕ → ℕ → ℕ
follow T zero n = n
follow T (suc k) zero = zero
follow T (suc k) (suc d) = follow T k (piece T d).next

-- the pieces met from the link n, at most k of them
unfoldable pub walk : ℕ → Tables → ℕ → List ℕ
walk zero T n = []
walk (suc k) T zero = []
walk (suc k) T (suc d) = d ∷ walk k T (piece T d).next

-- the pieces of a slip's chain, in order; in a sound pool none has more than P
abbrev pub chain : Tables → ℕ → List ℕ
chain T s = walk (piece_total T) T (head_of T s)

-- Those pieces from the link n that are own: each has count 1, as all before it have; at most k.
unfoldable pub own_pieces : ℕ → Tables → ℕ → List ℕ
own_pieces zero T n = []
own_pieces (suc k) T zero = []
own_pieces (suc k) T (suc d) = whether eqb (piece T d).count 1 then d ∷ own_pieces k T (piece T d).next else []

-- the own pieces of a slip, by the counts of the tables
abbrev pub own_of : Tables → ℕ → List ℕ
own_of T s = own_pieces (piece_total T) T (head_of T s)

-- piece d is own where all before it are and its count is 1
abbrev pub own_at : Tables → Bool → ℕ → Bool
own_at T own d = own && eqb (piece T d).count 1

-- A stretch is what a piece covers: len bytes of a buffer, from offset on.
pub record Stretch : Type 0 where
  pub buffer : ℕ
  pub offset : ℕ
  pub len : ℕ

abbrev pub stretch : Piece → Stretch
stretch p = record { buffer = p.buffer; offset = p.offset; len = p.len }

unfoldable pub stretches : Tables → List ℕ → List Stretch
stretches T [] = []
stretches T (d ∷ ds) = stretch (piece T d) ∷ stretches T ds

-- the stretches of a slip's chain
abbrev pub spans : Tables → ℕ → List Stretch
spans T s = stretches T (chain T s)

-- the length of the first and the length of the rest, or zero
unfoldable pub total : List Stretch → ℕ
total [] = 0
total (x ∷ xs) = x.len + total xs

abbrev pub first_length : List Stretch → ℕ
first_length [] = 0
first_length (x ∷ xs) = x.len

-- a chain's length
abbrev pub length_of : Tables → ℕ → ℕ
length_of T s = total (spans T s)

-- the stretches of the n bytes from off on: one for each stretch that the range overlaps
unfoldable pub cut_out : List Stretch → ℕ → ℕ → List Stretch
cut_out [] off n = []
cut_out (x ∷ xs) off zero = []
cut_out (x ∷ xs) off (suc n) =
    whether leb x.len off
    then cut_out xs (off - x.len) (suc n)
    else (record { buffer = x.buffer; offset = x.offset + off; len = min (suc n) (x.len - off) } ∷ cut_out xs 0 (suc n - (x.len - off)))

-- how many of the stretches overlap the n bytes from off on; the first starts at byte a
unfoldable pub overlaps : List Stretch → ℕ → ℕ → ℕ → ℕ
overlaps [] a off n = 0
overlaps (x ∷ xs) a off n = bit (ltb 0 n && (ltb a (off + n) && ltb off (a + x.len))) + overlaps xs (a + x.len) off n

-- how many of them byte n falls inside, and not at a border (one or none); the first starts at byte a
unfoldable pub splits : List Stretch → ℕ → ℕ → ℕ
splits [] a n = 0
splits (x ∷ xs) a n = bit (ltb a n && ltb n (a + x.len)) + splits xs (a + x.len) n

-- where a stretch starts in storage, and its bytes there
abbrev pub position_of : List ℕ → Stretch → ℕ
position_of Z x = start_of Z x.buffer + x.offset

abbrev pub bytes_of : List ℕ → List ℕ → Stretch → List ℕ
bytes_of Z st x = take x.len (drop (position_of Z x) st)

unfoldable pub contents : List ℕ → List ℕ → List Stretch → List ℕ
contents Z st [] = []
contents Z st (x ∷ xs) = bytes_of Z st x ++ contents Z st xs

-- What a call works on: the tables and the storage.
pub record State : Type 0 where
  pub tables : Tables
  pub storage : List ℕ

abbrev pub state_of : Tables → List ℕ → State
state_of T st = record { tables = T; storage = st }

-- S with other tables, and with other storage
abbrev pub with_tables : State → Tables → State
with_tables S T = state_of T S.storage

abbrev pub with_storage : State → List ℕ → State
with_storage S st = state_of S.tables st

-- the serial of slip s goes up
abbrev pub aging : ℕ → State → State
aging s S = with_tables S (aged S.tables s)

-- the bytes of the chain of slip s: its pieces' bytes in order
abbrev pub reads : State → ℕ → List ℕ
reads S s = contents S.tables.stock S.storage (spans S.tables s)
