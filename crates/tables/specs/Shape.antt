-- A pool's shape: its three counts, read once from the header and handed on by value.
use Rattle.std.specs.Prelude.{◌≡◌, List, [], ◌∷◌, ℕ, length}
use Rattle.rules.specs.Basics.{Is}
use Rattle.rules.specs.Layout.{pool_length, storage_length}
use Rattle.rules.specs.Tables.{Piece, Tables}
use Rattle.rules.specs.Bytes.{buffers_in, pieces_in, slips_in, decode}
use Rattle.rules.specs.Sound.{marked}
use Rattle.layout.specs.declared.Shape.{Shape}

-- mark, version and length are those of a pool
pub record Fits (p : List ℕ) : Type 0 where
  pub is_marked : Is (marked p)
  pub long : length p ≡ pool_length (buffers_in p) (pieces_in p) (slips_in p)

-- the stock of a pool of the shape h: all its buffers have the one size
abbrev pub stock_of : Shape → List ℕ
stock_of h = h.buffers ∷ []

-- the storage st has the bytes of the buffers of a pool of the shape h
abbrev pub Backs : List ℕ → Shape → Type 0
Backs st h = length st ≡ storage_length (stock_of h) h.buffers

-- the pool p has the shape h
pub record Shaped (p : List ℕ) (h : Shape) : Type 0 where
  pub fits : Fits p
  pub buffers : h.buffers ≡ buffers_in p
  pub pieces : h.pieces ≡ pieces_in p
  pub slips : h.slips ≡ slips_in p

-- the pool p has the shape h and holds the tables T
pub record Holds (p : List ℕ) (h : Shape) (T : Tables) : Type 0 where
  pub shaped : Shaped p h
  pub is : decode p ≡ T

-- a pool of the shape h goes from p to q, and its tables become what f makes of them
abbrev pub Becomes : List ℕ → List ℕ → Shape → (Tables → Tables) → Type 0
Becomes p q h f = Holds q h (f (decode p))

-- the piece x with the count n, on buffer b
abbrev pub with_base : Piece → ℕ → ℕ → Piece
with_base x n b = record { count = n; buffer = b; offset = x.offset; len = x.len; next = x.next }
