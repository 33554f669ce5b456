-- New pieces for a list of stretches, where they are hung, and new bytes in storage.
use Rattle.std.specs.Prelude.{List, [], ◌∷◌, ℕ, suc, ◌+◌, ◌-◌, ◌/◌, min, drop}
use Rattle.kinds.specs.Limits.{buffer_size}
use Rattle.kinds.specs.Sizes.{size_of}
use Rattle.rules.specs.Basics.{last_of}
use Rattle.rules.specs.Tables.{Piece, Tables, buffer_count, holding, set_slip, set_piece_count}
use Rattle.rules.specs.Chain.{State, Stretch, with_tables}
use Rattle.rules.specs.Storage.{filled}
use Rattle.rules.specs.Room.{free_pieces}
use Rattle.rules.specs.Release.{turned, relinked}

-- ---- pieces

-- a new piece for a stretch, before the link n
abbrev pub fresh : Stretch → ℕ → Piece
fresh x n = record { count = 1; buffer = x.buffer; offset = x.offset; len = x.len; next = n }

-- the free piece f becomes p, which adds 1 to its buffer's count
abbrev pub taken : Tables → ℕ → Piece → Tables
taken T f p = set_piece_count T f p p.buffer (suc (buffer_count T p.buffer))

-- the link to the first of the new pieces fs for the stretches xs, before the link tail
unfoldable pub built_link : List ℕ → List Stretch → ℕ → ℕ
built_link fs [] tail = tail
built_link [] (x ∷ xs) tail = tail
built_link (f ∷ fs) (x ∷ xs) tail = suc f

-- the tables with the stretches xs as new pieces of the numbers fs, in order, before the link tail
unfoldable pub built : Tables → List ℕ → List Stretch → ℕ → Tables
built T fs [] tail = T
built T [] (x ∷ xs) tail = T
built T (f ∷ fs) (x ∷ xs) tail = taken (built T fs xs tail) f (fresh x (built_link fs xs tail))

-- A chain to be made: new pieces for `more`, before the link `tail`, to which `base` has a
-- reference that no slip or piece holds yet.
pub record Plan : Type 0 where
  pub base : Tables
  pub more : List Stretch
  pub tail : ℕ

-- new pieces before nothing
abbrev pub plain : Tables → List Stretch → Plan
plain T xs = record { base = T; more = xs; tail = 0 }

abbrev pub made : Plan → List ℕ → Tables
made p fs = built p.base fs p.more p.tail

abbrev pub made_link : Plan → List ℕ → ℕ
made_link p fs = built_link fs p.more p.tail

-- the new chain under the vacant slip t
unfoldable pub under_new : Plan → List ℕ → ℕ → Tables
under_new p fs t = set_slip (made p fs) t (holding (made_link p fs))

-- the new chain under the slip s, whose old chain is released
unfoldable pub under_old : State → Plan → List ℕ → ℕ → State
under_old S p fs s = turned (with_tables S (made p fs)) s (holding (made_link p fs))

-- the new chain under the slip s, whose old chain is released first, while what stays is held: the new pieces are the lowest that are then free
unfoldable pub under_freed : State → Plan → ℕ → State
under_freed S p s =
    let E = turned (with_tables S p.base) s (holding 0) in
    with_tables E (under_new (record { base = E.tables; more = p.more; tail = p.tail }) (free_pieces E.tables) s)

-- the link n behind the own pieces of s, and what stood there is released
unfoldable pub behind_own : State → ℕ → List ℕ → ℕ → State
behind_own S s [] n = turned S s (holding n)
behind_own S s (d ∷ ds) n = relinked S (last_of d ds) n

-- ---- bytes

-- n bytes need ceil (n / 512) buffers
abbrev pub buffers_for : ℕ → ℕ
buffers_for n = (n + (buffer_size - 1)) / buffer_size

-- n bytes on the buffers bs: from offset 0, each full but the last
unfoldable pub laid : List ℕ → List ℕ → ℕ → List Stretch
laid Z [] n = []
laid Z (b ∷ bs) n = record { buffer = b; offset = 0; len = min (size_of Z b) n } ∷ laid Z bs (n - size_of Z b)

-- the bytes xs over the buffers bs, in order
unfoldable pub stored : List ℕ → List ℕ → List ℕ → List ℕ → List ℕ
stored Z st [] xs = st
stored Z st (b ∷ bs) xs = stored Z (filled Z st b xs) bs (drop (size_of Z b) xs)
