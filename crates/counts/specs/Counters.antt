-- The audit's counters: references to each piece and pieces on each buffer, as counted so far.
use Rattle.std.specs.Prelude.{◌≡◌, Bool, true, ◌&&◌, List, ℕ, zero, suc, ◌+◌, ◌≤◌, ◌<◌, length, get_or, set, replicate, eqb}
use Rattle.kinds.specs.Limits.{most_pieces, most_buffers, most_slips}
use Rattle.rules.specs.Basics.{whether◌then◌else◌, bit, sum_to}
use Rattle.rules.specs.Tables.{Piece, Tables, piece, head_of, piece_total, buffer_total}
use Rattle.rules.specs.Sound.{in_use, leads, heads, nexts, lying}
use Rattle.layout.specs.declared.Shape.{Shape}
use Rattle.tables.specs.Shape.{Shaped}
use Rattle.counts.specs.Ranges.{slips_in_range, pieces_in_range, references_ok}

-- the pool p has the shape h, within the limits
pub record Limited (p : List ℕ) (h : Shape) : Type 0 where
  pub shaped : Shaped p h
  pub few_buffers_lem : h.buffers ≤ most_buffers
  pub few_pieces_lem : h.pieces ≤ most_pieces
  pub few_slips : h.slips ≤ most_slips

-- ---- counters

-- n counters that have counted nothing
abbrev pub zeros : ℕ → List ℕ
zeros n = replicate n 0

-- the counters c with one more where a link leads
abbrev pub tallied : List ℕ → ℕ → List ℕ
tallied c zero = c
tallied c (suc d) = set c d (get_or c d 0 + 1)

-- a link to the buffer that a piece in use lies on
abbrev pub lie_of : Piece → ℕ
lie_of p = whether eqb p.count 0 then 0 else suc p.buffer

-- each counter can take one more
abbrev pub Countable : List ℕ → Type 0
Countable c = (d : ℕ) → get_or c d 0 < 65535

-- the counters c, of which there are n or more, hold f
pub record Hold (n : ℕ) (c : List ℕ) (f : ℕ → ℕ) : Type 0 where
  pub long : n ≤ length c
  pub each : (d : ℕ) → d < length c → get_or c d 0 ≡ f d

-- counters for n that have counted nothing
abbrev pub Cleared : ℕ → List ℕ → Type 0
Cleared n c = Hold n c (λ _. 0)

-- ---- what is counted

-- what refers to piece d: slips that head it and pieces whose next it is
abbrev pub references : Tables → ℕ → ℕ
references T d = heads T d + nexts T d

-- of the first n slips, those that head piece d
unfoldable pub heads_to : Tables → ℕ → ℕ → ℕ
heads_to T n d = sum_to n (λ s. bit (leads (head_of T s) d))

-- of the first n pieces, those in use whose next is piece d
unfoldable pub nexts_to : Tables → ℕ → ℕ → ℕ
nexts_to T n d = sum_to n (λ c. bit (in_use (piece T c) && leads (piece T c).next d))

-- of the first n pieces, those in use lying on buffer b
unfoldable pub lying_to : Tables → ℕ → ℕ → ℕ
lying_to T n b = sum_to n (λ c. bit (in_use (piece T c) && eqb (piece T c).buffer b))

-- what the pass over the slips answers and counts
pub record SlipsCounted (T : Tables) (r : Bool) (refs : List ℕ) : Type 0 where
  pub exact : r ≡ slips_in_range T
  pub held : r ≡ true → Hold (piece_total T) refs (heads T)

-- what the pass over the pieces answers and counts
pub record PiecesCounted (T : Tables) (r : Bool) (refs lies : List ℕ) : Type 0 where
  pub exact : r ≡ pieces_in_range T
  pub references : r ≡ true → Hold (piece_total T) refs (references T)
  pub laid : r ≡ true → Hold (buffer_total T) lies (lying T)

-- what the test of the references answers, and what the counters of the pieces then hold
pub record ReferencesCounted (T : Tables) (r : Bool) (refs : List ℕ) : Type 0 where
  pub exact : r ≡ references_ok T
  pub held : r ≡ true → Hold (piece_total T) refs (references T)
