-- Which slips, pieces and buffers an operation takes, in chain order: the lowest free at entry; of pieces, the lowest free at entry or given back first.
use Rattle.std.specs.Prelude.{◌≡◌, not, ◌&&◌, List, [], ◌∷◌, map, ℕ, ◌+◌, ◌≤◌, length, take}
use Rattle.rules.specs.Basics.{places, passing}
use Rattle.rules.specs.Tables.{Tables, slip_total, piece_total, buffer_total}
use Rattle.rules.specs.Chain.{State, Stretch, chain, spans}
use Rattle.rules.specs.Room.{is_vacant, is_free, is_free_with, is_unheld, ready_slips, free_with, free_buffers}
use Rattle.rules.specs.Rule.{Wants, room, Change, Name, slips_of}
use Rattle.rules.specs.Step.{Operation, meaning, rule}

-- the slip whose chain gets what is new: that of the first change, or else the first named
abbrev pub first_slip : List Change → List ℕ → ℕ
first_slip (c ∷ cs) ns = c.slip
first_slip [] (s ∷ ns) = s
first_slip [] [] = 0

abbrev pub target : Operation → State → ℕ
target o S = first_slip ((meaning o).changes S) (slips_of (meaning o).names)

-- those free in T and no longer in T'; of pieces, those free or given back first
abbrev pub took_slips : Tables → Tables → List ℕ
took_slips T T' = places (λ s. is_vacant T s && not (is_vacant T' s)) 0 (slip_total T)

abbrev pub took_pieces : Tables → Tables → List ℕ → List ℕ
took_pieces T T' back = places (λ d. is_free_with T back d && not (is_free T' d)) 0 (piece_total T)

abbrev pub took_buffers : Tables → Tables → List ℕ
took_buffers T T' = places (λ b. is_unheld T b && not (is_unheld T' b)) 0 (buffer_total T)

-- the claim about an operation from T to T' that wants w and leaves its new pieces under slip t
pub record Took (T T' : Tables) (w : Wants) (t : ℕ) : Type 0 where
  pub slips : took_slips T T' ≡ take w.slips (ready_slips T)
  pub pieces : took_pieces T T' w.back ≡ take w.pieces (free_with T w.back)
  pub buffers : took_buffers T T' ≡ take w.buffers (free_buffers T)
  -- there is room for what is wanted
  pub slips_room : w.slips ≤ (room T).slips
  pub pieces_room : w.pieces ≤ length w.back + (room T).pieces
  pub buffers_room : w.buffers ≤ (room T).buffers
  -- in chain order
  pub pieces_order : passing (is_free_with T w.back) (chain T' t) ≡ take w.pieces (free_with T w.back)
  pub buffers_order : passing (is_unheld T) (map (λ (x : Stretch). x.buffer) (spans T' t)) ≡ take w.buffers (free_buffers T)

-- The claim about an operation that is done, proved in proofs/Calls.antt.
abbrev pub TakesOk : Operation → State → Type 0
TakesOk o S = Took S.tables (rule o S).after.tables (rule o S).wants (target o S)
