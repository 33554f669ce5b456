-- Room for pieces, where own pieces are given back first.
use Rattle.std.specs.Prelude.{◌≡◌, Bool, true, false, List, [], ◌∷◌, Result, MatchResult, ℕ, ◌+◌, ◌<◌, length, leb}
use Rattle.rules.specs.Basics.{Is}
use Rattle.rules.specs.Tables.{Tables, piece_total}
use Rattle.rules.specs.Chain.{own_pieces}
use Rattle.rules.specs.Room.{is_free_with, free_pieces}
use Rattle.front.specs.declared.FrontRoom.{FrontRoom}

-- `enough` says whether `wanted` pieces are there with the pieces ds, and below `from`, and between it and `beyond`, none is one of ds or free
pub record RoomWith (T : Tables) (ds : List ℕ) (wanted from beyond : ℕ) (enough : Bool) : Type 0 where
  pub there : enough ≡ leb wanted (length ds + length (free_pieces T))
  pub none_below : (d : ℕ) → d < from → Is (is_free_with T ds d) → ⊥
  pub none_between : (d : ℕ) → from < d → d < beyond → Is (is_free_with T ds d) → ⊥

-- of the own pieces from the link n on
abbrev pub RoomInFront : Tables → ℕ → ℕ → ℕ → ℕ → Bool → Type 0
RoomInFront T n wanted from beyond enough = RoomWith T (own_pieces (piece_total T) T n) wanted from beyond enough

-- of piece d, where two are wanted
abbrev pub RoomBeside : Tables → ℕ → ℕ → ℕ → Bool → Type 0
RoomBeside T d from beyond enough = RoomWith T (d ∷ []) 2 from beyond enough

-- r says from where and beyond what there is room R: Ok where it is enough, and Err where it is not
abbrev pub RoomThere : (ℕ → ℕ → Bool → Type 0) → Result FrontRoom FrontRoom → Type 0
RoomThere R r = MatchResult r (λ x. R x.from.0 x.beyond.0 true) (λ x. R x.from.0 x.beyond.0 false)
