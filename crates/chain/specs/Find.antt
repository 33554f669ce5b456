-- Where in a chain a byte lies, and whether its piece is own.
use Rattle.std.specs.Prelude.{Bool, ◌&&◌, ℕ, zero, suc, ◌-◌, eqb, leb, ltb, Result, Ok, Err}
use Rattle.kinds.specs.declared.Refusal.{Refusal}
use Rattle.kinds.specs.declared.Refusal.TheVariants.{Range}
use Rattle.rules.specs.Basics.{whether◌then◌else◌}
use Rattle.rules.specs.Tables.{Tables, piece}
use Rattle.rules.specs.Chain.{own_at}
use Rattle.chain.specs.declared.Spot.{Spot}

-- The place off bytes after the link n, over at most k pieces; own: all pieces before n are own.
-- Past the last piece its link is 0.
unfoldable pub spot_of : ℕ → Tables → Bool → ℕ → ℕ → Spot
spot_of zero T own n off = record { link = 0; into = off; own = own }
spot_of (suc k) T own zero off = record { link = 0; into = off; own = own }
spot_of (suc k) T own (suc d) off =
    whether leb (piece T d).len off
    then spot_of k T (own_at T own d) (piece T d).next (off - (piece T d).len)
    else record { link = suc d; into = off; own = own_at T own d }

-- the place lies past the end: no piece has it, and bytes are left
abbrev pub past_end : Spot → Bool
past_end s = eqb s.link 0 && ltb 0 s.into

-- a place that is found, or the refusal of one past the end
abbrev pub found : Spot → Result Spot Refusal
found s = whether past_end s then Err Range else Ok s
