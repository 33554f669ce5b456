-- A slip's state and the 16-bit number that stands for it in the pool.
use Rattle.std.specs.Prelude.{Bool, true, false, ℕ, zero, suc}
use Rattle.kinds.specs.declared.SlipState.{SlipState}
use Rattle.kinds.specs.declared.SlipState.TheVariants.{Vacant, Empty, Heads}

-- the state that a slip's number stands for: the decoding of a tagged handle entry
abbrev pub state_of : ℕ → SlipState
state_of zero = Vacant
state_of (suc zero) = Empty
state_of (suc (suc d)) = Heads (record { 0 = d })

-- the slip holds a chain, if an empty one
abbrev pub is_held : SlipState → Bool
is_held Vacant = false
is_held Empty = true
is_held (Heads p) = true

-- the number that stands for a slip's state: the encoding of a tagged handle entry
abbrev pub raw_of : SlipState → ℕ
raw_of Vacant = zero
raw_of Empty = suc zero
raw_of (Heads p) = suc (suc p.0)
