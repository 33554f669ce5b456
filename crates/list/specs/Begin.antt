-- What a list begins with before it writes: its step, and where its records start and how many they are, or its refusal.
use Rattle.std.specs.Prelude.{ℕ, length, ltb, Result, Ok, Err}
use Rattle.kinds.specs.SlipState.{state_of}
use Rattle.kinds.specs.declared.Refusal.{Refusal}
use Rattle.kinds.specs.declared.Refusal.TheVariants.{Slip, Narrow}
use Rattle.rules.specs.Basics.{whether◌then◌else◌}
use Rattle.rules.specs.Tables.{Tables, slip, head_of}
use Rattle.rules.specs.Chain.{spans}
use Rattle.rules.specs.Rule.{Name, unnamed}
use Rattle.list.specs.declared.Begun.{Begun}

-- the slip of x with room for so many records
unfoldable pub begun : Tables → Name → ℕ → Result Begun Refusal
begun T x room =
    let s = x.slip in
    let n = length (spans T s) in
    whether unnamed T x then Err Slip
    else whether ltb room n then Err Narrow
    else Ok (record { step = record { state = state_of (slip T s); number = n }; link = head_of T s; pieces = n })
