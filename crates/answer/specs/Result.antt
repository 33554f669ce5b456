-- What an operation answers and leaves, as the rules write it.
use Rattle.std.specs.Prelude.{◌≡◌, List, ℕ, Ok, Err}
use Rattle.kinds.specs.declared.SlipState.{SlipState}
use Rattle.kinds.specs.Outcome.{Outcome, code_of, number_of}
use Rattle.rules.specs.Rule.{View}
use Rattle.rules.specs.Step.{Result}

-- an outcome, with every byte after it
abbrev pub result_of : Outcome → List ℕ → List ℕ → List ℕ → View → Result
result_of o pool storage output view = record { code = code_of o; number = number_of o; pool = pool; storage = storage; output = output; view = view }

-- a done outcome carries the slip's state
abbrev pub Leaves : Outcome → SlipState → Type 0
Leaves (Ok t) state = t.state ≡ state
Leaves (Err r) state = Unit {0}
