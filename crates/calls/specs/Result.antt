-- What a call answers to C and leaves, as the rules write it.
use Rattle.std.specs.Prelude.{List, ℕ}
use Rattle.kinds.specs.declared.Answer.{Answer}
use Rattle.rules.specs.Rule.{View}
use Rattle.rules.specs.Step.{Result}

-- an answer, with every byte after the call
abbrev pub result_of : Answer → List ℕ → List ℕ → List ℕ → View → Result
result_of r pool storage output view = record { code = r.code; number = r.number; pool = pool; storage = storage; output = output; view = view }
