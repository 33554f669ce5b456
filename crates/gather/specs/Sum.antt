-- What a list asks of a storage and an output of given lengths, and an answer with the output after it.
use Rattle.std.specs.Prelude.{List, ℕ, ltb, Result, Ok, Err}
use Rattle.kinds.specs.declared.Refusal.{Refusal}
use Rattle.kinds.specs.declared.Refusal.TheVariants.{Narrow, WireList}
use Rattle.rules.specs.Basics.{whether◌then◌else◌}
use Rattle.rules.specs.Gather.{lengths_of, any_amiss}
use Rattle.rules.specs.Gather as rule
use Rattle.gather.specs.declared.Gathered.{Gathered}

-- the refusals in order, or the lengths' sum
unfoldable pub summed : List ℕ → ℕ → ℕ → Result ℕ Refusal
summed list size room =
    whether ltb room (lengths_of list) then Err Narrow
    else whether any_amiss size list then Err WireList
    else Ok (lengths_of list)

-- an answer, with every byte of the output after it
abbrev pub gathered_of : Gathered → List ℕ → rule.Gathered
gathered_of r output = record { code = r.code; number = r.number; output = output }
