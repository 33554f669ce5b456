-- length s: the byte count of the chain.
use Rattle.std.specs.Prelude.{[], ◌∷◌, ℕ}
use Rattle.kinds.specs.declared.Refusal.TheVariants.{Slip}
use Rattle.rules.specs.Chain.{State, length_of}
use Rattle.rules.specs.Rule.{Rule, Name, ◌⇐◌, unnamed, answers, Meaning, looks, asks_nothing}

abbrev pub chain_length : Name → State → Rule
chain_length s S = answers ((Slip ⇐ unnamed S.tables s) ∷ []) (length_of S.tables s.slip) S

-- it changes nothing, and is lent nothing
abbrev pub length_call : Name → Meaning
length_call s = looks (s ∷ []) [] (chain_length s) asks_nothing
