-- audit: 0 or 2. Where the pool is sound there is nothing to refuse and nothing to do.
use Rattle.std.specs.Prelude.{[]}
use Rattle.rules.specs.Chain.{State}
use Rattle.rules.specs.Rule.{Rule, answers, Meaning, looks, asks_nothing}

abbrev pub audit : State → Rule
audit S = answers [] 0 S

-- it names no slip, and is lent nothing
abbrev pub audit_call : Meaning
audit_call = looks [] [] audit asks_nothing
