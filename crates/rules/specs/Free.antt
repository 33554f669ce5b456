-- free s: releases the head; s is vacant, and its serial goes up.
use Rattle.std.specs.Prelude.{[], ◌∷◌, ℕ}
use Rattle.kinds.specs.declared.Refusal.TheVariants.{Slip}
use Rattle.rules.specs.Tables.{vacant}
use Rattle.rules.specs.Chain.{State, aging}
use Rattle.rules.specs.Release.{turned}
use Rattle.rules.specs.Rule.{Rule, Name, ◌⇐◌, unnamed, want, alters, Meaning, means, vacating, asks_nothing}

abbrev pub free_after : ℕ → State → State
free_after s S = aging s (turned S s vacant)

abbrev pub free : Name → State → Rule
free s S = alters ((Slip ⇐ unnamed S.tables s) ∷ []) (want 0 0 0) 0 (free_after s.slip S)

-- s is vacant
abbrev pub free_call : Name → Meaning
free_call s = means (s ∷ []) (free s) (λ S. vacating s.slip ∷ []) asks_nothing
