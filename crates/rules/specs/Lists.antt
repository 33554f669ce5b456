-- Lists of calls that hold no done open, and lists that leave a slip alone.
use Rattle.std.specs.Prelude.{◌≡◌, ◌≢◌, List, [], ◌∷◌, ℕ}
use Rattle.rules.specs.Sound.{Lent}
use Rattle.rules.specs.Step.{Call, Open, Do, step, next}
use Rattle.rules.specs.After.{Names}

-- the call is no done open, and no call of a list is
abbrev pub NoOpen : Call → Lent → Type 0
NoOpen c m = (B P S : ℕ) → c ≡ Open B P S → (step c m).code ≢ 0

abbrev pub Unopened : List Call → Lent → Type 0
Unopened [] m = Unit {0}
Unopened (c ∷ cs) m = NoOpen c m × Unopened cs (next c m)

-- the call does not name slip t, and is no open that is done
abbrev pub Spared : ℕ → Call → Lent → Type 0
Spared t (Open B P S) m = (step (Open B P S) m).code ≢ 0
Spared t (Do o) m = Names o t → ⊥

-- each call of a list, on the pool as the calls before it leave it
abbrev pub Spares : ℕ → List Call → Lent → Type 0
Spares t [] m = Unit {0}
Spares t (c ∷ cs) m = Spared t c m × Spares t cs (next c m)
