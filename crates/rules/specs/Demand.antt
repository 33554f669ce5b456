-- Demand 3: one claim about any list of calls on one pool.
use Rattle.std.specs.Prelude.{◌≡◌, ◌≢◌, ◌↔◌, not, List, [], ◌∷◌, ℕ, ◌+◌, ◌≤◌, ◌<◌, length}
use Rattle.kinds.specs.declared.Refusal.{Refusal}
use Rattle.kinds.specs.declared.Refusal.TheVariants.{Counts, Torn, Slips, Pieces, Buffers}
use Rattle.kinds.specs.Refusal.{refusal_code}
use Rattle.rules.specs.Bytes.{decode}
use Rattle.rules.specs.Chain.{with_tables}
use Rattle.rules.specs.Sound.{Lent, lent, sound}
use Rattle.rules.specs.Rule.{Wants, want, Spare, ◌⇐◌, first_code}
use Rattle.rules.specs.Open.{openable}
use Rattle.rules.specs.Step.{Call, Open, Do, rule, step, state_in, next, after_calls}
use Rattle.rules.specs.Recount.{Recount, Blind, counted_by, recounted, leaves}
use Rattle.rules.specs.Back.{GivesFirst}
use Rattle.rules.specs.Causes.{CauseOf, Given, Exactly}

-- the code judged before room, or 0
unfoldable pub early : Call → Lent → ℕ
early (Open B P S) m = first_code ((Counts ⇐ not (openable B P S m)) ∷ [])
early (Do o) m = first_code ((Torn ⇐ not (sound m)) ∷ (rule o (state_in m)).judged)

-- what a call wants by its rule, where every count goes by the references found
unfoldable pub wanted : Call → Lent → Wants
wanted (Open B P S) m = want 0 0 0
wanted (Do o) m = (rule o (with_tables (state_in m) (recounted (decode m.pool)))).wants

-- what a call gives back first: open nothing, an operation what is said of it, where no code is judged before room
abbrev pub GivesFirstOf : Call → Lent → Type 0
GivesFirstOf (Open B P S) m = (wanted (Open B P S) m).back ≡ []
GivesFirstOf (Do o) m = early (Do o) m ≡ 0 → GivesFirst o (decode m.pool) (wanted (Do o) m)

-- what the recount just before a call leaves
abbrev pub left : Lent → Spare
left m = leaves (decode m.pool)

-- It is the lowest of 1 to 7 whose cause is there.
pub record EarlyOk (c : Call) (m : Lent) : Type 0 where
  pub given : (r : Refusal) → (early c m ≡ refusal_code r) ↔ ((refusal_code r < refusal_code Slips) × Given r c m)
  pub none : (early c m ≡ 0) ↔ ((r : Refusal) → refusal_code r < refusal_code Slips → CauseOf r c m → ⊥)

-- The code is not 2; and it is 8, 9 or 10 exactly when no code judged before that one applies
-- and more is wanted than the recount leaves; for pieces, than it leaves and the call gives back first.
pub record CallOk (c : Call) (m : Lent) : Type 0 where
  pub not_torn : (step c m).code ≢ refusal_code Torn
  pub slips_full : ((step c m).code ≡ refusal_code Slips) ↔ ((early c m ≡ 0) × ((left m).slips < (wanted c m).slips))
  pub pieces_full : ((step c m).code ≡ refusal_code Pieces)
      ↔ ((early c m ≡ 0) × ((wanted c m).slips ≤ (left m).slips) × (length (wanted c m).back + (left m).pieces < (wanted c m).pieces))
  pub buffers_full : ((step c m).code ≡ refusal_code Buffers)
      ↔ ((early c m ≡ 0) × ((wanted c m).slips ≤ (left m).slips)
      × ((wanted c m).pieces ≤ length (wanted c m).back + (left m).pieces) × ((left m).buffers < (wanted c m).buffers))
  -- each code is given exactly when document 01's table says so, and so is each judged before room
  pub exactly : Exactly c m
  pub early_ok : EarlyOk c m
  -- what counts as given back first is what its release would free, of drop and pullup alone
  pub gives_first : GivesFirstOf c m
  -- of any pool that differs in stored counts alone, the same is wanted and the same is left
  pub blind : (q : List ℕ) (f g : ℕ → ℕ) → decode q ≡ counted_by (decode m.pool) f g
      → (wanted c (lent q m.storage) ≡ wanted c m) × (left (lent q m.storage) ≡ left m)

-- each call of a list, on the pool as the calls before it leave it
abbrev pub Each : List Call → Lent → Type 0
Each [] m = Unit {0}
Each (c ∷ cs) m = CallOk c m × Each cs (next c m)

-- The claim about a list of calls that begins on m.
pub record Demand3 (cs : List Call) (m : Lent) : Type 0 where
  pub each : Each cs m
  pub recount : Recount (decode (after_calls cs m).pool)
  pub blind : (f g : ℕ → ℕ) → Blind (decode (after_calls cs m).pool) f g

-- The claim itself, proved in proofs/Demand.antt: m is any pool and storage on which an open
-- was done, cs any list of calls.
abbrev pub DemandThree : Type 0
DemandThree = (B P S : ℕ) (m : Lent) (cs : List Call) → (step (Open B P S) m).code ≡ 0 → Demand3 cs (next (Open B P S) m)
