-- The table of codes of documents 01 and 02: when each is given.
use Rattle.std.specs.Prelude.{◌≡◌, ◌≢◌, ◌⊎◌, ◌↔◌, List, [], ◌∷◌, ℕ, ◌+◌, ◌≤◌, ◌<◌, length, get_or}
use Rattle.kinds.specs.declared.Refusal.{Refusal}
use Rattle.kinds.specs.declared.Refusal.TheVariants.{Counts, Torn, Slip, Same, Long, Range, Narrow, Slips, Pieces, Buffers, WireList}
use Rattle.kinds.specs.Refusal.{refusal_code}
use Rattle.rules.specs.Basics.{Is, Among}
use Rattle.rules.specs.Tables.{Tables, serial, slip_total}
use Rattle.rules.specs.Chain.{State, reads}
use Rattle.rules.specs.Sound.{Lent, Sound}
use Rattle.rules.specs.Room.{is_vacant}
use Rattle.rules.specs.Rule.{Name, slips_of, Meaning}
use Rattle.rules.specs.Step.{Call, Open, Do, meaning, state_in, step}
use Rattle.rules.specs.Recount.{leaves}
use Rattle.rules.specs.Places.{CountsAt}

-- the slip of x is S or more, or vacant, or its serial is another
abbrev pub Missing : Tables → Name → Type 0
Missing T x = (slip_total T ≤ x.slip) ⊎ (Is (is_vacant T x.slip) ⊎ (serial T x.slip ≢ x.serial))

-- one slip is named twice
abbrev pub Twice : List ℕ → Type 0
Twice [] = ⊥
Twice (s ∷ ss) = Among ss s ⊎ Twice ss

-- the bytes of the slip that is named first
abbrev pub first_reads : Meaning → State → List ℕ
first_reads o S = reads S (get_or (slips_of o.names) 0 0)

-- The table, row by row: the cause of each code for an operation of meaning o on a sound pool. For pieces, what the call gives back first is there too.
abbrev pub Cause : Refusal → Meaning → State → Type 0
Cause Counts o S = ⊥
Cause Torn o S = ⊥
Cause Slip o S = (x : Name) × Among o.names x × Missing S.tables x
Cause Same o S = Twice (slips_of o.names)
Cause Long o S = 512 < (o.asks S).at_once
Cause Range o S = length (first_reads o S) < (o.asks S).up_to
Cause Narrow o S = length o.lent < (o.asks S).copies
Cause Slips o S = (leaves S.tables).slips < (o.asks S).new.slips
Cause Pieces o S = length (o.asks S).new.back + (leaves S.tables).pieces < (o.asks S).new.pieces
Cause Buffers o S = (leaves S.tables).buffers < (o.asks S).new.buffers
Cause WireList o S = ⊥

-- open B, P, S: each count is in its range, and both lent lengths are the ones that it asks
abbrev pub Fitting : ℕ → ℕ → ℕ → Lent → Type 0
Fitting B P S m = CountsAt B P S (length m.pool) (length m.storage)

-- The cause of each code for any call on any bytes: open finds code 1 alone, and any other call finds code 2 where the pool isn't sound.
abbrev pub CauseOf : Refusal → Call → Lent → Type 0
CauseOf r (Open B P S) m = (refusal_code r ≡ 1) × (Fitting B P S m → ⊥)
CauseOf r (Do o) m = ((refusal_code r ≡ 2) × (Sound m → ⊥)) ⊎ Cause r (meaning o) (state_in m)

-- r is given: its cause is there, and that of no lower code
abbrev pub Given : Refusal → Call → Lent → Type 0
Given r c m = CauseOf r c m × ((q : Refusal) → refusal_code q < refusal_code r → CauseOf q c m → ⊥)

-- The claim about any call on any bytes, proved in proofs/Causes.antt: each code is given exactly when.
pub record Exactly (c : Call) (m : Lent) : Type 0 where
  pub given : (r : Refusal) → ((step c m).code ≡ refusal_code r) ↔ Given r c m
  pub done : ((step c m).code ≡ 0) ↔ ((r : Refusal) → CauseOf r c m → ⊥)
