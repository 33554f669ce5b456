-- What a call's rule says of it, where the pool is sound.
use Rattle.std.specs.Prelude.{Bool, true, false, not, ◌&&◌, List, [], ◌∷◌, ◌++◌, ℕ, ◌+◌, length, ltb, eqb}
use Rattle.kinds.specs.declared.Refusal.{Refusal}
use Rattle.kinds.specs.declared.Refusal.TheVariants.{Slips, Pieces, Buffers}
use Rattle.kinds.specs.Refusal.{refusal_code}
use Rattle.kinds.specs.Serial.{slip_in, serial_in}
use Rattle.rules.specs.Basics.{whether◌then◌else◌}
use Rattle.rules.specs.Tables.{Tables, serial, slip_total}
use Rattle.rules.specs.Chain.{State}
use Rattle.rules.specs.Room.{is_vacant, ready_slips, free_pieces, free_buffers}

-- A refusal, and whether its cause is there.
pub record Judged : Type 0 where
  pub refusal : Refusal
  pub applies : Bool

abbrev pub ◌⇐◌ : Refusal → Bool → Judged
r ⇐ b = record { refusal = r; applies = b }

infixl 40 ◌⇐◌
-- the code of the first refusal whose cause is there, or 0
unfoldable pub first_code : List Judged → ℕ
first_code [] = 0
first_code (j ∷ js) = whether j.applies then refusal_code j.refusal else first_code js

-- What a caller gives for a slip: its number and its serial (a handle and its generation).
pub record Name : Type 0 where
  pub slip : ℕ
  pub serial : ℕ

abbrev pub name : ℕ → ℕ → Name
name s k = record { slip = s; serial = k }

-- the name that a number answers, which is the slip's number + 65,536 times its serial
abbrev pub answered : ℕ → Name
answered n = name (slip_in n) (serial_in n)

-- the slips of names
abbrev pub slips_of : List Name → List ℕ
slips_of [] = []
slips_of (x ∷ xs) = x.slip ∷ slips_of xs

-- the slip of x is S or more, or vacant, or its serial is another
abbrev pub unnamed : Tables → Name → Bool
unnamed T x = not (ltb x.slip (slip_total T) && (not (is_vacant T x.slip) && eqb (serial T x.slip) x.serial))

-- How many new slips, pieces and buffers a call wants, and the pieces that it gives back first.
pub record Wants : Type 0 where
  pub slips : ℕ
  pub pieces : ℕ
  pub back : List ℕ
  pub buffers : ℕ

-- new slips, pieces and buffers, where nothing is given back first
abbrev pub want : ℕ → ℕ → ℕ → Wants
want s p b = record { slips = s; pieces = p; back = []; buffers = b }

-- new pieces and buffers, where the pieces ds are given back first
abbrev pub giving : List ℕ → ℕ → ℕ → Wants
giving ds p b = record { slips = 0; pieces = p; back = ds; buffers = b }

-- How many slips may be given, and how many pieces and buffers are free.
pub record Spare : Type 0 where
  pub slips : ℕ
  pub pieces : ℕ
  pub buffers : ℕ

abbrev pub spare : ℕ → ℕ → ℕ → Spare
spare s p b = record { slips = s; pieces = p; buffers = b }

-- What a call asks, in the words of document 01's table of codes: how many bytes at once (pullup and show); up to which byte
-- of the chain of the slip that it names first; how many numbers are copied to what it is lent; and how many new slips, pieces and buffers, with the pieces given back first.
pub record Asks : Type 0 where
  pub at_once : ℕ
  pub up_to : ℕ
  pub copies : ℕ
  pub new : Wants

abbrev pub asking : ℕ → ℕ → ℕ → Wants → Asks
asking k n c w = record { at_once = k; up_to = n; copies = c; new = w }

-- nothing but its slips, and nothing but new ones
abbrev pub asks_nothing : State → Asks
asks_nothing S = asking 0 0 0 (want 0 0 0)

abbrev pub asks_new : Wants → Asks
asks_new w = asking 0 0 0 w

-- the room at entry
abbrev pub room : Tables → Spare
room T = spare (length (ready_slips T)) (length (free_pieces T)) (length (free_buffers T))

-- Where show's view starts: in the scratch (1) or in storage (0), and at which byte.
pub record View : Type 0 where
  pub in_scratch : ℕ
  pub start : ℕ

abbrev pub no_view : View
no_view = record { in_scratch = 0; start = 0 }

-- The rule of one call: the refusals judged before room, in order; what it wants; and, once it
-- is done, the tables and storage, the number, the lent output or scratch, and the view.
pub record Rule : Type 0 where
  pub judged : List Judged
  pub wants : Wants
  pub after : State
  pub number : ℕ
  pub output : List ℕ
  pub view : View

-- "full": more is wanted than there is; for pieces, what is given back first is there too
abbrev pub full : Wants → Spare → List Judged
full w r =
    (Slips ⇐ ltb r.slips w.slips)
    ∷ (Pieces ⇐ ltb (length w.back + r.pieces) w.pieces)
    ∷ (Buffers ⇐ ltb r.buffers w.buffers) ∷ []

-- the rule of a call that is lent no output
abbrev pub alters : List Judged → Wants → ℕ → State → Rule
alters js w n S = record { judged = js; wants = w; after = S; number = n; output = []; view = no_view }

-- the rule of a call that alters nothing either
abbrev pub answers : List Judged → ℕ → State → Rule
answers js n S = alters js (want 0 0 0) n S

-- the code of a call where the pool is sound
abbrev pub code_in : Rule → Tables → ℕ
code_in r T = first_code (r.judged ++ full r.wants (room T))

-- ---- all that is said of a call, in one record

-- What a slip is left with: the bytes that it reads, and whether it is vacant.
pub record Change : Type 0 where
  pub slip : ℕ
  pub bytes : List ℕ
  pub vacated : Bool

-- slip s is held and reads xs; slip s is vacant
abbrev pub reading : ℕ → List ℕ → Change
reading s xs = record { slip = s; bytes = xs; vacated = false }

abbrev pub vacating : ℕ → Change
vacating s = record { slip = s; bytes = []; vacated = true }

-- The meaning of a call: its rule; the output, scratch or list that it is lent; the names that it
-- gives; what changes for callers, the slip that gets what is new first; and what it asks.
pub record Meaning : Type 0 where
  pub rule : State → Rule
  pub lent : List ℕ
  pub names : List Name
  pub changes : State → List Change
  pub asks : State → Asks

-- a call that names slips, is lent no output, and changes slips
abbrev pub means : List Name → (State → Rule) → (State → List Change) → (State → Asks) → Meaning
means ns r cs a = record { rule = r; lent = []; names = ns; changes = cs; asks = a }

-- a call that names slips, is lent an output, and changes none
abbrev pub looks : List Name → List ℕ → (State → Rule) → (State → Asks) → Meaning
looks ns out r a = record { rule = r; lent = out; names = ns; changes = λ S. []; asks = a }
