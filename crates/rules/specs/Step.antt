-- Any call on any bytes, and a list of calls.
use Rattle.std.specs.Prelude.{List, [], ◌∷◌, ℕ, eqb}
use Rattle.kinds.specs.declared.Refusal.TheVariants.{Counts, Torn}
use Rattle.kinds.specs.Refusal.{refusal_code}
use Rattle.rules.specs.Basics.{whether◌then◌else◌}
use Rattle.rules.specs.Tables.{fresh_tables}
use Rattle.rules.specs.Bytes.{decode, encode}
use Rattle.rules.specs.Chain.{State, state_of}
use Rattle.rules.specs.Sound.{Lent, sound, lent}
use Rattle.rules.specs.Rule.{Rule, View, no_view, code_in, Name, Meaning}
use Rattle.rules.specs.Open.{openable}
use Rattle.rules.specs.Audit.{audit_call}
use Rattle.rules.specs.Put.{put_call}
use Rattle.rules.specs.Free.{free_call}
use Rattle.rules.specs.Dup.{dup_call}
use Rattle.rules.specs.Cut.{cut_call}
use Rattle.rules.specs.Append.{append_call}
use Rattle.rules.specs.Drop.{drop_call}
use Rattle.rules.specs.Keep.{keep_call}
use Rattle.rules.specs.Pullup.{pullup_call}
use Rattle.rules.specs.Pack.{pack_call}
use Rattle.rules.specs.Length.{length_call}
use Rattle.rules.specs.Read.{read_call}
use Rattle.rules.specs.Show.{show_call}
use Rattle.rules.specs.List.{list_call}

-- The calls that ask a sound pool, with what they are lent besides pool and storage.
pub data Operation : Type 0 where
  Audit : Operation
  Put : List ℕ → Operation
  Free : Name → Operation
  Dup : Name → Operation
  Cut : Name → ℕ → ℕ → Operation
  Append : Name → Name → Operation
  Drop : Name → ℕ → Operation
  Keep : Name → ℕ → Operation
  Pullup : Name → ℕ → Operation
  Pack : Name → Operation
  Length : Name → Operation
  Read : Name → ℕ → ℕ → List ℕ → Operation
  Show : Name → ℕ → List ℕ → Operation
  WireList : Name → List ℕ → Operation

-- A call opens the pool anew with counts B, P and S, or does an operation.
pub data Call : Type 0 where
  Open : ℕ → ℕ → ℕ → Call
  Do : Operation → Call

-- each operation's meaning
abbrev pub meaning : Operation → Meaning
meaning Audit = audit_call
meaning (Put input) = put_call input
meaning (Free s) = free_call s
meaning (Dup s) = dup_call s
meaning (Cut s off n) = cut_call s off n
meaning (Append a b) = append_call a b
meaning (Drop s n) = drop_call s n
meaning (Keep s n) = keep_call s n
meaning (Pullup s n) = pullup_call s n
meaning (Pack s) = pack_call s
meaning (Length s) = length_call s
meaning (Read s off n out) = read_call s off n out
meaning (Show s n scratch) = show_call s n scratch
meaning (WireList s list) = list_call s list

-- its rule, and the output, scratch or list that it is lent
unfoldable pub rule : Operation → State → Rule
rule o S = (meaning o).rule S

abbrev pub lent_out : Operation → List ℕ
lent_out o = (meaning o).lent

-- what a call is lent besides pool and storage
abbrev pub lent_to : Call → List ℕ
lent_to (Open B P S) = []
lent_to (Do o) = lent_out o

-- What a call answers, and every byte after it.
pub record Result : Type 0 where
  pub code : ℕ
  pub number : ℕ
  pub pool : List ℕ
  pub storage : List ℕ
  pub output : List ℕ
  pub view : View

-- a no: the code, the number 0, and nothing altered
abbrev pub refused : ℕ → Lent → List ℕ → Result
refused c m out = record { code = c; number = 0; pool = m.pool; storage = m.storage; output = out; view = no_view }

-- what a sound pool holds
abbrev pub state_in : Lent → State
state_in m = state_of (decode m.pool) m.storage

-- the rule carried out on bytes
unfoldable pub done : Rule → Result
done r = record { code = 0; number = r.number; pool = encode r.after.tables; storage = r.after.storage; output = r.output; view = r.view }

-- the operation where the pool is sound: it judges codes 3 to 10 and acts
unfoldable pub perform : Operation → Lent → Result
perform o m =
    let r = rule o (state_in m) in
    let c = code_in r (decode m.pool) in
    whether eqb c 0 then done r else refused c m (lent_out o)

-- one call
unfoldable pub step : Call → Lent → Result
step (Open B P S) m =
    whether openable B P S m
    then record { code = 0; number = 0; pool = encode (fresh_tables B P S); storage = m.storage; output = []; view = no_view }
    else refused (refusal_code Counts) m []
step (Do o) m = whether sound m then perform o m else refused (refusal_code Torn) m (lent_out o)

-- pool and storage after a call, and after a list of calls
abbrev pub left_by : Result → Lent
left_by r = lent r.pool r.storage

abbrev pub next : Call → Lent → Lent
next c m = left_by (step c m)

abbrev pub after_calls : List Call → Lent → Lent
after_calls [] m = m
after_calls (c ∷ cs) m = after_calls cs (next c m)
