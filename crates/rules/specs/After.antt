-- What every slip reads once an operation is done, which slips are then vacant, and their serials.
use Rattle.std.specs.Prelude.{◌≡◌, Bool, false, List, [], ◌∷◌, ℕ, take, drop, eqb}
use Rattle.kinds.specs.Serial.{older}
use Rattle.rules.specs.Basics.{whether◌then◌else◌, Among}
use Rattle.rules.specs.Tables.{serial}
use Rattle.rules.specs.Chain.{State, reads}
use Rattle.rules.specs.Room.{is_vacant}
use Rattle.rules.specs.Rule.{View, Change, slips_of}
use Rattle.rules.specs.Step.{Operation, meaning, rule}

-- f, but x at s
abbrev pub at : {A : Type 0} → ℕ → A → (ℕ → A) → ℕ → A
at s x f t = whether eqb t s then x else f t

-- f, but for each change's slip what g gives of it; of two changes of one slip the first counts
abbrev pub changed : {A : Type 0} → (Change → A) → List Change → (ℕ → A) → ℕ → A
changed g [] f = f
changed g (c ∷ cs) f = at c.slip (g c) (changed g cs f)

-- the bytes that slip t reads after an operation on S: an operation changes what its own slips
-- read, and every other slip reads as before
unfoldable pub reads_after : Operation → State → ℕ → List ℕ
reads_after o S = changed (λ (c : Change). c.bytes) ((meaning o).changes S) (reads S)

-- whether slip t is vacant after it
unfoldable pub vacant_after : Operation → State → ℕ → Bool
vacant_after o S = changed (λ (c : Change). c.vacated) ((meaning o).changes S) (is_vacant S.tables)

-- whether it vacates slip t, and the serial of slip t after it: 1 more for a slip that it vacates, and that of every other slip as before
unfoldable pub vacates : Operation → State → ℕ → Bool
vacates o S = changed (λ (c : Change). c.vacated) ((meaning o).changes S) (λ t. false)

unfoldable pub serial_after : Operation → State → ℕ → ℕ
serial_after o S t = let k = serial S.tables t in whether vacates o S t then older k else k

-- The claim about an operation that is done, proved in proofs/Calls.antt.
pub record ReadsOk (o : Operation) (S : State) : Type 0 where
  pub bytes : (t : ℕ) → reads (rule o S).after t ≡ reads_after o S t
  pub vacancy : (t : ℕ) → is_vacant (rule o S).after.tables t ≡ vacant_after o S t

-- the slips that a call names
abbrev pub Names : Operation → ℕ → Type 0
Names o t = Among (slips_of (meaning o).names) t

-- the n bytes that a view shows
abbrev pub seen : View → ℕ → List ℕ → List ℕ → List ℕ
seen v n storage scratch = take n (drop v.start (whether eqb v.in_scratch 0 then storage else scratch))
