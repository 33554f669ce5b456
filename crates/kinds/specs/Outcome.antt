-- The two numbers that a caller is answered.
use Rattle.std.specs.Prelude.{ℕ, Result, Ok, Err}
use Rattle.kinds.specs.declared.Step.{Step}
use Rattle.kinds.specs.declared.Refusal.{Refusal}
use Rattle.kinds.specs.declared.Answer.{Answer}
use Rattle.kinds.specs.Refusal.{refusal_code}

-- what a step comes to: done or refused
abbrev pub Outcome : Type 0
Outcome = Result Step Refusal

-- the code of an outcome, 0 for a step that is done: a status code
abbrev pub code_of : Outcome → ℕ
code_of (Ok s) = 0
code_of (Err r) = refusal_code r

-- the number of an outcome, 0 for a refusal: a return value
abbrev pub number_of : Outcome → ℕ
number_of (Ok s) = s.number
number_of (Err r) = 0

-- the answer of an outcome: its status code and its return value
abbrev pub answer_of : Outcome → Answer
answer_of o = record { code = code_of o; number = number_of o }

-- the answer of a call with no step, done or refused: its status code, and no return value
abbrev pub answer_of_unit : Result (Unit {0}) Refusal → Answer
answer_of_unit (Ok u) = record { code = 0; number = 0 }
answer_of_unit (Err r) = record { code = refusal_code r; number = 0 }
