-- What show answers to C and leaves, as the rules write it, and the bytes that it shows.
use Rattle.std.specs.Prelude.{List, [], ℕ, take, eqb, Result}
use Rattle.kinds.specs.declared.Refusal.{Refusal}
use Rattle.kinds.specs.Outcome.{code_of, number_of}
use Rattle.rules.specs.Basics.{whether◌then◌else◌}
use Rattle.rules.specs.Chain.{reads}
use Rattle.rules.specs.Sound.{Lent}
use Rattle.rules.specs.Rule.{Name, View}
use Rattle.rules.specs.Step as rule
use Rattle.rules.specs.Step.{Show, Do, step, state_in}
use Rattle.look.specs.declared.Shown as look
use Rattle.look.specs.Place.{view_at}
use Rattle.look.specs.Show.{outcome_of, place_shown}
use Rattle.calls_look.specs.declared.Shown.{Shown}

-- the answer of show: its code, its number, and where the view starts
abbrev pub shown_as : Result look.Shown Refusal → Shown
shown_as r =
    let view = view_at (place_shown r) in
    record { code = code_of (outcome_of r); number = number_of (outcome_of r); in_scratch = view.in_scratch; start = view.start }

-- where its view starts
abbrev pub view_in : Shown → View
view_in r = record { in_scratch = r.in_scratch; start = r.start }

-- show's answer, with every byte after the call
abbrev pub shown_of : Shown → List ℕ → List ℕ → List ℕ → rule.Result
shown_of r pool storage scratch = record {
  code = r.code;
  number = r.number;
  pool = pool;
  storage = storage;
  output = scratch;
  view = view_in r;
}

-- The bytes that show s, n lets its caller see: of a done one the first n that the slip reads, of a refused one none.
abbrev pub bytes_shown : Name → ℕ → List ℕ → Lent → List ℕ
bytes_shown s n scratch m = whether eqb (step (Do (Show s n scratch)) m).code 0 then take n (reads (state_in m) s.slip) else []
