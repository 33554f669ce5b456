-- What show answers and leaves.
use Rattle.std.specs.Prelude.{◌≡◌, List, ℕ, Result, Ok, Err}
use Rattle.kinds.specs.declared.Refusal.{Refusal}
use Rattle.kinds.specs.SlipState.{state_of}
use Rattle.kinds.specs.Outcome.{Outcome, number_of}
use Rattle.rules.specs.Tables.{slip}
use Rattle.rules.specs.Bytes.{decode}
use Rattle.rules.specs.Sound.{lent}
use Rattle.rules.specs.Rule.{Name}
use Rattle.rules.specs.Step.{Show, perform}
use Rattle.answer.specs.Result.{result_of, Leaves}
use Rattle.look.specs.declared.Place.{Place}
use Rattle.look.specs.declared.Place.TheVariants.{Storage}
use Rattle.look.specs.declared.Shown.{Shown}
use Rattle.look.specs.Place.{view_at, Lies}

-- what show comes to
abbrev pub outcome_of : Result Shown Refusal → Outcome
outcome_of (Ok x) = Ok x.step
outcome_of (Err r) = Err r

-- where its bytes are seen: of a refused one at the start of storage, which is empty
abbrev pub place_shown : Result Shown Refusal → Place
place_shown (Ok x) = x.place
place_shown (Err r) = Storage 0

-- the answer r of show s, n in a pool and storage, with the scratch before and after: it is the
-- rule's, the bytes that it shows are there, and the slip keeps its state
pub record Seen (r : Result Shown Refusal) (pool storage : List ℕ) (s : Name) (n : ℕ) (scratch after : List ℕ) : Type 0 where
  pub is : result_of (outcome_of r) pool storage after (view_at (place_shown r)) ≡ perform (Show s n scratch) (lent pool storage)
  pub lies : Lies storage after (place_shown r) (number_of (outcome_of r))
  pub leaves : Leaves (outcome_of r) (state_of (slip (decode pool) s.slip))
