-- length: its answer is the number of bytes that its slip reads. Assumes nothing.
use mathlib.Core.Path.{◌≡◌, sym, refl}
use mathlib.Core.List.{[], ◌∷◌}
use Prim.Native.Nat.{ℕ}
use native.Mathlib.Omega.{arith}
use lib.ListN.{length}
use Rattle.rules.specs.Basics.{whether◌then◌else◌}
use Rattle.rules.specs.Tables.{buffer_total}
use Rattle.rules.specs.Chain.{State, reads}
use Rattle.rules.specs.Rule.{Name, asks_nothing}
use Rattle.rules.specs.Length.{chain_length, length_call}
use Rattle.rules.specs.Step.{Length, rule}
use Rattle.rules.proofs.Moves.{SoundNow}
use Rattle.rules.proofs.Contents.{Fit}
use Rattle.rules.proofs.After.{reads_length}
use Rattle.rules.proofs.Caused.{found, slip_one, twice_one, none_less}
use Rattle.rules.proofs.Lawful.{Lawful, looks_lawful, Causing}

-- the answer is how many bytes the slip reads
pub length_is : (s : Name) (S : State) → SoundNow S.tables → Fit S.tables.stock (buffer_total S.tables) S.storage → (rule (Length s) S).number ≡ length (reads S s.slip)
unfolding rule
length_is s S h f = sym (reads_length S h f s.slip)

-- ---- length only looks

length_caused : (x : Name) → Causing (length_call x)
unfolding found whether◌then◌else◌
length_caused x S h f = record {
  below = omega arith;
  slip = slip_one S.tables x;
  same = twice_one x.slip;
  long = none_less 512;
  range = none_less _;
  narrow = none_less 0;
  asked = λ z. refl;
}

pub length_lawful : (x : Name) → Lawful (length_call x)
length_lawful x = looks_lawful (x ∷ []) [] (chain_length x) asks_nothing (λ S. omega arith) (λ S. (refl, refl)) (length_caused x)
