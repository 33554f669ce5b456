-- list: the records that it writes, and what of the list stays. Assumes nothing.
use mathlib.Core.Path.{◌≡◌, refl, ap, subst, ◌∙◌}
use mathlib.Core.Logic.{◌↔◌}
use mathlib.Core.List.{List, [], ◌∷◌}
use Prim.Native.Nat.{ℕ, ◌*◌, ◌<◌}
use native.Mathlib.Omega.{arith}
use lib.ListN.{length, take, drop}
use lib.Dec.{ltb}
use Rattle.rules.specs.Basics.{Is, whether◌then◌else◌}
use Rattle.rules.specs.Chain.{State, Stretch, chain, spans}
use Rattle.rules.specs.Rule.{Name}
use Rattle.rules.specs.List.{records, list_asks, list_call, wire_list}
use Rattle.rules.specs.Step.{WireList, rule}
use Rattle.rules.proofs.Hang.{stretches_length}
use Rattle.rules.proofs.Codes.{Allowed, no-cause}
use Rattle.rules.proofs.Caused.{found, slip_one, twice_one, none_less, less_is}
use Rattle.rules.proofs.Lawful.{Lawful, looks_lawful, Causing}
use Rattle.rules.proofs.Read.{copied_front, copied_rest, copied_length}

-- a record has two numbers
pub records_length : (Z : List ℕ) (xs : List Stretch) → length (records Z xs) ≡ 2 * length xs
unfolding records
records_length Z [] = refl
records_length Z (x ∷ xs) = omega (arith, records_length Z xs)

-- What list gives: a record for each piece in chain order, at the front of the list, whose rest is unchanged.
pub record ListExact (s : Name) (list : List ℕ) (S : State) : Type 0 where
  pub one_each : (rule (WireList s list) S).number ≡ length (chain S.tables s.slip)
  pub as_long : length (rule (WireList s list) S).output ≡ length list
  pub front : take (2 * (rule (WireList s list) S).number) (rule (WireList s list) S).output ≡ records S.tables.stock (spans S.tables s.slip)
  pub rest : drop (2 * (rule (WireList s list) S).number) (rule (WireList s list) S).output ≡ drop (2 * (rule (WireList s list) S).number) list

-- a done list gives that
pub list_exact : (s : Name) (list : List ℕ) (S : State) → Allowed (rule (WireList s list) S) S.tables → ListExact s list S
unfolding rule
list_exact s list S a =
    let c = simp no-cause at a.early in
    let xs = spans S.tables s.slip in
    let Z = S.tables.stock in
    let e = records_length Z xs in
    record {
      one_each = stretches_length S.tables (chain S.tables s.slip);
      as_long = copied_length (2 * length xs) (records Z xs) list e (omega arith);
      front = copied_front (2 * length xs) (records Z xs) list e;
      rest = copied_rest (2 * length xs) (records Z xs) list e;
    }

-- ---- list only looks

list_caused : (x : Name) (list : List ℕ) → Causing (list_call x list)
unfolding found whether◌then◌else◌
list_caused x list S h f = record {
  below = omega arith;
  slip = slip_one S.tables x;
  same = twice_one x.slip;
  long = none_less 512;
  range = none_less _;
  narrow = (
      let T = S.tables in
      let e : length (records T.stock (spans T x.slip)) ≡ 2 * length (chain T x.slip) =
      records_length T.stock (spans T x.slip) ∙ ap (λ k. 2 * k) (stretches_length T (chain T x.slip)) in
      subst (λ k. Is (ltb (length list) (length (records T.stock (spans T x.slip)))) ↔ (length list < k)) e (less_is (length list) _));
  asked = λ z. refl;
}

pub list_lawful : (x : Name) (list : List ℕ) → Lawful (list_call x list)
list_lawful x list = looks_lawful (x ∷ []) list (wire_list x list) (list_asks x) (λ S. omega arith) (λ S. (refl, refl)) (list_caused x list)
