-- What length and read answer: the first refusal whose cause is there, or their rule. Assumes nothing.
use mathlib.Core.Path.{◌≡◌, refl, sym, ap, ◌∙◌}
use mathlib.Core.List.{List, []}
use Prim.Native.Nat.{ℕ, ◌+◌, ◌≤◌, ◌<◌}
use native.Mathlib.Omega.{arith}
use lib.ListN.{length, take, drop}
use lib.Dec.{ltb, ltb→lt, lt→ltb}
use Rattle.std.specs.Prelude.{Ok, Err}
use Rattle.kinds.specs.declared.SlipState.{SlipState}
use Rattle.kinds.specs.declared.Refusal.TheVariants.{Slip, Range, Narrow}
use Rattle.kinds.specs.Outcome.{Outcome}
use Rattle.rules.specs.Basics.{Is}
use Rattle.rules.specs.Bytes.{decode, encode}
use Rattle.rules.specs.Chain.{length_of, reads}
use Rattle.rules.specs.Sound.{lent}
use Rattle.rules.specs.Rule.{◌⇐◌, Name, unnamed, no_view}
use Rattle.rules.specs.Read.{copied}
use Rattle.rules.specs.Step.{Length, Read, rule, state_in, done, perform}
use Rattle.rules.proofs.Codes.{first_yes, first_no, first_none}
use Rattle.answer.specs.Result.{result_of}
use Rattle.answer.proofs.Perform.{perform_first, perform_none}

-- ---- length

module _ (p st : List ℕ) (y : Name) where
  abbrev s : ℕ
  s = y.slip

  pub length_slip : Is (unnamed (decode p) y) → result_of (Err Slip) p st [] no_view ≡ perform (Length y) (lent p st)
  unfolding rule
  length_slip u = perform_first (Length y) (lent p st) Slip (first_yes (Slip ⇐ unnamed (decode p) y) [] u)

  pub length_done : {o : Outcome} {x : SlipState} {r : ℕ} → o ≡ Ok (record { state = x; number = r }) → (Is (unnamed (decode p) y) → ⊥) → r ≡ length_of (decode p) s → encode (decode p) ≡ p
      → result_of o p st [] no_view ≡ perform (Length y) (lent p st)
  unfolding rule done
  length_done a u e b =
      ap (λ (o : Outcome). result_of o p st [] no_view) a
      ∙ (λ i. record { code = 0; number = e i; pool = sym b i; storage = st; output = []; view = no_view })
      ∙ perform_none (Length y) (lent p st) refl (first_no (Slip ⇐ unnamed (decode p) y) [] u ∙ first_none)

-- ---- read

module _ (p st out : List ℕ) (y : Name) (off n : ℕ) where
  pub read_slip : Is (unnamed (decode p) y) → result_of (Err Slip) p st out no_view ≡ perform (Read y off n out) (lent p st)
  unfolding rule
  read_slip u = perform_first (Read y off n out) (lent p st) Slip (first_yes (Slip ⇐ unnamed (decode p) y) _ u)

  module _ (u : Is (unnamed (decode p) y) → ⊥) where
    pub read_range : length_of (decode p) y.slip < off + n → result_of (Err Range) p st out no_view ≡ perform (Read y off n out) (lent p st)
    unfolding rule
    read_range h =
        perform_first (Read y off n out) (lent p st) Range
        (first_no (Slip ⇐ unnamed (decode p) y) _ u ∙ first_yes (Range ⇐ ltb (length_of (decode p) y.slip) (off + n)) _ (lt→ltb _ _ h))

    module _ (h : off + n ≤ length_of (decode p) y.slip) where
      range_ok : Is (ltb (length_of (decode p) y.slip) (off + n)) → ⊥
      range_ok t = omega (arith, ltb→lt (length_of (decode p) y.slip) (off + n) t)

      pub read_narrow : length out < n → result_of (Err Narrow) p st out no_view ≡ perform (Read y off n out) (lent p st)
      unfolding rule
      read_narrow k =
          perform_first (Read y off n out) (lent p st) Narrow
          (first_no (Slip ⇐ unnamed (decode p) y) _ u ∙ first_no (Range ⇐ ltb (length_of (decode p) y.slip) (off + n)) _ range_ok
          ∙ first_yes (Narrow ⇐ ltb (length out) n) [] (lt→ltb _ _ k))

      pub read_done : {o : Outcome} {x : SlipState} {after : List ℕ} → o ≡ Ok (record { state = x; number = n }) → n ≤ length out → encode (decode p) ≡ p
          → after ≡ copied (take n (drop off (reads (state_in (lent p st)) y.slip))) out → result_of o p st after no_view ≡ perform (Read y off n out) (lent p st)
      unfolding rule done
      read_done {after = after} a k b e =
          ap (λ (o : Outcome). result_of o p st after no_view) a
          ∙ (λ i. record { code = 0; number = n; pool = sym b i; storage = st; output = e i; view = no_view })
          ∙ perform_none (Read y off n out) (lent p st) refl
          (first_no (Slip ⇐ unnamed (decode p) y) _ u ∙ first_no (Range ⇐ ltb (length_of (decode p) y.slip) (off + n)) _ range_ok
          ∙ first_no (Narrow ⇐ ltb (length out) n) [] (λ t. omega (arith, ltb→lt (length out) n t)) ∙ first_none)
