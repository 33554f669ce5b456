-- Each code is given exactly when document 01's table says so: of any call on any bytes, sound or not. Assumes nothing.
use mathlib.Core.Path.{◌≡◌, refl, sym, ap, subst, ◌∙◌}
use mathlib.Core.Logic.{◌↔◌, inl, inr, ⊎_elim}
use mathlib.Core.Bool.{not}
use mathlib.Core.List.{[]}
use Prim.Native.Nat.{ℕ, ◌*◌, ◌≤◌, ◌<◌}
use native.Mathlib.Omega.{arith}
use lib.Dec.{T_not, not_T}
use Rattle.kinds.specs.declared.Refusal.{Refusal}
use Rattle.kinds.specs.declared.Refusal.TheVariants.{Counts, Torn, Slip, Same, Long, Range, Narrow, Slips, Pieces, Buffers, WireList}
use Rattle.kinds.specs.Refusal.{refusal_code}
use Rattle.rules.specs.Chain.{State}
use Rattle.rules.specs.Sound.{Lent, sound}
use Rattle.rules.specs.Build.{buffers_for}
use Rattle.rules.specs.Rule.{◌⇐◌, Meaning}
use Rattle.rules.specs.Open.{openable}
use Rattle.rules.specs.Step.{Operation, Call, Open, Do, meaning, rule, Result, state_in, step}
use Rattle.rules.specs.Causes.{Cause, CauseOf, Exactly}
use Rattle.rules.specs.Demand.{early, EarlyOk}
use Rattle.rules.proofs.Logic.{if_either, is_dec}
use Rattle.rules.proofs.Audit.{sound_is, sound_now}
use Rattle.rules.proofs.Codes.{first_yes, first_no, first_none, refusal_pos}
use Rattle.rules.proofs.Caused.{Settled, settled_given, settled_done, settled_as}
use Rattle.rules.proofs.Calls.{before_caused, code_caused}
use Rattle.rules.proofs.Step.{code_is, step_torn, sound_within}
use Rattle.rules.proofs.Places.{open_fits}

-- as few buffers of 512 bytes as take n bytes
pub enough : (n k : ℕ) → (buffers_for n ≤ k) ↔ (n ≤ 512 * k)
enough n k = (λ h. omega arith, λ h. omega arith)

-- ---- any call

-- no row of the table is below code 3
pub cause_above : (r : Refusal) (o : Meaning) (S : State) → Cause r o S → refusal_code Torn < refusal_code r
cause_above Counts o S x = absurd x
cause_above Torn o S x = absurd x
cause_above Slip o S x = omega arith
cause_above Same o S x = omega arith
cause_above Long o S x = omega arith
cause_above Range o S x = omega arith
cause_above Narrow o S x = omega arith
cause_above Slips o S x = omega arith
cause_above Pieces o S x = omega arith
cause_above Buffers o S x = omega arith
cause_above WireList o S x = absurd x

-- a code with one cause alone
settled_one : (q : Refusal) (C : Refusal → Type 0) → ((r : Refusal) → refusal_code q ≡ refusal_code r → C r)
    → ((r : Refusal) → C r → refusal_code q ≤ refusal_code r) → Settled (refusal_code q) C
settled_one q C f g = record { listed = λ _. (q, refl); cause = f; lowest = λ r x. (λ e. omega (arith, refusal_pos q), g r x) }

settled_none : (C : Refusal → Type 0) → ((r : Refusal) → C r → ⊥) → Settled 0 C
settled_none C n = record { listed = λ z. absurd (z refl); cause = λ r e. absurd (omega (arith, refusal_pos r)); lowest = λ r x. absurd (n r x) }

-- the code of a call is settled by its causes
open_settled : (B P S : ℕ) (m : Lent) → Settled (step (Open B P S) m).code (λ r. CauseOf r (Open B P S) m)
unfolding step
open_settled B P S m =
    let C : Refusal → Type 0 = λ r. CauseOf r (Open B P S) m in
    if_either (λ (x : Result). Settled x.code C) (openable B P S m) _ _
    (λ t. settled_none C (λ r x. x.1 ((open_fits B P S m).0 t)))
    (λ n. settled_one Counts C (λ r e. (sym e, λ f. n ((open_fits B P S m).1 f))) (λ r x. omega (arith, x.0)))

do_settled : (o : Operation) (m : Lent) → Settled (step (Do o) m).code (λ r. CauseOf r (Do o) m)
do_settled o m =
    let C : Refusal → Type 0 = λ r. CauseOf r (Do o) m in
    ⊎_elim
    (λ t. subst (λ k. Settled k C) (sym (code_is o m t))
    (settled_as (λ r. (λ x. inr x, λ x. ⊎_elim (λ y. absurd (y.1 ((sound_is m).0 t))) (λ y. y) x))
    (code_caused o (state_in m) (sound_now m t) (sound_within m t).storage_fits)))
    (λ n. subst (λ k. Settled k C) (sym (ap (λ (x : Result). x.code) (step_torn o m n)))
    (settled_one Torn C (λ r e. inl (sym e, λ s. n ((sound_is m).1 s)))
    (λ r x. ⊎_elim (λ y. omega (arith, y.0)) (λ y. omega (arith, cause_above r (meaning o) (state_in m) y)) x)))
    (is_dec (sound m))

call_settled : (c : Call) (m : Lent) → Settled (step c m).code (λ r. CauseOf r c m)
call_settled (Open B P S) m = open_settled B P S m
call_settled (Do o) m = do_settled o m

-- Each code is given exactly when.
pub exactly : (c : Call) (m : Lent) → Exactly c m
exactly c m = (let s = call_settled c m in record { given = settled_given s; done = settled_done s })

-- ---- the code judged before room

abbrev Sooner : Call → Lent → Refusal → Type 0
Sooner c m r = (refusal_code r < refusal_code Slips) × CauseOf r c m

early_settled : (c : Call) (m : Lent) → Settled (early c m) (Sooner c m)
unfolding early
early_settled (Open B P S) m =
    let C = Sooner (Open B P S) m in
    let b = openable B P S m in
    ⊎_elim
    (λ t. subst (λ k. Settled k C) (sym (first_no (Counts ⇐ not b) [] (λ n. T_not b n t) ∙ first_none))
    (settled_none C (λ r x. x.1.1 ((open_fits B P S m).0 t))))
    (λ n. subst (λ k. Settled k C) (sym (first_yes (Counts ⇐ not b) [] (not_T b n)))
    (settled_one Counts C (λ r e. (omega arith, (sym e, λ f. n ((open_fits B P S m).1 f)))) (λ r x. omega (arith, x.1.0))))
    (is_dec b)
early_settled (Do o) m =
    let C = Sooner (Do o) m in
    let js = (rule o (state_in m)).judged in
    ⊎_elim
    (λ t. subst (λ k. Settled k C) (sym (first_no (Torn ⇐ not (sound m)) js (λ n. T_not (sound m) n t)))
    (settled_as (λ r. (λ x. (x.0, inr x.1), λ x. (x.0, ⊎_elim (λ y. absurd (y.1 ((sound_is m).0 t))) (λ y. y) x.1)))
    (before_caused o (state_in m) (sound_now m t) (sound_within m t).storage_fits)))
    (λ n. subst (λ k. Settled k C) (sym (first_yes (Torn ⇐ not (sound m)) js (not_T (sound m) n)))
    (settled_one Torn C (λ r e. (omega arith, inl (sym e, λ s. n ((sound_is m).1 s))))
    (λ r x. ⊎_elim (λ y. omega (arith, y.0)) (λ y. omega (arith, cause_above r (meaning o) (state_in m) y)) x.1)))
    (is_dec (sound m))

-- It is the lowest below 8 whose cause is there.
pub early_ok : (c : Call) (m : Lent) → EarlyOk c m
early_ok c m =
    let s = early_settled c m in
    record {
      given = λ r. (
          let g = settled_given s r in (
            λ e. (let x = g.0 e in (x.0.0, (x.0.1, λ q l y. x.1 q l (omega (arith, x.0.0), y)))),
            λ x. g.1 ((x.0, x.1.0), λ q l y. x.1.1 q l y.1),
          ));
      none = (λ e r l x. (settled_done s).0 e r (l, x), λ n. (settled_done s).1 (λ r x. n r x.0 x.1));
    }
