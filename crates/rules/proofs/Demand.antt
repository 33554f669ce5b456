-- Demand 3, whole: any list of calls from the pool that a done open has written. Assumes nothing.
use mathlib.Core.Path.{◌≡◌, refl, sym, ap, subst, ◌∙◌}
use mathlib.Core.Logic.{◌≢◌, ◌↔◌}
use mathlib.Core.Bool.{not}
use mathlib.Core.List.{List, [], ◌∷◌}
use Prim.Native.Nat.{ℕ, ◌+◌, ◌≤◌, ◌<◌}
use native.Mathlib.Decide.{ℕ_discrete}
use native.Mathlib.Omega.{arith}
use lib.ListN.{length}
use lib.Dec.{eqb, eqb→eq, T_not, not_T}
use Rattle.kinds.specs.declared.Refusal.TheVariants.{Counts, Torn, Slips, Pieces, Buffers}
use Rattle.kinds.specs.Refusal.{refusal_code}
use Rattle.rules.specs.Basics.{Is}
use Rattle.rules.specs.Tables.{Tables}
use Rattle.rules.specs.Bytes.{decode}
use Rattle.rules.specs.Chain.{state_of, with_tables}
use Rattle.rules.specs.Sound.{Lent, lent, sound}
use Rattle.rules.specs.Rule.{◌⇐◌, first_code, Wants, want, Spare, room, full}
use Rattle.rules.specs.Open.{openable}
use Rattle.rules.specs.Step.{Operation, Call, Open, Do, rule, Result, step, state_in, next, after_calls}
use Rattle.rules.specs.Recount.{counted_by, recounted, leaves}
use Rattle.rules.specs.Demand.{early, wanted, GivesFirstOf, left, CallOk, Each, DemandThree}
use Rattle.rules.specs.Back.{GivesFirst}
use Rattle.rules.proofs.Logic.{if_T, if_F, if_either, eq→eqb}
use Rattle.rules.proofs.Audit.{sound_now}
use Rattle.rules.proofs.Recount.{recount, recounted_same, leaves_room}
use Rattle.rules.proofs.Codes.{first_yes, first_no, first_none, first_zero, first_append, none_full, Full, full_facts, Other}
use Rattle.rules.proofs.Calls.{judged_early}
use Rattle.rules.proofs.Causes.{exactly, early_ok}
use Rattle.rules.proofs.Blind.{blind, recounted_blind}
use Rattle.rules.proofs.Back.{rule_first}
use Rattle.rules.proofs.Step.{code_is, opened_sound, step_keeps}

-- ---- one call

-- an early code, and else the code of what lacks room
record Judging (c e : ℕ) (w : Wants) (r : Spare) : Type 0 where
  when_early : e ≢ 0 → c ≡ e
  when_not : e ≡ 0 → c ≡ first_code (full w r)
  other : Other e

judging : (c e : ℕ) (w : Wants) (r : Spare) → Judging c e w r
    → (c ≢ refusal_code Torn)
    × ((c ≡ refusal_code Slips) ↔ ((e ≡ 0) × (r.slips < w.slips)))
    × ((c ≡ refusal_code Pieces) ↔ ((e ≡ 0) × (w.slips ≤ r.slips) × (length w.back + r.pieces < w.pieces)))
    × ((c ≡ refusal_code Buffers) ↔ ((e ≡ 0) × (w.slips ≤ r.slips) × (w.pieces ≤ length w.back + r.pieces) × (r.buffers < w.buffers)))
judging c e w r j =
    elim (ℕ_discrete e 0) [
      | yes z ↦ (
          let f = full_facts w r in
          let k = j.when_not z in (
            λ t. torn f (sym k ∙ t),
            (λ x. (z, f.slips.0 (sym k ∙ x)), λ x. k ∙ f.slips.1 x.1),
            (λ x. (let y = f.pieces.0 (sym k ∙ x) in (z, y.0, y.1)), λ x. k ∙ f.pieces.1 (x.1, x.2)),
            (λ x. (let y = f.buffers.0 (sym k ∙ x) in (z, y.0, y.1, y.2)), λ x. k ∙ f.buffers.1 (x.1, x.2, x.3)),
          ))
      | no z ↦ (
          let k = j.when_early z in
          let n = j.other in (
            λ t. n.0 (sym k ∙ t),
            (λ x. absurd (n.1 (sym k ∙ x)), λ x. absurd (z x.0)),
            (λ x. absurd (n.2 (sym k ∙ x)), λ x. absurd (z x.0)),
            (λ x. absurd (n.3 (sym k ∙ x)), λ x. absurd (z x.0)),
          ))
    ]
  where
    torn : Full w r → first_code (full w r) ≡ refusal_code Torn → ⊥
    torn f t = (let q = f.others (λ z. omega arith) in omega arith)

do_judging : (o : Operation) (m : Lent) → Is (sound m) → Judging (step (Do o) m).code (early (Do o) m) (wanted (Do o) m) (left m)
unfolding early wanted
do_judging o m t =
    let T = decode m.pool in
    let h = sound_now m t in
    let r = rule o (state_in m) in
    let same : (rule o (with_tables (state_in m) (recounted T))).wants ≡ r.wants = ap (λ (X : Tables). (rule o (with_tables (state_in m) X)).wants) (recounted_same T h) in
    let e = first_no (Torn ⇐ not (sound m)) r.judged (λ n. T_not (sound m) n t) in
    let k = first_append r.judged (full r.wants (room T)) in
    let g = judged_early o (state_in m) in
    let ff : first_code (full (wanted (Do o) m) (left m)) ≡ first_code (full r.wants (room T)) = λ i. first_code (full (same i) (leaves_room T h i)) in
    record {
      when_early = λ n. code_is o m t ∙ k ∙ if_F (eqb (first_code r.judged) 0) _ _ (λ z. n (e ∙ eqb→eq (first_code r.judged) 0 z)) ∙ sym e;
      when_not = λ z. code_is o m t ∙ k ∙ if_T (eqb (first_code r.judged) 0) _ _ (eq→eqb (first_code r.judged) 0 (sym e ∙ z)) ∙ sym ff;
      other = subst Other (sym e) g;
    }

open_judging : (B P S : ℕ) (m : Lent) → Judging (step (Open B P S) m).code (early (Open B P S) m) (wanted (Open B P S) m) (left m)
unfolding early wanted step
open_judging B P S m =
    if_either (λ (x : Result). Judging x.code (first_code ((Counts ⇐ not (openable B P S m)) ∷ [])) (want 0 0 0) (left m)) (openable B P S m) _ _
    (λ t. (
    let e = first_no (Counts ⇐ not (openable B P S m)) [] (λ n. T_not (openable B P S m) n t) ∙ first_none in
    record { when_early = λ n. absurd (n e); when_not = λ _. sym (none_full (left m)); other = omega arith }))
    (λ t. (
    let e = first_yes (Counts ⇐ not (openable B P S m)) [] (not_T (openable B P S m) t) in
    record { when_early = λ _. sym e; when_not = λ z. absurd (omega arith); other = omega arith }))

call_judging : (c : Call) (m : Lent) → Is (sound m) → Judging (step c m).code (early c m) (wanted c m) (left m)
call_judging (Open B P S) m t = open_judging B P S m
call_judging (Do o) m t = do_judging o m t

-- what is given back first
first_ok : (c : Call) (m : Lent) → Is (sound m) → GivesFirstOf c m
unfolding early wanted
first_ok (Open B P S) m t = refl
first_ok (Do o) m t =
    let T = decode m.pool in
    let h = sound_now m t in
    λ e. subst (GivesFirst o T) (sym (ap (λ (X : Tables). (rule o (with_tables (state_in m) X)).wants) (recounted_same T h)))
    (rule_first o (state_in m) h (first_zero (Torn ⇐ not (sound m)) (rule o (state_in m)).judged e).1)

-- what is wanted is read from no stored count
wanted_blind : (c : Call) (m : Lent) (q : List ℕ) (f g : ℕ → ℕ) → decode q ≡ counted_by (decode m.pool) f g
    → wanted c (lent q m.storage) ≡ wanted c m
unfolding wanted
wanted_blind (Open B P S) m q f g e = refl
wanted_blind (Do o) m q f g e =
    ap (λ (X : Tables). (rule o (state_of X m.storage)).wants) (ap recounted e ∙ recounted_blind (decode m.pool) f g)

pub call_ok : (c : Call) (m : Lent) → Is (sound m) → CallOk c m
call_ok c m t =
    let j = judging _ _ _ _ (call_judging c m t) in
    record {
      not_torn = j.0;
      slips_full = j.1;
      pieces_full = j.2;
      buffers_full = j.3;
      exactly = exactly c m;
      early_ok = early_ok c m;
      gives_first = first_ok c m t;
      blind = λ q f g e. (wanted_blind c m q f g e, ap leaves e ∙ (blind (decode m.pool) f g).same_leaves);
    }

-- ---- any list of calls

each_ok : (cs : List Call) (m : Lent) → Is (sound m) → Each cs m
each_ok [] m t = tt
each_ok (c ∷ cs) m t = (call_ok c m t, each_ok cs (next c m) (step_keeps c m t))

pub calls_sound : (cs : List Call) (m : Lent) → Is (sound m) → Is (sound (after_calls cs m))
calls_sound [] m t = t
calls_sound (c ∷ cs) m t = calls_sound cs (next c m) (step_keeps c m t)

-- The one claim.
pub demand_3 : DemandThree
demand_3 B P S m cs e =
    let t = opened_sound B P S m e in
    record {
      each = each_ok cs (next (Open B P S) m) t;
      recount = recount _ (sound_now _ (calls_sound cs (next (Open B P S) m) t));
      blind = λ f g. blind _ f g;
    }
