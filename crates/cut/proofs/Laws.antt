-- What cut answers and leaves: the rule's result. Assumes nothing.
use mathlib.Core.Path.{◌≡◌, refl, sym, ap, subst, ◌∙◌}
use mathlib.Core.Bool.{true}
use mathlib.Core.List.{List, []}
use Prim.Native.Nat.{ℕ, ◌+◌, ◌≤◌, ◌<◌}
use native.Mathlib.Decide.{ℕ_discrete}
use native.Mathlib.Omega.{arith}
use lib.ListN.{length}
use lib.Dec.{ltb, ltb→lt, lt→ltb}
use Rattle.std.specs.Prelude.{Ok, Err}
use Rattle.kinds.specs.declared.SlipState.{SlipState}
use Rattle.kinds.specs.declared.Step.{Step}
use Rattle.kinds.specs.declared.Refusal.{Refusal}
use Rattle.kinds.specs.declared.Refusal.TheVariants.{Slip, Range, Slips, Pieces}
use Rattle.rules.specs.Basics.{Is}
use Rattle.rules.specs.Tables.{Tables, head_of, name_of, slip_total, piece_total}
use Rattle.rules.specs.Bytes.{decode}
use Rattle.rules.specs.Chain.{Stretch, spans, length_of, cut_out}
use Rattle.rules.specs.Sound.{SoundTables, lent}
use Rattle.rules.specs.Room.{ready_slips, free_pieces, new_slip}
use Rattle.rules.specs.Build.{plain, under_new}
use Rattle.rules.specs.Rule.{◌⇐◌, first_code, Name, unnamed, want, no_view}
use Rattle.rules.specs.Cut.{cut_after}
use Rattle.rules.specs.Step.{Cut, rule, state_in, perform}
use Rattle.rules.proofs.Codes.{first_yes, first_no, first_none}
use Rattle.rules.proofs.Bytes.{AllBytes}
use Rattle.layout.specs.declared.Shape.{Shape}
use Rattle.tables.specs.Shape.{Holds}
use Rattle.chain.specs.declared.Spot.{Spot}
use Rattle.chain.specs.Find.{spot_of, found}
use Rattle.chain.specs.Length.{stretches_from}
use Rattle.chain.specs.Part.{extent_of}
use Rattle.chain.proofs.Spots.{Found, found_at, found_ok, found_err, past_range, cut_out_none}
use Rattle.chain.proofs.Parts.{extent_ok, part_from_lem}
use Rattle.answer.specs.Result.{result_of}
use Rattle.answer.proofs.Perform.{perform_first, perform_slips, perform_pieces, perform_all, changed}

-- ---- the range, from the place found

module _ (T : Tables) (off : ℕ) {head : ℕ} (s : ℕ) (S : SoundTables T) (l : s < slip_total T) (e : head ≡ head_of T s) where
  abbrev place : Spot
  place = spot_of (piece_total T) T true head off

  -- the place that was found, and what follows from where the range starts
  pub cut_place : {at : Spot} → Ok at ≡ found place → Found T (head_of T s) off at
  cut_place f = found_at T s off e (found_ok place f).0 S l

  -- a range that starts past the end goes past it
  pub cut_past : {x : Refusal} (n : ℕ) → Err x ≡ found place → (x ≡ Range) × (length_of T s < off + n)
  cut_past n f =
      let (r, t) = found_err place f in
      (r, omega (arith, ltb→lt (length_of T s) off (subst Is (past_range T s off e refl S l) t)))

module _ (T : Tables) (h off n : ℕ) {at : Spot} {part : ℕ} (f : Found T h off at) (e : Ok part ≡ extent_of T at.link (at.into + n)) where
  -- the pieces that it overlaps: none where it is empty
  pub range_pieces : {k : ℕ} → (n ≡ 0 → k ≡ 0) × ((n ≡ 0 → ⊥) → k ≡ part) → k ≡ length (cut_out (stretches_from T h) off n)
  range_pieces c = elim (ℕ_discrete n 0) [
    | yes z ↦ c.0 z ∙ sym (ap length (ap (cut_out (stretches_from T h) off) z ∙ cut_out_none (stretches_from T h) off))
    | no z ↦ c.1 z ∙ (extent_ok T at.link (at.into + n) e).0 ∙ sym (part_from_lem T h off at f n (omega arith))
  ]

-- ---- the answers

module _ (p st : List ℕ) (y : Name) (off n : ℕ) where
  -- a slip past the last, or vacant, or with another serial
  pub cut_slip : Is (unnamed (decode p) y) → result_of (Err Slip) p st [] no_view ≡ perform (Cut y off n) (lent p st)
  unfolding rule
  cut_slip u = perform_first (Cut y off n) (lent p st) Slip (first_yes (Slip ⇐ unnamed (decode p) y) _ u)

  module _ (u : Is (unnamed (decode p) y) → ⊥) where
    -- a range past the end of the chain
    pub cut_range : length_of (decode p) y.slip < off + n → result_of (Err Range) p st [] no_view ≡ perform (Cut y off n) (lent p st)
    unfolding rule
    cut_range h =
        perform_first (Cut y off n) (lent p st) Range
        (first_no (Slip ⇐ unnamed (decode p) y) _ u ∙ first_yes (Range ⇐ ltb (length_of (decode p) y.slip) (off + n)) [] (lt→ltb _ _ h))

    module _ (h : off + n ≤ length_of (decode p) y.slip) where
      -- no refusal is given before room is judged
      early : first_code (rule (Cut y off n) (state_in (lent p st))).judged ≡ 0
      unfolding rule
      early =
          first_no (Slip ⇐ unnamed (decode p) y) _ u
          ∙ first_no (Range ⇐ ltb (length_of (decode p) y.slip) (off + n)) [] (λ t. omega (arith, ltb→lt (length_of (decode p) y.slip) (off + n) t)) ∙ first_none

      -- no slip that may be given
      pub cut_slips : length (ready_slips (decode p)) ≡ 0 → result_of (Err Slips) p st [] no_view ≡ perform (Cut y off n) (lent p st)
      unfolding rule
      cut_slips z = perform_slips (Cut y off n) (lent p st) early (omega (arith, z))

      module _ (some : 1 ≤ length (ready_slips (decode p))) where
        -- too few free pieces
        pub cut_pieces : length (free_pieces (decode p)) < length (cut_out (spans (decode p) y.slip) off n) → result_of (Err Pieces) p st [] no_view ≡ perform (Cut y off n) (lent p st)
        unfolding rule
        cut_pieces l = perform_pieces (Cut y off n) (lent p st) early some (omega (arith, l))

        -- the new pieces under the new slip
        pub cut_done : {o : Step} {x : SlipState} {q : List ℕ} {g : Shape} {t m : ℕ} {xs : List Stretch} → length (cut_out (spans (decode p) y.slip) off n) ≤ length (free_pieces (decode p))
            → new_slip (decode p) ≡ t → o ≡ record { state = x; number = m } → m ≡ name_of (decode p) t → AllBytes q
            → Holds q g (under_new (plain (decode p) xs) (free_pieces (decode p)) t) → cut_out (spans (decode p) y.slip) off n ≡ xs → result_of (Ok o) q st [] no_view ≡ perform (Cut y off n) (lent p st)
        unfolding rule cut_after
        cut_done l e a k b is same =
            let T = decode p in
            changed _ (want 1 (length (cut_out (spans T y.slip) off n)) 0) (name_of T (new_slip T)) (cut_after y.slip off n (state_in (lent p st))) (ap Ok a) (k ∙ ap (name_of T) (sym e)) b
            (record { shaped = is.shaped; is = is.is ∙ (λ i. under_new (plain T (sym same i)) (free_pieces T) (sym e i)) }) refl
            ∙ perform_all (Cut y off n) (lent p st) early some (omega (arith, l)) (omega arith)
