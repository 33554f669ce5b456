-- What dup answers and leaves: the rule's result. Assumes nothing.
use mathlib.Core.Path.{◌≡◌, refl, sym, ap, ◌∙◌}
use mathlib.Core.Logic.{◌≢◌}
use mathlib.Core.List.{List, [], ◌∷◌}
use Prim.Native.Nat.{ℕ, zero, suc, ◌+◌, ◌-◌, ◌≤◌, ◌<◌}
use native.Mathlib.Numerals.{add-one}
use native.Mathlib.Omega.{arith}
use lib.ListN.{length}
use Rattle.std.specs.Prelude.{Ok, Err}
use Rattle.kinds.specs.declared.PieceNumber.{PieceNumber}
use Rattle.kinds.specs.declared.SlipState.{SlipState}
use Rattle.kinds.specs.declared.SlipState.TheVariants.{Heads}
use Rattle.kinds.specs.declared.Step.{Step}
use Rattle.kinds.specs.declared.Refusal.TheVariants.{Slip, Slips, Pieces}
use Rattle.kinds.specs.SlipState.{state_of}
use Rattle.rules.specs.Basics.{Is}
use Rattle.rules.specs.Tables.{Tables, piece, piece_total, head_of, name_of, holding, set_slip}
use Rattle.rules.specs.Bytes.{decode}
use Rattle.rules.specs.Chain.{stretch}
use Rattle.rules.specs.Sound.{lent}
use Rattle.rules.specs.Room.{is_free, ready_slips, free_pieces, new_slip}
use Rattle.rules.specs.Release.{shared}
use Rattle.rules.specs.Build.{fresh, taken, built, built_link, made, under_new}
use Rattle.rules.specs.Rule.{◌⇐◌, first_code, Name, unnamed, want, no_view}
use Rattle.rules.specs.Dup.{dup_plan, dup_after}
use Rattle.rules.specs.Drop.{shorter}
use Rattle.rules.specs.Step.{Dup, rule, state_in, perform}
use Rattle.rules.proofs.Codes.{first_yes, first_no, first_none}
use Rattle.rules.proofs.Bytes.{AllBytes}
use Rattle.layout.specs.declared.Shape.{Shape}
use Rattle.tables.specs.Shape.{Holds}
use Rattle.room.specs.Free.{first_from}
use Rattle.room.proofs.Free.{no_piece}
use Rattle.answer.specs.Result.{result_of}
use Rattle.answer.proofs.Perform.{perform_first, perform_slips, perform_pieces, perform_all, changed}

-- ---- the state

-- a held slip that no piece heads is empty: its entry is 1
pub no_heads : (n : ℕ) {x : SlipState} → x ≡ state_of n → n ≢ 0 → ((p : PieceNumber) → x ≡ Heads p → ⊥) → n ≡ 1
no_heads zero e h k = absurd (h refl)
no_heads (suc zero) e h k = refl
no_heads (suc (suc d)) e h k = absurd (k _ e)

-- ---- the plan

-- where the scan for a piece comes to the end, none is free
pub lacking : (T : Tables) {f : ℕ} → f ≡ first_from (is_free T) 0 (piece_total T) → f ≡ piece_total T → length (free_pieces T) ≡ 0
lacking T e z = ap length (no_piece T e z)

-- a chain like that of the link n needs one piece, or none where n leads nowhere
pub plan_none : (T : Tables) (n : ℕ) → n ≡ 0 → length (dup_plan T n).more ≡ 0
unfolding dup_plan
plan_none T zero z = refl
plan_none T (suc d) z = absurd (omega arith)

pub plan_one : (T : Tables) (n : ℕ) → (n ≡ 0 → ⊥) → length (dup_plan T n).more ≡ 1
unfolding dup_plan
plan_one T zero z = absurd (z refl)
plan_one T (suc d) z = refl

-- the whole of a piece cloned is the plan carried out
pub cloned_made : (T : Tables) (d f : ℕ) → taken (shared T (piece T d).next) f (fresh (stretch (shorter (piece T d) 0)) (piece T d).next) ≡ made (dup_plan T (suc d)) (f ∷ [])
unfolding dup_plan built built_link
cloned_made T d f =
    let a : (piece T d).offset + 0 ≡ (piece T d).offset = omega arith in
    let b : (piece T d).len - 0 ≡ (piece T d).len = omega arith in
    λ i. taken (shared T (piece T d).next) f (fresh (record { buffer = (piece T d).buffer; offset = a i; len = b i }) (piece T d).next)

-- under the slip t: the empty chain, and the new piece
pub empty_under : (T : Tables) (n t : ℕ) (fs : List ℕ) → n ≡ 0 → set_slip T t (holding 0) ≡ under_new (dup_plan T n) fs t
unfolding dup_plan under_new built built_link
empty_under T zero t fs z = refl
empty_under T (suc d) t fs z = absurd (omega arith)

pub clone_under : (T : Tables) (n t f : ℕ) {fs l : List ℕ} → (n ≡ 0 → ⊥) → l ≡ f ∷ fs
    → set_slip (made (dup_plan T (suc (n - 1))) (f ∷ [])) t (holding (f + 1)) ≡ under_new (dup_plan T n) l t
unfolding dup_plan under_new built built_link
clone_under T zero t f z e = absurd (z refl)
clone_under T (suc d) t f {fs} {l} z e =
    let k : suc d - 1 ≡ d = omega arith in
    (λ i. set_slip (made (dup_plan T (suc (k i))) (f ∷ [])) t (holding (add-one f i))) ∙ ap (λ (gs : List ℕ). under_new (dup_plan T (suc d)) gs t) (sym e)

-- ---- the answers

module _ (p st : List ℕ) (y : Name) where
  -- a slip past the last, or vacant, or with another serial
  pub dup_slip : Is (unnamed (decode p) y) → result_of (Err Slip) p st [] no_view ≡ perform (Dup y) (lent p st)
  unfolding rule
  dup_slip u = perform_first (Dup y) (lent p st) Slip (first_yes (Slip ⇐ unnamed (decode p) y) [] u)

  module _ (u : Is (unnamed (decode p) y) → ⊥) where
    early : first_code (rule (Dup y) (state_in (lent p st))).judged ≡ 0
    unfolding rule
    early = first_no (Slip ⇐ unnamed (decode p) y) [] u ∙ first_none

    -- no slip that may be given
    pub dup_slips : length (ready_slips (decode p)) ≡ 0 → result_of (Err Slips) p st [] no_view ≡ perform (Dup y) (lent p st)
    unfolding rule
    dup_slips z = perform_slips (Dup y) (lent p st) early (omega (arith, z))

    module _ (some : 1 ≤ length (ready_slips (decode p))) where
      -- no free piece for a chain that needs one
      pub dup_pieces : length (free_pieces (decode p)) < length (dup_plan (decode p) (head_of (decode p) y.slip)).more → result_of (Err Pieces) p st [] no_view ≡ perform (Dup y) (lent p st)
      unfolding rule
      dup_pieces l = perform_pieces (Dup y) (lent p st) early some (omega (arith, l))

      -- the plan under the new slip
      pub dup_done : {o : Step} {x : SlipState} {q : List ℕ} {h : Shape} {t n : ℕ} → length (dup_plan (decode p) (head_of (decode p) y.slip)).more ≤ length (free_pieces (decode p))
          → new_slip (decode p) ≡ t → o ≡ record { state = x; number = n } → n ≡ name_of (decode p) t → AllBytes q
          → Holds q h (under_new (dup_plan (decode p) (head_of (decode p) y.slip)) (free_pieces (decode p)) t) → result_of (Ok o) q st [] no_view ≡ perform (Dup y) (lent p st)
      unfolding rule dup_after
      dup_done {t = t} l e a m b is =
          let T = decode p in
          changed _ (want 1 (length (dup_plan T (head_of T y.slip)).more) 0) (name_of T (new_slip T)) (dup_after y.slip (state_in (lent p st))) (ap Ok a) (m ∙ ap (name_of T) (sym e)) b
          (record { shaped = is.shaped; is = is.is ∙ ap (under_new (dup_plan T (head_of T y.slip)) (free_pieces T)) (sym e) }) refl
          ∙ perform_all (Dup y) (lent p st) early some (omega (arith, l)) (omega arith)
