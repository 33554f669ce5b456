-- What free answers and leaves: the rule's result. Assumes nothing.
use mathlib.Core.Path.{◌≡◌, refl, sym, ap, ◌∙◌}
use mathlib.Core.List.{List, []}
use Prim.Native.Nat.{ℕ}
use Rattle.std.specs.Prelude.{Ok, Err}
use Rattle.kinds.specs.declared.SlipState.{SlipState}
use Rattle.kinds.specs.declared.Refusal.TheVariants.{Slip}
use Rattle.kinds.specs.Outcome.{Outcome}
use Rattle.rules.specs.Basics.{Is}
use Rattle.rules.specs.Tables.{Tables, vacant, aged}
use Rattle.rules.specs.Bytes.{decode}
use Rattle.rules.specs.Sound.{lent}
use Rattle.rules.specs.Rule.{◌⇐◌, Name, unnamed, want, no_view}
use Rattle.rules.specs.Free.{free_after}
use Rattle.rules.specs.Step.{Free, rule, state_in, perform}
use Rattle.rules.proofs.Codes.{first_yes, first_no, first_none}
use Rattle.rules.proofs.Bytes.{AllBytes}
use Rattle.layout.specs.declared.Shape.{Shape}
use Rattle.tables.specs.Shape.{Holds}
use Rattle.answer.specs.Result.{result_of}
use Rattle.answer.proofs.Perform.{perform_first, perform_none, changed}
use Rattle.release.specs.Release.{turned_to, turned_storage}
use Rattle.release.proofs.Laws.{turned_tables}

module _ (p st : List ℕ) (x : Name) where
  -- a slip past the last, or vacant, or with another serial
  pub free_slip : Is (unnamed (decode p) x) → result_of (Err Slip) p st [] no_view ≡ perform (Free x) (lent p st)
  unfolding rule
  free_slip u = perform_first (Free x) (lent p st) Slip (first_yes (Slip ⇐ unnamed (decode p) x) [] u)

  -- the slip is turned to vacant, and its serial goes up
  pub free_done : {o : Outcome} {y : SlipState} {q sq : List ℕ} {h : Shape} → (Is (unnamed (decode p) x) → ⊥)
      → o ≡ Ok (record { state = y; number = 0 }) → AllBytes q
      → Holds q h (aged (turned_to (decode p) x.slip vacant) x.slip) → sq ≡ turned_storage (decode p) st x.slip vacant
      → result_of o q sq [] no_view ≡ perform (Free x) (lent p st)
  unfolding rule turned_storage
  free_done u a b is cleans =
      let S = state_in (lent p st) in
      let s = x.slip in
      changed _ (want 0 0 0) 0 (free_after s S) a refl b
      (record { shaped = is.shaped; is = is.is ∙ ap (λ (T : Tables). aged T s) (sym (turned_tables S s vacant)) }) cleans
      ∙ perform_none (Free x) (lent p st) refl (first_no (Slip ⇐ unnamed (decode p) x) [] u ∙ first_none)
