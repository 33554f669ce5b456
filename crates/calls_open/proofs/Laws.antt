-- What open and audit answer. Assumes nothing.
use mathlib.Core.Path.{◌≡◌, refl, sym, subst, ◌∙◌}
use mathlib.Core.Bool.{Bool, true, false, ◌&&◌}
use mathlib.Core.List.{List, [], ◌∷◌}
use Prim.Native.Nat.{ℕ}
use lib.ListN.{length}
use lib.Dec.{eqb, eqb→eq}
use Rattle.std.specs.Prelude.{Ok, Err}
use Rattle.kinds.specs.declared.Refusal.TheVariants.{Counts}
use Rattle.kinds.specs.Outcome.{answer_of_unit}
use Rattle.rules.specs.Basics.{Is}
use Rattle.rules.specs.Layout.{pool_length, storage_length}
use Rattle.rules.specs.Tables.{fresh_tables}
use Rattle.rules.specs.Bytes.{encode}
use Rattle.rules.specs.Sound.{lent, counts_ok, lengths_ok}
use Rattle.rules.specs.Rule.{no_view}
use Rattle.rules.specs.Open.{openable}
use Rattle.rules.specs.Step.{Audit, Open, Do, rule, done, step}
use Rattle.rules.proofs.Logic.{if_T, if_F, and_0, and_parts}
use Rattle.rules.proofs.Codes.{first_none}
use Rattle.rules.proofs.Bytes.{AllBytes}
use Rattle.tables.proofs.Laws.{fits_decode}
use Rattle.layout.specs.declared.Shape.{Shape}
use Rattle.audit.specs.Verdict.{AuditIs}
use Rattle.answer.proofs.Perform.{perform_none}
use Rattle.calls.specs.Result.{result_of}
use Rattle.calls.proofs.Laws.{opened, performed}

-- ---- open

module _ (p st : List ℕ) (B P S : ℕ) {b : Bool} (test : b ≡ (counts_ok B P S && lengths_ok B P S (length p) (length st))) where
  is_openable : b ≡ true → Is (openable B P S (lent p st))
  unfolding openable
  is_openable q = subst Is (sym q ∙ test) tt

  not_openable : b ≡ false → Is (openable B P S (lent p st)) → ⊥
  unfolding openable
  not_openable q t = subst Is (sym test ∙ q) t

  -- a count out of range, or a length that is not the one it asks
  pub open_no : b ≡ false → result_of (answer_of_unit (Err Counts)) p st [] no_view ≡ step (Open B P S) (lent p st)
  unfolding step
  open_no q = sym (if_F (openable B P S (lent p st)) _ _ (not_openable q))

  pub open_length : b ≡ true → length p ≡ pool_length B P S
  unfolding openable
  open_length q =
      eqb→eq (length p) (pool_length B P S)
      (and_0 (eqb (length p) (pool_length B P S)) (eqb (length st) (storage_length (B ∷ []) B)) (and_parts (counts_ok B P S) (lengths_ok B P S (length p) (length st)) (is_openable q)).1)

  pub open_done : {after : List ℕ} → b ≡ true → after ≡ encode (fresh_tables B P S) → result_of (answer_of_unit (Ok (tt {0}))) after st [] no_view ≡ step (Open B P S) (lent p st)
  unfolding step
  open_done q e = (λ i. record { code = 0; number = 0; pool = e i; storage = st; output = []; view = no_view }) ∙ sym (if_T (openable B P S (lent p st)) _ _ (is_openable q))

-- ---- audit

-- audit itself does nothing
pub audit_done : {p : List ℕ} (st : List ℕ) {h : Shape} → AuditIs p (length st) (Ok h) → AllBytes p → result_of (answer_of_unit (Ok (tt {0}))) p st [] no_view ≡ step (Do Audit) (lent p st)
unfolding rule done
audit_done {p} st v b =
    (λ i. record { code = 0; number = 0; pool = sym (fits_decode p b (opened v).shaped.fits) i; storage = st; output = []; view = no_view })
    ∙ perform_none Audit (lent p st) refl first_none ∙ performed st v Audit

pub ruleset laws = (open_no, open_length, open_done)
