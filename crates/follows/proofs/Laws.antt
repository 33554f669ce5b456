-- The audit's code from its answer. Assumes nothing.
use mathlib.Core.Path.{◌≡◌, refl, sym, subst, ap, ◌∙◌}
use mathlib.Core.List.{List}
use lib.ListN.{length}
use Prim.Native.Nat.{ℕ}
use Rattle.std.specs.Prelude.{Ok, Err}
use Rattle.kinds.specs.declared.Refusal.{Refusal}
use Rattle.kinds.specs.Refusal.{refusal_code}
use Rattle.rules.specs.Basics.{Is}
use Rattle.rules.specs.Sound.{lent}
use Rattle.rules.specs.Step.{Result, Audit, Do, rule, done, step}
use Rattle.rules.proofs.Codes.{first_none}
use Rattle.rules.proofs.Step.{step_torn, step_sound_pool}
use Rattle.layout.specs.declared.Shape.{Shape}
use Rattle.audit.specs.Verdict.{AuditIs}
use Rattle.audit.proofs.Laws.{audit_torn, audit_is}
use Rattle.answer.proofs.Perform.{perform_none}

module _ {p : List ℕ} (st : List ℕ) where
  pub code_torn : {why : Refusal} → AuditIs p (length st) (Err why) → refusal_code why ≡ (step (Do Audit) (lent p st)).code
  code_torn v = rw v.torn (ap (λ (x : Result). x.code) (sym (step_torn Audit (lent p st) (λ t. subst Is (audit_torn v st refl) t))))

  pub code_sound : {h : Shape} → AuditIs p (length st) (Ok h) → 0 ≡ (step (Do Audit) (lent p st)).code
  unfolding rule done
  code_sound v = ap (λ (x : Result). x.code) (perform_none Audit (lent p st) refl first_none ∙ sym (step_sound_pool Audit (lent p st) (audit_is v st refl)))
