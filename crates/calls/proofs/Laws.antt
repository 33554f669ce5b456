-- From the audit's answer to what an operation asks, from the operation to the call, and from the call to its answer to C. Assumes nothing.
use mathlib.Core.Path.{◌≡◌, refl, sym, subst}
use mathlib.Core.List.{List}
use Prim.Native.Nat.{ℕ}
use lib.ListN.{length}
use Rattle.std.specs.Prelude.{Ok, Err}
use Rattle.kinds.specs.declared.Refusal.{Refusal}
use Rattle.kinds.specs.Outcome.{Outcome, answer_of}
use Rattle.rules.specs.Basics.{Is}
use Rattle.rules.specs.Layout.{storage_length}
use Rattle.rules.specs.Sound.{lent}
use Rattle.rules.specs.Rule.{View, no_view}
use Rattle.rules.specs.Step.{Operation, Do, lent_out, perform, step}
use Rattle.rules.proofs.Step.{step_sound_pool, step_torn}
use Rattle.layout.specs.declared.Shape.{Shape}
use Rattle.tables.specs.Shape.{stock_of}
use Rattle.audit.specs.Verdict.{AuditIs}
use Rattle.audit.proofs.Laws.{audit_torn, audit_is, audit_tables, audit_storage, audit_limited}
use Rattle.chain.specs.Opened.{Opened}
use Rattle.answer.specs.Result.{result_of}
use Rattle.calls.specs.Result as answered

-- a torn pool is refused, whatever the call
pub torn : {p st : List ℕ} {why : Refusal} → AuditIs p (length st) (Err why) → (o : Operation)
    → result_of (Err why) p st (lent_out o) no_view ≡ step (Do o) (lent p st)
torn {p} {st} v o = rw v.torn (sym (step_torn o (lent p st) (λ t. subst Is (audit_torn v st refl) t)))

-- a sound pool is what an operation asks
pub opened : {p : List ℕ} {n : ℕ} {h : Shape} → AuditIs p n (Ok h) → Opened p h
opened v =
    let k = audit_limited v in
    record {
      shaped = v.shaped;
      few_buffers_lem = k.few_buffers_lem;
      few_pieces_lem = k.few_pieces_lem;
      few_slips = k.few_slips;
      sound = audit_tables v;
    }

pub fitted : {p : List ℕ} {n : ℕ} {h : Shape} → AuditIs p n (Ok h) → n ≡ storage_length (stock_of h) h.buffers
fitted v = audit_storage v

-- and the call is the operation
pub performed : {p : List ℕ} (st : List ℕ) {h : Shape} → AuditIs p (length st) (Ok h) → (o : Operation) → perform o (lent p st) ≡ step (Do o) (lent p st)
performed {p} st v o = sym (step_sound_pool o (lent p st) (audit_is v st refl))

-- what C is answered is what the call came to
pub answer_same : (o : Outcome) (p st out : List ℕ) (view : View) → result_of o p st out view ≡ answered.result_of (answer_of o) p st out view
answer_same o p st out view = refl
