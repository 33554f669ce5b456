-- What the audit answers.
use Rattle.std.specs.Prelude.{◌≡◌, List, ℕ, ◌≤◌, length, Option, Result, is_some, is_ok, IfSome, IfOk, IfErr}
use Rattle.kinds.specs.declared.Refusal.{Refusal}
use Rattle.kinds.specs.declared.Refusal.TheVariants.{Torn}
use Rattle.rules.specs.Bytes.{pieces_in}
use Rattle.rules.specs.Sound.{is_header_ok, sound, lent}
use Rattle.layout.specs.declared.Shape.{Shape}
use Rattle.tables.specs.Shape.{Shaped}
use Rattle.audit.specs.declared.Audited.{Audited}
use Rattle.audit.specs.Follows.{audit_follows}

-- r is the shape of the pool p where its header fits, beside storage of n bytes
pub record Fitting (p : List ℕ) (n : ℕ) (r : Option Shape) : Type 0 where
  pub exact : (st : List ℕ) → length st ≡ n → is_some r ≡ is_header_ok (lent p st)
  pub shaped : IfSome r (Shaped p)

-- r is the audit of the pool p beside storage of n bytes: Ok with the pool's shape exactly where it is sound by the rules' test, else Torn
pub record AuditIs (p : List ℕ) (n : ℕ) (r : Result Shape Refusal) : Type 0 where
  pub exact : (st : List ℕ) → length st ≡ n → is_ok r ≡ sound (lent p st)
  pub shaped : IfOk r (Shaped p)
  pub torn : IfErr r (λ why. why ≡ Torn)

-- r is the same with the follows: next is followed exactly as often as `audit_follows` says, at most P times
pub record Verdict (p : List ℕ) (n : ℕ) (r : Audited) : Type 0 where
  pub audit : AuditIs p n r.shape
  pub counted : (st : List ℕ) → length st ≡ n → r.follows ≡ audit_follows (lent p st)
  pub bounded : r.follows ≤ pieces_in p
