-- What a caller gets from the audit's answer, without a look into the test. Assumes nothing.
use mathlib.Core.Path.{◌≡◌, sym, ap, subst, ◌∙◌}
use mathlib.Core.Bool.{false}
use mathlib.Core.List.{List, [], ◌∷◌}
use Prim.Native.Nat.{ℕ}
use lib.ListN.{length}
use Rattle.std.specs.Prelude.{Ok, Err}
use Rattle.kinds.specs.declared.Refusal.{Refusal}
use Rattle.rules.specs.Basics.{Is}
use Rattle.rules.specs.Layout.{storage_length}
use Rattle.rules.specs.Bytes.{decode}
use Rattle.rules.specs.Sound.{sound, Sound, SoundTables, lent}
use Rattle.rules.proofs.Audit.{sound_is}
use Rattle.rules.proofs.Bytes.{Header, header_facts}
use Rattle.layout.specs.declared.Shape.{Shape}
use Rattle.tables.specs.Shape.{Shaped, stock_of}
use Rattle.counts.specs.Counters.{Limited, zeros}
use Rattle.audit.specs.declared.Audited.{Audited}
use Rattle.audit.specs.Verdict.{AuditIs, Verdict}
use Rattle.audit.proofs.Verdict.{within, bytes}

module _ {p : List ℕ} {n : ℕ} where
  -- the pool is torn
  pub audit_torn : {why : Refusal} → AuditIs p n (Err why) → (st : List ℕ) → length st ≡ n → sound (lent p st) ≡ false
  audit_torn v st l = sym (v.exact st l)

  module _ {h : Shape} (v : AuditIs p n (Ok h)) where
    -- the pool is sound
    pub audit_is : (st : List ℕ) → length st ≡ n → Is (sound (lent p st))
    audit_is st l = rw (← v.exact st l) tt

    whole : Sound (lent p (zeros n))
    whole = (sound_is _).0 (audit_is (zeros n) (bytes n))

    header : Header (lent p (zeros n))
    header = header_facts _ whole.header_ok

    -- so are its tables
    pub audit_tables : SoundTables (decode p)
    audit_tables = whole.tables_ok

    -- the storage has the bytes of its buffers
    pub audit_storage : n ≡ storage_length (stock_of h) h.buffers
    audit_storage = sym (bytes n) ∙ header.storage_long ∙ ap (λ (b : ℕ). storage_length (b ∷ []) b) (sym v.shaped.buffers)

    -- the counts are within their limits
    pub audit_limited : Limited p h
    audit_limited = within header v.shaped

-- the same from the verdict, which has the follows too
module _ {p : List ℕ} {n : ℕ} {r : Audited} (v : Verdict p n r) where
  pub verdict_torn : {why : Refusal} → r.shape ≡ Err why → (st : List ℕ) → length st ≡ n → sound (lent p st) ≡ false
  verdict_torn q = audit_torn (subst (AuditIs p n) q v.audit)

  module _ {h : Shape} (q : r.shape ≡ Ok h) where
    pub verdict_is : (st : List ℕ) → length st ≡ n → Is (sound (lent p st))
    verdict_is = audit_is (subst (AuditIs p n) q v.audit)

    pub verdict_sound : (st : List ℕ) → length st ≡ n → Sound (lent p st)
    verdict_sound st l = (sound_is _).0 (verdict_is st l)

    pub verdict_header : (st : List ℕ) → length st ≡ n → Header (lent p st)
    verdict_header st l = header_facts _ (verdict_sound st l).header_ok

    pub verdict_shaped : Shaped p h
    verdict_shaped = (subst (AuditIs p n) q v.audit).shaped

    pub verdict_limited : Limited p h
    verdict_limited = audit_limited (subst (AuditIs p n) q v.audit)
