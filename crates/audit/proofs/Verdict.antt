-- The verdict from the header's test and the tables'. Assumes nothing.
use mathlib.Core.Path.{◌≡◌, refl, sym, ◌∙◌}
use mathlib.Core.Bool.{Bool, true, false}
use mathlib.Core.List.{List}
use Prim.Native.Nat.{ℕ, ◌<◌}
use native.Mathlib.Omega.{arith}
use lib.ListN.{length, length-replicate}
use Rattle.std.specs.Prelude.{Result, Err, Some, None, is_ok, IfOk, IfErr}
use Rattle.std.specs.Bool.{then_some}
use Rattle.kinds.specs.declared.Refusal.{Refusal}
use Rattle.kinds.specs.declared.Refusal.TheVariants.{Torn}
use Rattle.rules.specs.Basics.{whether◌then◌else◌}
use Rattle.rules.specs.Layout.{header_length}
use Rattle.rules.specs.Bytes.{buffers_in, pieces_in, slips_in, decode}
use Rattle.rules.specs.Sound.{is_header_ok, sound, lent, headed}
use Rattle.rules.proofs.Logic.{is_false}
use Rattle.rules.proofs.Bytes.{Header, header_facts, decode_pieces}
use Rattle.layout.specs.declared.Shape.{Shape}
use Rattle.counts.specs.Counters.{Limited, zeros}
use Rattle.tables.specs.Shape.{Fits, Shaped}
use Rattle.audit.specs.Follows.{followed, Tested, audit_follows}
use Rattle.audit.specs.Verdict.{Fitting, Verdict}

-- the shape h is the header's
pub record Of (p : List ℕ) (h : Shape) : Type 0 where
  pub buffers : h.buffers ≡ buffers_in p
  pub pieces : h.pieces ≡ pieces_in p
  pub slips : h.slips ≡ slips_in p

-- its counts are within their limits
pub within : {p st : List ℕ} {h : Shape} → Header (lent p st) → Shaped p h → Limited p h
within k s = record { shaped = s; few_buffers_lem = omega arith; few_pieces_lem = omega arith; few_slips = omega arith }

-- storage of n bytes, and its length
abbrev pub bytes : (n : ℕ) → length (zeros n) ≡ n
bytes n = length-replicate {A = ℕ} n 0

-- ---- whether the header fits

-- a pool too short for a header fits nothing
pub short : (p : List ℕ) (n : ℕ) → length p < header_length → Fitting p n None
short p n l = record { exact = λ st _. sym (is_false _ (λ t. (let k = header_facts (lent p st) t in omega (arith, k.pool_long)))); shaped = tt }

module _ {p : List ℕ} (n : ℕ) {h : Shape} (o : Of p h) where
  same : (st : List ℕ) → length st ≡ n → headed p h.buffers h.pieces h.slips n ≡ is_header_ok (lent p st)
  unfolding is_header_ok
  same st l = λ i. headed p (o.buffers i) (o.pieces i) (o.slips i) (sym l i)

  pub fits : (b : Bool) → b ≡ headed p h.buffers h.pieces h.slips n → Fitting p n (then_some b h)
  fits true q =
      let k = header_facts (lent p (zeros n)) (rw (← same (zeros n) (bytes n), ← q) tt) in
      let good : Fits p = record { is_marked = k.is_marked; long = k.pool_long } in
      record { exact = λ st l. q ∙ same st l; shaped = record { fits = good; buffers = o.buffers; pieces = o.pieces; slips = o.slips } }
  fits false q = record { exact = λ st l. q ∙ same st l; shaped = tt }

-- ---- the audit

module _ {p : List ℕ} {n : ℕ} where
  pub unfit : Fitting p n None → Verdict p n (record { shape = Err Torn; follows = 0 })
  unfolding sound audit_follows whether◌then◌else◌
  unfit f = record {
    audit = record { exact = λ st l. rw (← f.exact st l); shaped = tt; torn = refl };
    counted = λ st l. rw (← f.exact st l);
    bounded = omega arith;
  }

  module _ {h : Shape} (f : Fitting p n (Some h)) where
    pub limited : Limited p h
    limited = within (header_facts (lent p (zeros n)) (rw (← f.exact (zeros n) (bytes n)) tt)) f.shaped

    pub tested : {t : Result ℕ ℕ} {r : Result Shape Refusal} → Tested (decode p) t → is_ok r ≡ is_ok t → IfOk r (Shaped p) → IfErr r (λ why. why ≡ Torn) →
        Verdict p n (record { shape = r; follows = followed t })
    unfolding sound audit_follows whether◌then◌else◌
    tested t e s w = record {
      audit = record { exact = λ st l. rw (← f.exact st l) (e ∙ t.exact); shaped = s; torn = w };
      counted = λ st l. rw (← f.exact st l) t.follows;
      bounded = omega (arith, t.bounded, decode_pieces p);
    }
