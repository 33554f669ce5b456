-- When drop and pullup find no piece, by the own pieces of their slip. Assumes nothing.
use mathlib.Core.Path.{◌≡◌, refl, ap, ◌∙◌}
use mathlib.Core.Bool.{not}
use mathlib.Core.List.{List, [], ◌∷◌}
use Prim.Native.Nat.{ℕ, suc, ◌+◌, ◌≤◌, ◌<◌}
use native.Mathlib.Decide.{dec_lt}
use native.Mathlib.Omega.{arith}
use lib.ListN.{length}
use lib.Dec.{leb, leb→le, le→leb}
use Rattle.kinds.specs.declared.Refusal.TheVariants.{Torn}
use Rattle.rules.specs.Basics.{Is, whether◌then◌else◌}
use Rattle.rules.specs.Tables.{Tables}
use Rattle.rules.specs.Bytes.{decode}
use Rattle.rules.specs.Chain.{with_tables, spans, first_length, own_of}
use Rattle.rules.specs.Sound.{Lent, sound}
use Rattle.rules.specs.Rule.{Name, Wants, want, giving, ◌⇐◌}
use Rattle.rules.specs.Drop.{dropped, drop_back}
use Rattle.rules.specs.Pullup.{pullup_wants}
use Rattle.rules.specs.Step.{Operation, Do, Drop, Pullup, rule, state_in}
use Rattle.rules.specs.Recount.{recounted}
use Rattle.rules.specs.Demand.{early, wanted}
use Rattle.rules.specs.Full.{WantsPieces, DropFull, PullupFull, FullOk}
use Rattle.rules.proofs.Logic.{if_T, if_F, not_not}
use Rattle.rules.proofs.Moves.{SoundNow}
use Rattle.rules.proofs.Audit.{sound_now}
use Rattle.rules.proofs.Recount.{recounted_same}
use Rattle.rules.proofs.Codes.{first_zero}
use Rattle.rules.proofs.Drop.{drop_count, drop_back_lem}
use Rattle.rules.proofs.Back.{pieces_most, front_some, back_most, back_all}
use Rattle.rules.proofs.Demand.{call_ok}

-- where no code is judged before room, the pool is sound, and what is wanted is wanted of its own tables
module _ (o : Operation) (m : Lent) (e : early (Do o) m ≡ 0) where
  was_sound : Is (sound m)
  unfolding early
  was_sound = not_not (sound m) (first_zero (Torn ⇐ not (sound m)) (rule o (state_in m)).judged e).0

  abbrev was_now : SoundNow (decode m.pool)
  was_now = sound_now m was_sound

  wants_own : wanted (Do o) m ≡ (rule o (state_in m)).wants
  unfolding wanted
  wants_own = ap (λ (X : Tables). (rule o (with_tables (state_in m) X)).wants) (recounted_same (decode m.pool) was_now)

-- where nothing is own, nothing is given back
no_back : (ds es : List ℕ) → length ds ≤ length es → length es ≡ 0 → ds ≡ []
no_back [] es l z = refl
no_back (d ∷ ds) es l z = absurd (omega arith)

module _ (s : Name) (n : ℕ) (m : Lent) where
  abbrev T : Tables
  T = decode m.pool

  drop_wants : early (Do (Drop s n)) m ≡ 0 → wanted (Do (Drop s n)) m ≡ giving (drop_back T s.slip n) (length (dropped T s.slip n).more) 0
  unfolding rule
  drop_wants e = wants_own (Drop s n) m e

  pullup_wants_lem : WantsPieces (Do (Pullup s n)) m → (wanted (Do (Pullup s n)) m ≡ giving (drop_back T s.slip n) (suc (length (dropped T s.slip n).more)) 1) × (first_length (spans T s.slip) < n)
  unfolding rule pullup_wants
  pullup_wants_lem (e, l) =
      let w = wants_own (Pullup s n) m e in
      let k = first_length (spans T s.slip) in
      elim (dec_lt k n) [
        | yes i ↦ (w ∙ if_F (leb n k) (want 0 0 0) _ (λ t. omega (arith, leb→le n k t)), i)
        | no i ↦ absurd (omega (arith, ap (λ (x : Wants). x.pieces) (w ∙ if_T (leb n k) (want 0 0 0) (giving (drop_back T s.slip n) (suc (length (dropped T s.slip n).more)) 1) (le→leb n k (omega arith)))))
      ]

  drop_full : WantsPieces (Do (Drop s n)) m → DropFull s n m
  drop_full (e, l) =
      let c = Do (Drop s n) in
      let h = was_now (Drop s n) m e in
      let w = drop_wants e in
      let p = ap (λ (x : Wants). x.pieces) w in
      let b = ap (λ (x : Wants). x.back) w in
      let k = (call_ok c m (was_sound (Drop s n) m e)).pieces_full in
      record {
        own = λ o z. omega (arith, (k.0 z).2, p, ap {B = ℕ} length b, drop_count T s.slip n h, pieces_most T s.slip n, back_all T s.slip n h (omega arith));
        not_own = λ o. (
          b ∙ no_back (drop_back T s.slip n) (own_of T s.slip) (back_most T s.slip n h) o,
          (λ z. omega (arith, (k.0 z).2), λ z. k.1 (e, omega (arith, ap (λ (x : Wants). x.slips) w), omega (arith, ap {B = ℕ} length b, back_most T s.slip n h))),
        );
      }

  pullup_full : WantsPieces (Do (Pullup s n)) m → PullupFull s n m
  pullup_full (e, l) =
      let c = Do (Pullup s n) in
      let h = was_now (Pullup s n) m e in
      let (w, i) = pullup_wants_lem (e, l) in
      let p = ap (λ (x : Wants). x.pieces) w in
      let b = ap (λ (x : Wants). x.back) w in
      let z = ap (λ (x : Wants). x.slips) w in
      let k = (call_ok c m (was_sound (Pullup s n) m e)).pieces_full in
      record {
        own = λ o. (
          λ q. omega (arith, (k.0 q).2, p, ap {B = ℕ} length b, drop_count T s.slip n h, pieces_most T s.slip n, ap {B = ℕ} length (drop_back_lem T s.slip n h), front_some T s.slip n h i o),
          λ q. k.1 (e, omega (arith, z), omega (arith, q)),
        );
        not_own = λ o. (
          b ∙ no_back (drop_back T s.slip n) (own_of T s.slip) (back_most T s.slip n h) o,
          (λ q. omega (arith, (k.0 q).2), λ q. k.1 (e, omega (arith, z), omega (arith, ap {B = ℕ} length b, back_most T s.slip n h))),
        );
      }

-- Of any bytes.
pub full_ok : (s : Name) (n : ℕ) (m : Lent) → FullOk s n m
full_ok s n m = record { drop = drop_full s n m; pullup = pullup_full s n m }
