-- What a call leaves in the buffers: those that it neither takes nor gives back keep every byte, and those that it gives back are zero. Assumes nothing.
use mathlib.Core.Path.{◌≡◌, refl, sym, ap, subst, ◌∙◌}
use mathlib.Core.Logic.{◌↔◌, ⊎_elim}
use mathlib.Core.List.{List}
use Prim.Native.Nat.{ℕ, ◌<◌}
use native.Mathlib.Decide.{ℕ_discrete}
use native.Mathlib.Omega.{arith}
use lib.ListN.{length}
use lib.Dec.{eqb→eq, not_T}
use Rattle.rules.specs.Basics.{Is}
use Rattle.rules.specs.Tables.{Tables, buffer_count, buffer_total}
use Rattle.rules.specs.Bytes.{decode}
use Rattle.rules.specs.Chain.{State, bytes_of}
use Rattle.rules.specs.Storage.{whole_of}
use Rattle.rules.specs.Sound.{Lent, lent, sound}
use Rattle.rules.specs.Room.{is_unheld}
use Rattle.rules.specs.Rule.{Name}
use Rattle.rules.specs.Step.{Operation, Audit, Append, Call, Open, Do, rule, Result, step, state_in, left_by, next}
use Rattle.rules.specs.Clean.{Unused, LeavesOthers, CleansBack}
use Rattle.rules.proofs.Logic.{if_either, is_dec, same_test, eq→eqb}
use Rattle.rules.proofs.Audit.{sound_now, sound_by_length}
use Rattle.rules.proofs.Recount.{recount}
use Rattle.rules.proofs.Codes.{allowed, both_named}
use Rattle.rules.proofs.Append.{append_holds}
use Rattle.rules.proofs.Calls.{rule_sizes}
use Rattle.rules.proofs.Step.{code_is, step_torn, did, after_state, next_refused, step_keeps}
use Rattle.rules.proofs.Step.{bytes_stay, given_back_zero}

-- ---- by the recount

-- a buffer is free by its stored count just where the recount finds no reference
unused_is : (m : Lent) → Is (sound m) → (b : ℕ) → b < buffer_total (decode m.pool) → Is (is_unheld (decode m.pool) b) ↔ Unused b m
unused_is m t b l =
    let e = (recount (decode m.pool) (sound_now m t)).buffer_counts b l in
    (λ u. sym e ∙ eqb→eq _ 0 u, λ z. eq→eqb _ 0 (e ∙ z))

-- a done operation leaves as many buffers, of the same sizes
pub same_stock : (o : Operation) (m : Lent) → (step (Do o) m).code ≡ 0 → ((decode (next (Do o) m).pool).stock ≡ (decode m.pool).stock)
    × (buffer_total (decode (next (Do o) m).pool) ≡ buffer_total (decode m.pool))
same_stock o m e =
    let z = rule_sizes o (state_in m) in
    let a = ap (λ (X : State). X.tables) (after_state o m e) in
    (ap (λ (T : Tables). T.stock) a ∙ z.stock_kept, ap buffer_total a ∙ z.counts_size)

-- ---- one call

-- Open touches no storage.
pub opened_storage : (B P S : ℕ) (m : Lent) → (next (Open B P S) m).storage ≡ m.storage
unfolding step
opened_storage B P S m = if_either (λ (r : Result). (left_by r).storage ≡ m.storage) _ _ _ (λ _. refl) (λ _. refl)

-- A buffer that a call neither takes nor gives back keeps every byte.
pub others_keep : (c : Call) (m : Lent) → LeavesOthers c m
others_keep (Open B P S) m b l u = ap (λ (q : List ℕ). bytes_of (decode m.pool).stock q (whole_of (decode m.pool).stock b)) (opened_storage B P S m)
others_keep (Do o) m b l u =
    elim (ℕ_discrete (step (Do o) m).code 0) [
      | yes e ↦ (
          let t = (did o m e).was_sound in
          let m' = next (Do o) m in
          let was = unused_is m t b l in
          let now = unused_is m' (step_keeps (Do o) m t) b (omega (arith, (same_stock o m e).1)) in
          bytes_stay o m e b l
          (same_test (is_unheld (decode m'.pool) b) (is_unheld (decode m.pool) b) (λ x. was.1 (u.1 (now.0 x))) (λ x. now.1 (u.0 (was.0 x)))))
      | no e ↦ ap (λ (x : Lent). bytes_of (decode m.pool).stock x.storage (whole_of (decode m.pool).stock b)) (next_refused (Do o) m e)
    ]

-- A buffer that a call gives back is zero.
pub back_cleaned : (c : Call) (m : Lent) → CleansBack c m
back_cleaned (Open B P S) m n b l u w =
    absurd (u (subst (Unused b) (next_refused (Open B P S) m (n B P S refl)) w))
back_cleaned (Do o) m n b l u w =
    elim (ℕ_discrete (step (Do o) m).code 0) [
      | yes e ↦ (
          let t = (did o m e).was_sound in
          given_back_zero o m e b l (not_T (is_unheld (decode m.pool) b) (λ x. u ((unused_is m t b l).0 x)))
          ((unused_is (next (Do o) m) (step_keeps (Do o) m t) b (omega (arith, (same_stock o m e).1))).1 w))
      | no e ↦ absurd (u (subst (Unused b) (next_refused (Do o) m e) w))
    ]

-- An audit answers the same whatever bytes storage holds.
pub audit_by_length : (p st st' : List ℕ) → length st ≡ length st' → (step (Do Audit) (lent p st)).code ≡ (step (Do Audit) (lent p st')).code
unfolding rule
audit_by_length p st st' e =
    let same = sound_by_length p st st' e in
    ⊎_elim
    (λ t. code_is Audit (lent p st) t ∙ sym (code_is Audit (lent p st') (subst Is same t)))
    (λ n. ap (λ (x : Result). x.code) (step_torn Audit (lent p st) n)
    ∙ sym (ap (λ (x : Result). x.code) (step_torn Audit (lent p st') (λ t. n (subst Is (sym same) t)))))
    (is_dec (sound (lent p st)))

-- Append gives no buffer back, and leaves every byte of storage.
pub append_cleans_none : (x y : Name) (m : Lent) → ((next (Do (Append x y)) m).storage ≡ m.storage)
    × ((b : ℕ) → b < buffer_total (decode m.pool) → Unused b (next (Do (Append x y)) m) → Unused b m)
unfolding rule
append_cleans_none x y m =
    let o = Append x y in
    elim (ℕ_discrete (step (Do o) m).code 0) [
      | yes e ↦ (
          let d = did o m e in
          let t = d.was_sound in
          let S = state_in m in
          let T = S.tables in
          let ((la, _), (lb, _), ne) = both_named T x y (allowed (rule o S) T d.allowed_code).early in
          let (same, held) = append_holds x.slip y.slip S ne la lb (sound_now m t) in
          let after = after_state o m e in (
            ap (λ (X : State). X.storage) after ∙ same,
            λ b l w. elim (ℕ_discrete (buffer_count T b) 0) [
              | yes z ↦ (unused_is m t b l).0 (eq→eqb _ 0 z)
              | no z ↦ absurd (omega (
                arith,
                held b (omega arith),
                ap (λ (X : State). buffer_count X.tables b) after,
                eqb→eq (buffer_count (decode (next (Do o) m).pool) b) 0
                    ((unused_is (next (Do o) m) (step_keeps (Do o) m t) b (omega (arith, (same_stock o m e).1))).1 w),
              ))
            ],
          ))
      | no e ↦ (let q = next_refused (Do o) m e in (ap (λ (x : Lent). x.storage) q, λ b l w. subst (Unused b) q w))
    ]
