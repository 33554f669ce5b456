-- How often next is followed: never more than P times, and exactly P times where no chain meets itself. Assumes nothing.
use Rattle.std.specs.Prelude.{Result, Err, is_ok}
use mathlib.Core.Path.{◌≡◌, refl, sym, ◌∙◌}
use mathlib.Core.Logic.{⊎_elim}
use mathlib.Core.Bool.{true, false, ◌&&◌}
use Prim.Native.Nat.{ℕ, zero, suc, ◌≤◌, ◌<◌}
use native.Mathlib.Omega.{arith}
use lib.Dec.{eqb, eqb→eq}
use Rattle.rules.specs.Basics.{Is, bit}
use Rattle.rules.specs.Tables.{Tables, piece, piece_total}
use Rattle.rules.specs.Bytes.{pieces_in, decode}
use Rattle.rules.specs.Chain.{follow}
use Rattle.rules.specs.Sound.{Lent, is_header_ok, acyclic, sound_tables, sound}
use Rattle.rules.proofs.Logic.{bit_T, bit_one, is_true, is_false, is_dec, eq→eqb, and_0, and_1, and_intro, all_intro, all_at, any_intro, any_at}
use Rattle.rules.proofs.Logic.{if_T, if_F, if_either}
use Rattle.rules.proofs.Sums.{sum_to_same, sum_to_one, sum_to_ones}
use Rattle.rules.proofs.Bytes.{decode_pieces}
use Rattle.counts.specs.Ranges.{references_ok}
use Rattle.counts.proofs.Ranges.{references_torn, references_held}
use Rattle.audit.specs.Follows.{followed, ends_from, meets, walked_from, is_met, follows_of, tables_follows, Tested, audit_follows}

-- one follow more
pub follow_last : (T : Tables) (k n d : ℕ) → follow T k n ≡ suc d → follow T (suc k) n ≡ (piece T d).next
unfolding follow
follow_last T zero zero d h = absurd (omega arith)
follow_last T zero (suc e) d h = (let q : e ≡ d = omega arith in rw q refl)
follow_last T (suc k) zero d h = absurd (omega arith)
follow_last T (suc k) (suc e) d h = follow_last T k (piece T e).next d h

module _ (T : Tables) where
  -- what a walk from piece d comes to is met
  pub met_by : (d e k : ℕ) → d < piece_total T → ((i : ℕ) → i < d → Is (ends_from T i)) → k < piece_total T → follow T k (suc d) ≡ suc e → Is (is_met T e)
  unfolding is_met walked_from meets
  met_by d e k l before m h =
      any_intro (piece_total T) (λ d. walked_from T d && meets T d e) d l
      (and_intro (walked_from T d) (meets T d e) (all_intro d (ends_from T) before)
      (any_intro (piece_total T) (λ k. eqb (follow T k (suc d)) (suc e)) k m (eq→eqb _ _ h)))

  -- and what is met, some walk comes to
  pub met_from : (e : ℕ) → Is (is_met T e) → (d : ℕ) × (k : ℕ) × (d < piece_total T) × ((i : ℕ) → i < d → Is (ends_from T i)) × (follow T k (suc d) ≡ suc e)
  unfolding is_met walked_from meets
  met_from e t =
      let (d, l, both) = any_at (piece_total T) (λ d. walked_from T d && meets T d e) t in
      let (k, m, h) = any_at (piece_total T) (λ k. eqb (follow T k (suc d)) (suc e)) (and_1 (walked_from T d) (meets T d e) both) in
      (d, k, l, all_at d (ends_from T) (and_0 (walked_from T d) (meets T d e) both), eqb→eq _ _ h)

  -- at most P follows
  pub follows_most : follows_of T ≤ piece_total T
  unfolding follows_of
  follows_most = sum_to_ones (piece_total T) (λ e. bit (is_met T e)) (λ e. bit_one (is_met T e))

  -- where no chain meets itself, next is followed once from every piece
  pub follows_all : Is (acyclic T) → follows_of T ≡ piece_total T
  unfolding follows_of acyclic follow
  follows_all t =
      sum_to_same (piece_total T) (λ e. bit (is_met T e)) (λ _. 1)
      (λ e l. bit_T (is_met T e) (met_by e e 0 l (λ i m. all_at (piece_total T) (ends_from T) t i (omega arith)) (omega arith) refl))
      ∙ sum_to_one (piece_total T)

  -- the tables' test follows next only where every entry and count is right
  tables_none : references_ok T ≡ false → tables_follows T ≡ 0
  unfolding tables_follows
  tables_none q = if_F (references_ok T) (follows_of T) 0 (λ t. rw q at t)

  tables_all : references_ok T ≡ true → tables_follows T ≡ follows_of T
  unfolding tables_follows
  tables_all q = if_T (references_ok T) (follows_of T) 0 (rw q tt)

  -- what the tables' test answers, where an entry or a count is wrong and where all are right
  pub tested_torn : references_ok T ≡ false → Tested T (Err 0)
  tested_torn q = record { exact = references_torn T q; follows = sym (tables_none q); bounded = omega arith }

  pub tested_held : references_ok T ≡ true → {r : Result ℕ ℕ} → is_ok r ≡ acyclic T → followed r ≡ follows_of T → followed r ≤ piece_total T → Tested T r
  tested_held q e f l = record { exact = e ∙ references_held T q; follows = f ∙ sym (tables_all q); bounded = l }

-- the audit follows next at most P times, whatever the pool
pub audit_most : (m : Lent) → audit_follows m ≤ pieces_in m.pool
unfolding audit_follows tables_follows
audit_most m =
    let T = decode m.pool in
    let Few : ℕ → Type 0 = λ n. n ≤ pieces_in m.pool in
    if_either Few (is_header_ok m) (tables_follows T) 0
    (λ _. if_either Few (references_ok T) (follows_of T) 0 (λ _. omega (arith, follows_most T, decode_pieces m.pool)) (λ _. omega arith))
    (λ _. omega arith)

-- and of a sound pool exactly P times
pub audit_all : (m : Lent) → Is (sound m) → audit_follows m ≡ pieces_in m.pool
unfolding sound audit_follows
audit_all m t =
    let T = decode m.pool in
    let s = and_1 (is_header_ok m) (sound_tables T) t in
    if_T (is_header_ok m) (tables_follows T) 0 (and_0 (is_header_ok m) (sound_tables T) t)
    ∙ ⊎_elim
    (λ q. tables_all T (is_true _ q) ∙ follows_all T (rw (references_held T (is_true _ q)) s) ∙ decode_pieces m.pool)
    (λ q. absurd (rw (← references_torn T (is_false _ q)) at s))
    (is_dec (references_ok T))
