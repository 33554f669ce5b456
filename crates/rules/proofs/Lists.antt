-- What a slip reads after any list of calls that spares it. Assumes nothing.
use mathlib.Core.Path.{◌≡◌, refl, sym, ap, subst, ◌∙◌}
use mathlib.Core.Logic.{◌≢◌, ⊎_elim}
use mathlib.Core.Bool.{not}
use mathlib.Core.List.{List, [], ◌∷◌, ◌++◌}
use Prim.Native.Nat.{ℕ, ◌≤◌}
use native.Mathlib.Decide.{ℕ_discrete}
use native.Mathlib.Omega.{arith}
use lib.ListN.{length, take, drop}
use lib.Seq.{take-length}
use Rattle.rules.specs.Basics.{Is}
use Rattle.rules.specs.Tables.{serial}
use Rattle.rules.specs.Bytes.{decode}
use Rattle.rules.specs.Chain.{reads}
use Rattle.rules.specs.Sound.{Lent}
use Rattle.rules.specs.Room.{is_vacant}
use Rattle.rules.specs.Rule.{Name, answered}
use Rattle.rules.specs.Read.{copied}
use Rattle.rules.specs.Open.{openable}
use Rattle.rules.specs.Step.{Audit, Put, Free, Dup, Cut, Append, Drop, Keep, Pullup, Pack, Length, Read, Show, WireList}
use Rattle.rules.specs.Step.{Call, Open, Do, rule, step, state_in, next, after_calls}
use Rattle.rules.specs.Lists.{Spared, Spares}
use Rattle.rules.proofs.Step.{did, next_refused, open_code, step_keeps}
use Rattle.rules.proofs.RoundTrip.{number_is, output_is, others_read, others_held, others_serials, held_named, gave_held, gave_serial, put_gave, put_answers, read_done}
use Rattle.rules.proofs.Demand.{calls_sound}

-- after m₁, slip t is held, with the serial that it has in m, and reads as in m
abbrev Left : ℕ → Lent → Lent → Type 0
Left t m m₁ = (reads (state_in m₁) t ≡ reads (state_in m) t) × Is (not (is_vacant (decode m₁.pool) t)) × (serial (decode m₁.pool) t ≡ serial (decode m.pool) t)

-- one call
call_read : (t : ℕ) (c : Call) (m : Lent) → Is (not (is_vacant (decode m.pool) t)) → Spared t c m → Left t m (next c m)
call_read t (Open B P S) m v s = subst (Left t m) (sym (next_refused (Open B P S) m s)) (refl, v, refl)
call_read t (Do o) m v s =
    elim (ℕ_discrete (step (Do o) m).code 0) [
      | yes e ↦ (others_read o m e t s v, others_held o m e t s v, others_serials o m e t s v)
      | no e ↦ subst (Left t m) (sym (next_refused (Do o) m e)) (refl, v, refl)
    ]

-- After any list of calls that spares a held slip, the slip is held, with its serial, and reads as before.
pub calls_read : (t : ℕ) (cs : List Call) (m : Lent) → Is (not (is_vacant (decode m.pool) t)) → Spares t cs m
    → (reads (state_in (after_calls cs m)) t ≡ reads (state_in m) t) × Is (not (is_vacant (decode (after_calls cs m).pool) t))
    × (serial (decode (after_calls cs m).pool) t ≡ serial (decode m.pool) t)
calls_read t [] m v s = (refl, v, refl)
calls_read t (c ∷ cs) m v s =
    let (r, w, k) = call_read t c m v s.0 in
    let (q, z, l) = calls_read t cs (next c m) w s.1 in
    (q ∙ r, z, l ∙ k)

-- What was put is read again by the name that put answered, whatever calls that spare its slip come between.
pub put_calls_read : (input out : List ℕ) (m : Lent) (cs : List Call) → (step (Do (Put input)) m).code ≡ 0
    → let x = answered (step (Do (Put input)) m).number in
    Spares x.slip cs (next (Do (Put input)) m) → length input ≤ length out
    → let r = step (Do (Read x 0 (length input) out)) (after_calls cs (next (Do (Put input)) m)) in
    (r.code ≡ 0) × (r.number ≡ length input) × (r.output ≡ input ++ drop (length input) out)
unfolding rule
put_calls_read input out m cs e s l =
    let x = answered (step (Do (Put input)) m).number in
    let m₁ = next (Do (Put input)) m in
    let g = put_gave input m in
    let (r, v, k) = calls_read x.slip cs m₁ (gave_held (Put input) m input e g) s in
    let q = r ∙ put_answers input m e in
    let ok = calls_sound cs m₁ (step_keeps (Do (Put input)) m (did (Put input) m e).was_sound) in
    let named = held_named (decode (after_calls cs m₁).pool) x v (k ∙ gave_serial (Put input) m input e g) in
    let c = read_done x 0 (length input) out (after_calls cs m₁) ok named (omega (arith, ap length q)) l in
    (c, number_is _ _ c, output_is _ _ c ∙ ap (λ xs. copied xs out) (ap (take (length input)) q ∙ take-length input))

-- Every call on the slips of s and r, and an open that is refused, spares any third slip.
pub spares_others : (t : ℕ) (s r : Name) (off n : ℕ) (xs : List ℕ) (m : Lent) → t ≢ s.slip → t ≢ r.slip
    → Spares t (Do Audit ∷ Do (Put xs) ∷ Do (Free s) ∷ Do (Dup s) ∷ Do (Cut s off n) ∷ Do (Append s r) ∷ Do (Drop s n) ∷ Do (Keep s n) ∷ Do (Pullup s n)
    ∷ Do (Pack s) ∷ Do (Length s) ∷ Do (Read s off n xs) ∷ Do (Show s n xs) ∷ Do (WireList s xs) ∷ Open 0 6 4 ∷ []) m
unfolding openable
spares_others t s r off n xs m a b =
    (λ x. x, (λ x. x, (a, (a, (a, (⊎_elim a b, (a, (a, (a, (a, (a, (a, (a, (a, (λ e. (open_code 0 6 4 _).0 e, tt)))))))))))))))
