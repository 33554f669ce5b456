-- The number that each call answers, what it was lent and its view, what a no leaves, and what open leaves. Assumes nothing.
use mathlib.Core.Path.{◌≡◌, refl, sym, ap, subst, ◌∙◌}
use mathlib.Core.Logic.{◌↔◌}
use mathlib.Core.Bool.{Bool, not, ◌&&◌}
use mathlib.Core.List.{List, [], ◌∷◌}
use Prim.Native.Nat.{ℕ, zero, suc, ◌≤◌, ◌<◌}
use native.Mathlib.Decide.{ℕ_discrete}
use native.Mathlib.Omega.{arith}
use lib.ListN.{length, get_or, length-replicate}
use lib.Dec.{T_not, not_T, eqb, eqb→eq, leb, leb→le}
use Rattle.rules.specs.Basics.{Is, places}
use Rattle.rules.specs.Tables.{Tables, blank, slip, serial, name_of, piece, buffer_count, slip_total, piece_total, buffer_total, fresh_tables}
use Rattle.rules.specs.Bytes.{decode, encode}
use Rattle.rules.specs.Chain.{Stretch, State, chain, spans, total, first_length, position_of}
use Rattle.rules.specs.Sound.{Lent, lent, counts_ok}
use Rattle.rules.specs.Room.{is_vacant, is_ready, ready_slips, new_slip}
use Rattle.rules.specs.Rule.{no_view}
use Rattle.rules.specs.Open.{openable}
use Rattle.rules.specs.Show.{scattered, view_of}
use Rattle.rules.specs.Step.{Operation, Audit, Put, Free, Dup, Cut, Append, Drop, Keep, Pullup, Pack, Length, Read, Show, WireList}
use Rattle.rules.specs.Step.{Call, Open, Do, rule, lent_out, lent_to, Result, step, state_in, done, next, left_by}
use Rattle.rules.specs.Answers.{Ready, NamesLowest, Answered, AnsweredBy, Numbers, Shown, Unseen, Seen, SeenBy, Outputs, Opened}
use Rattle.rules.proofs.Logic.{if_T, if_F, if_either, and_intro, and_0, and_1, eq→eqb, not_not}
use Rattle.rules.proofs.Moves.{SoundNow}
use Rattle.rules.proofs.Room.{first_in, all_free}
use Rattle.rules.proofs.Hang.{stretches_length}
use Rattle.rules.proofs.Contents.{Fit}
use Rattle.rules.proofs.Audit.{sound_now, fresh_sound, get_d_same}
use Rattle.rules.proofs.Codes.{Allowed, allowed, not_leb_is, no-cause}
use Rattle.rules.proofs.After.{reads_length}
use Rattle.rules.proofs.Read.{read_exact}
use Rattle.rules.proofs.Show.{show_length}
use Rattle.rules.proofs.List.{list_exact}
use Rattle.rules.proofs.Bytes.{counts_facts, decode_encode}
use Rattle.rules.proofs.Step.{alters_nothing, did, open_code, sized, sound_within}
use Rattle.rules.proofs.RoundTrip.{number_is, output_is}

-- ---- the lowest number

-- below the first of the numbers from i on that pass, none passes
first_lowest : (f : ℕ → Bool) (i k u : ℕ) → 0 < length (places f i k) → i ≤ u → u < get_or (places f i k) 0 0 → Is (f u) → ⊥
unfolding places
first_lowest f i zero u h a b = absurd (omega arith)
first_lowest f i (suc k) u h a b =
    if_either (λ (l : List ℕ). 0 < length l → u < get_or l 0 0 → Is (f u) → ⊥) (f i) (i ∷ places f (suc i) k) (places f (suc i) k)
    (λ _ _ l _. omega arith)
    (λ n g l t. elim (ℕ_discrete i u) [ yes e ↦ n (subst (λ x. Is (f x)) (sym e) t) | no e ↦ first_lowest f (suc i) k u g (omega arith) l t ])
    h b

-- a slip that may be given is vacant, and its serial is not the last
pub ready_is : (T : Tables) (t : ℕ) → Is (is_ready T t) ↔ Ready T t
ready_is T t =
    let v = is_vacant T t in
    let k = eqb (serial T t) 65535 in (
      λ r. (
          let a = and_0 v (not (v && k)) r in
          (a, λ e. T_not (v && k) (and_1 v (not (v && k)) r) (and_intro v k a (eq→eqb (serial T t) 65535 e)))),
      λ (a, n). and_intro v (not (v && k)) a (not_T (v && k) (λ q. n (eqb→eq (serial T t) 65535 (and_1 v k q)))),
    )

-- a new slip is the lowest that may be given, and it is answered with its serial
pub new_lowest : (T : Tables) → 0 < length (ready_slips T) → NamesLowest T (name_of T (new_slip T))
new_lowest T h =
    let t = new_slip T in
    let r = first_in (is_ready T) 0 (slip_total T) (ready_slips T) h (all_free (is_ready T) (slip_total T)) in (
      t,
      record { below = r.0; ready = (ready_is T t).0 r.1; lowest = λ u l q. first_lowest (is_ready T) 0 _ u h (omega arith) l ((ready_is T u).1 q) },
      refl,
    )

-- ---- every call

-- the number of a done operation on a sound pool
pub rule_answers : (o : Operation) (S : State) → SoundNow S.tables → Fit S.tables.stock (buffer_total S.tables) S.storage
    → Allowed (rule o S) S.tables → Answered o S (rule o S).number
unfolding rule
rule_answers Audit S h f a = refl
rule_answers (Put input) S h f a = new_lowest S.tables a.slips_room
rule_answers (Free s) S h f a = refl
rule_answers (Dup s) S h f a = new_lowest S.tables a.slips_room
rule_answers (Cut s off k) S h f a = new_lowest S.tables a.slips_room
rule_answers (Append x y) S h f a = refl
rule_answers (Drop s k) S h f a = refl
rule_answers (Keep s k) S h f a = refl
rule_answers (Pullup s k) S h f a = refl
rule_answers (Pack s) S h f a = refl
rule_answers (Length s) S h f a = sym (reads_length S h f s.slip)
rule_answers (Read s off k out) S h f a = refl
rule_answers (Show s k scratch) S h f a = refl
rule_answers (WireList s list) S h f a = stretches_length S.tables (chain S.tables s.slip)

open_answers : (B P S : ℕ) (m : Lent) → (step (Open B P S) m).number ≡ 0
unfolding step
open_answers B P S m = if_either (λ (x : Result). x.number ≡ 0) _ _ _ (λ _. refl) (λ _. refl)

done_answers : (c : Call) (m : Lent) → (step c m).code ≡ 0 → AnsweredBy c m (step c m).number
done_answers (Open B P S) m e = open_answers B P S m
done_answers (Do o) m e =
    let d = did o m e in
    let S = state_in m in
    subst (Answered o S) (sym (number_is o m e))
    (rule_answers o S (sound_now m d.was_sound) (sound_within m d.was_sound).storage_fits (allowed (rule o S) S.tables d.allowed_code))

-- Every call answers as callers are told.
pub numbers : (c : Call) (m : Lent) → Numbers c m (step c m)
numbers c m = record {
  when_done = done_answers c m;
  when_refused = λ n. (
      let e = alters_nothing c m n in
      record {
        number = ap (λ (x : Result). x.number) e;
        pool = ap (λ (x : Result). x.pool) e;
        storage = ap (λ (x : Result). x.storage) e;
        output = ap (λ (x : Result). x.output) e;
        in_scratch_lem = ap (λ (x : Result). x.view.in_scratch) e;
        start = ap (λ (x : Result). x.view.start) e;
      });
}

-- ---- the view

view_shown : (Z : List ℕ) (xs : List Stretch) (n : ℕ) → n ≤ total xs → Shown Z xs n (view_of Z xs n)
unfolding view_of total
view_shown Z [] n l =
    record { in_storage = omega arith; at_first = λ x ys e h k. absurd (omega arith); at_none = λ _. refl; in_scratch_lem = λ h. absurd (omega arith) }
view_shown Z (x ∷ xs) zero l =
    subst (Shown Z (x ∷ xs) 0) (sym (if_T (eqb 0 0) no_view _ tt))
    (record { in_storage = omega arith; at_first = λ y ys e h k. absurd (omega arith); at_none = λ _. refl; in_scratch_lem = λ h. absurd (omega arith) })
view_shown Z (x ∷ xs) (suc n) l =
    subst (Shown Z (x ∷ xs) (suc n)) (sym (if_F (eqb (suc n) 0) _ _ (λ t. omega (arith, eqb→eq (suc n) 0 t))))
    (if_either (Shown Z (x ∷ xs) (suc n)) (scattered (x ∷ xs) (suc n)) _ _
    (λ t. (
    let u = simp not_leb_is at t in
    record {
      in_storage = omega arith;
      at_first = λ y ys e h k. absurd (omega (arith, ap first_length e));
      at_none = λ e. absurd (omega arith);
      in_scratch_lem = λ _. (refl, refl);
    }))
    (λ t. (
    let u = leb→le (suc n) x.len (not_not (leb (suc n) x.len) t) in
    record {
      in_storage = omega arith;
      at_first = λ y ys e h k. ap (λ l. position_of Z (get_or l 0 x)) e;
      at_none = λ e. absurd (omega arith);
      in_scratch_lem = λ h. absurd (omega arith);
    })))

-- what a done operation on a sound pool shows, and how much it writes
module _ (S : State) (h : SoundNow S.tables) (f : Fit S.tables.stock (buffer_total S.tables) S.storage) where
  rule_seen : (o : Operation) → Allowed (rule o S) S.tables → Seen o S (rule o S).view
  unfolding rule
  rule_seen Audit a = (refl, refl)
  rule_seen (Put input) a = (refl, refl)
  rule_seen (Free s) a = (refl, refl)
  rule_seen (Dup s) a = (refl, refl)
  rule_seen (Cut s off n) a = (refl, refl)
  rule_seen (Append x y) a = (refl, refl)
  rule_seen (Drop s n) a = (refl, refl)
  rule_seen (Keep s n) a = (refl, refl)
  rule_seen (Pullup s n) a = (refl, refl)
  rule_seen (Pack s) a = (refl, refl)
  rule_seen (Length s) a = (refl, refl)
  rule_seen (Read s off n out) a = (refl, refl)
  rule_seen (Show s n scratch) a = (let c = simp no-cause at a.early in view_shown S.tables.stock (spans S.tables s.slip) n (omega arith))
  rule_seen (WireList s list) a = (refl, refl)

  rule_long : (o : Operation) → Allowed (rule o S) S.tables → length (rule o S).output ≡ length (lent_out o)
  unfolding rule
  rule_long Audit a = refl
  rule_long (Put input) a = refl
  rule_long (Free s) a = refl
  rule_long (Dup s) a = refl
  rule_long (Cut s off n) a = refl
  rule_long (Append x y) a = refl
  rule_long (Drop s n) a = refl
  rule_long (Keep s n) a = refl
  rule_long (Pullup s n) a = refl
  rule_long (Pack s) a = refl
  rule_long (Length s) a = refl
  rule_long (Read s off n out) a = (read_exact s off n out S h f a).as_long
  rule_long (Show s n scratch) a = show_length s n scratch S h f a
  rule_long (WireList s list) a = (list_exact s list S a).as_long

-- ---- what is lent, and what is seen

open_seen : (B P S : ℕ) (m : Lent) → Unseen (step (Open B P S) m).view
unfolding step
open_seen B P S m = if_either (λ (x : Result). Unseen x.view) _ _ _ (λ _. (refl, refl)) (λ _. (refl, refl))

open_long : (B P S : ℕ) (m : Lent) → length (step (Open B P S) m).output ≡ 0
unfolding step
open_long B P S m = if_either (λ (x : Result). length x.output ≡ 0) _ _ _ (λ _. refl) (λ _. refl)

done_seen : (c : Call) (m : Lent) → (step c m).code ≡ 0 → SeenBy c m (step c m).view
unfolding done
done_seen (Open B P S) m e = open_seen B P S m
done_seen (Do o) m e =
    let d = did o m e in
    let t = d.was_sound in
    let S = state_in m in
    subst (Seen o S) (sym (ap (λ (x : Result). x.view) d.result))
    (rule_seen S (sound_now m t) (sound_within m t).storage_fits o (allowed (rule o S) S.tables d.allowed_code))

call_long : (c : Call) (m : Lent) → length (step c m).output ≡ length (lent_to c)
call_long (Open B P S) m = open_long B P S m
call_long (Do o) m =
    elim (ℕ_discrete (step (Do o) m).code 0) [
      | yes e ↦ (
          let d = did o m e in
          let t = d.was_sound in
          let S = state_in m in
          ap length (output_is o m e) ∙ rule_long S (sound_now m t) (sound_within m t).storage_fits o (allowed (rule o S) S.tables d.allowed_code))
      | no e ↦ ap (λ (x : Result). length x.output) (alters_nothing (Do o) m e)
    ]

-- Every call gives back as much as it is lent, and only show has a view.
pub outputs : (c : Call) (m : Lent) → Outputs c m (step c m)
outputs c m = record { as_long = call_long c m; view_done = done_seen c m }

-- ---- open

open_next : (B P S : ℕ) (m : Lent) → Is (openable B P S m) → next (Open B P S) m ≡ lent (encode (fresh_tables B P S)) m.storage
unfolding step
open_next B P S m t = ap left_by (if_T (openable B P S m) _ _ t)

fresh_back : (B P S : ℕ) (m : Lent) → Is (openable B P S m) → decode (encode (fresh_tables B P S)) ≡ fresh_tables B P S
unfolding openable
fresh_back B P S m t =
    let k = counts_facts B P S (and_0 (counts_ok B P S) _ t) in
    let b = length-replicate {A = ℕ} B 0 in
    let p = length-replicate P blank in
    let s = length-replicate {A = ℕ} S 0 in
    decode_encode (fresh_tables B P S) (sized (fresh_tables B P S) (fresh_sound B P S) (omega arith) (omega arith) (omega arith) (ap (λ (n : ℕ). n ∷ []) (sym b))
    (record { small = λ i. subst (λ n. n < 65536) (sym (get_d_same {A = ℕ} S i 0)) (omega arith); fit = refl }))

-- A done open leaves an empty pool of the counts asked, and storage as it was.
pub opened : (B P S : ℕ) (m : Lent) → (step (Open B P S) m).code ≡ 0 → Opened B P S m (next (Open B P S) m)
opened B P S m e =
    let t = (open_code B P S m).0 e in
    let n = open_next B P S m t in
    let T : decode (next (Open B P S) m).pool ≡ fresh_tables B P S = ap (λ (x : Lent). decode x.pool) n ∙ fresh_back B P S m t in
    record {
      slips = ap slip_total T ∙ length-replicate {A = ℕ} S 0;
      pieces = ap piece_total T ∙ length-replicate P blank;
      buffers = ap buffer_total T ∙ length-replicate {A = ℕ} B 0;
      all_vacant = λ i. ap (λ X. slip X i) T ∙ get_d_same {A = ℕ} S i 0;
      all_first = λ i. ap (λ X. serial X i) T ∙ get_d_same {A = ℕ} S i 0;
      all_blank = λ i. ap (λ X. piece X i) T ∙ get_d_same P i blank;
      none_held = λ i. ap (λ X. buffer_count X i) T ∙ get_d_same {A = ℕ} B i 0;
      storage = ap (λ (x : Lent). x.storage) n;
    }
