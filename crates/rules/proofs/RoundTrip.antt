-- What the answered slips and all other slips read, and that what is put, or listed, is read again, in bytes. Assumes nothing.
use mathlib.Core.Path.{◌≡◌, refl, sym, ap, ap₂, subst, ◌∙◌}
use mathlib.Core.Bool.{Bool, false, not, ◌&&◌}
use mathlib.Core.List.{List, [], ◌∷◌, ◌++◌}
use Prim.Native.Nat.{ℕ, ◌+◌, ◌*◌, ◌/◌, ◌%◌, ◌≤◌, ◌<◌}
use native.Mathlib.Decide.{dec_lt}
use native.Mathlib.Omega.{arith}
use lib.ListN.{length, take, drop}
use lib.Seq.{take-length}
use lib.Dec.{eqb, ltb, ltb→lt, lt→ltb, T_not, not_T}
use Rattle.kinds.specs.declared.Refusal.TheVariants.{Slip, Range, Narrow}
use Rattle.kinds.specs.Serial.{older, name_with}
use Rattle.rules.specs.Basics.{Is, whether◌then◌else◌}
use Rattle.rules.specs.Tables.{Tables, slip, serial, name_of, slip_total, buffer_total}
use Rattle.rules.specs.Bytes.{decode}
use Rattle.rules.specs.Chain.{spans, total, length_of, reads}
use Rattle.rules.specs.Sound.{Lent, sound}
use Rattle.rules.specs.Room.{is_vacant, new_slip}
use Rattle.rules.specs.Rule.{◌⇐◌, Name, name, answered, unnamed, room, Change, reading}
use Rattle.rules.specs.Read.{copied}
use Rattle.rules.specs.Gather.{gather}
use Rattle.rules.specs.Step.{Operation, Put, Dup, Cut, Read, WireList, Do, meaning, rule, Result, state_in, done, step, next}
use Rattle.rules.specs.After.{changed, reads_after, vacant_after, vacates, serial_after, Names}
use Rattle.rules.proofs.Logic.{and_intro, not_zero, eq→eqb, if_F, if_either}
use Rattle.rules.proofs.Moves.{in_range}
use Rattle.rules.proofs.Room.{new_slip_ok}
use Rattle.rules.proofs.Chain.{spans_good}
use Rattle.rules.proofs.Audit.{sound_now}
use Rattle.rules.proofs.Codes.{first_zero, first_yes, first_no, first_none, none_full, allowed, no-cause}
use Rattle.rules.proofs.After.{at_here, reads_length}
use Rattle.rules.proofs.List.{list_exact}
use Rattle.rules.proofs.Gather.{gather_records, gather_short}
use Rattle.rules.proofs.Calls.{others_same, others_serial}
use Rattle.rules.proofs.Step.{alters_nothing, code_is, did, sound_within, step_keeps, slips_read, slips_vacant, slips_serial}

-- ---- what a done call answers

-- its number and its output are its rule's
pub number_is : (o : Operation) (m : Lent) → (step (Do o) m).code ≡ 0 → (step (Do o) m).number ≡ (rule o (state_in m)).number
unfolding done
number_is o m e = ap (λ (x : Result). x.number) (did o m e).result

pub output_is : (o : Operation) (m : Lent) → (step (Do o) m).code ≡ 0 → (step (Do o) m).output ≡ (rule o (state_in m)).output
unfolding done
output_is o m e = ap (λ (x : Result). x.output) (did o m e).result

-- the name that a number answers is the slip and the serial of which it is made
pub answered_is : (t k : ℕ) → t < 65536 → answered (name_with t k) ≡ name t k
answered_is t k l =
    let a : (t + 65536 * k) % 65536 ≡ t = omega arith in
    let b : (t + 65536 * k) / 65536 ≡ k = omega arith in
    λ i. name (a i) (b i)

-- a name is good where its slip is held, with its serial
pub held_named : (T : Tables) (x : Name) → Is (not (is_vacant T x.slip)) → serial T x.slip ≡ x.serial → Is (not (unnamed T x))
held_named T x v e =
    let s = x.slip in
    let l = in_range T.slips 0 (λ n. n) s refl (not_zero (slip T s) (T_not (is_vacant T s) v)) in
    let k = eqb (serial T s) x.serial in
    let b = ltb s (slip_total T) && (not (is_vacant T s) && k) in
    not_T (unnamed T x)
    (λ u. T_not b u (and_intro (ltb s (slip_total T)) (not (is_vacant T s) && k) (lt→ltb s (slip_total T) l) (and_intro (not (is_vacant T s)) k v (eq→eqb (serial T s) x.serial e))))

-- where a slip comes to read something, no serial moves
reading_serial : (o : Operation) (m : Lent) (s : ℕ) (xs : List ℕ) → (meaning o).changes (state_in m) ≡ reading s xs ∷ [] → (step (Do o) m).code ≡ 0
    → (t : ℕ) → serial (decode (next (Do o) m).pool) t ≡ serial (decode m.pool) t
unfolding serial_after vacates
reading_serial o m s xs c e t =
    let k = serial (decode m.pool) t in
    slips_serial o m e t
    ∙ ap (λ (cs : List Change). whether changed (λ (x : Change). x.vacated) cs (λ u. false) t then older k else k) c
    ∙ if_F (whether eqb t s then false else false) _ _ (if_either (λ (b : Bool). Is b → ⊥) (eqb t s) false false (λ _ z. z) (λ _ z. z))

-- A done call that answers a new slip, which reads xs.
pub record Gave (o : Operation) (m : Lent) (xs : List ℕ) : Type 0 where
  pub changes_is : (meaning o).changes (state_in m) ≡ reading (new_slip (decode m.pool)) xs ∷ []
  pub number_named : (rule o (state_in m)).number ≡ name_of (decode m.pool) (new_slip (decode m.pool))
  pub wants_slip : 1 ≤ (rule o (state_in m)).wants.slips

module _ (o : Operation) (m : Lent) (xs : List ℕ) (e : (step (Do o) m).code ≡ 0) (g : Gave o m xs) where
  abbrev was : Tables
  was = decode m.pool

  abbrev will : Tables
  will = decode (next (Do o) m).pool

  -- the slip answered is the new one, with its serial
  pub gave_name : answered (step (Do o) m).number ≡ name (new_slip was) (serial was (new_slip was))
  gave_name =
      let d = did o m e in
      let a = allowed (rule o (state_in m)) was d.allowed_code in
      let l = (new_slip_ok was (omega (arith, a.slips_room, g.wants_slip))).0 in
      let c = (sound_within m d.was_sound).counts.most_slips_lem in
      ap answered (number_is o m e ∙ g.number_named) ∙ answered_is (new_slip was) (serial was (new_slip was)) (omega arith)

  -- it reads xs
  pub gave_reads : reads (state_in (next (Do o) m)) (answered (step (Do o) m).number).slip ≡ xs
  unfolding reads_after
  gave_reads =
      slips_read o m e _ ∙ ap (λ (cs : List Change). changed (λ (c : Change). c.bytes) cs (reads (state_in m)) (answered (step (Do o) m).number).slip) g.changes_is
      ∙ at_here (new_slip was) _ xs (reads (state_in m)) (ap (λ (x : Name). x.slip) gave_name)

  pub gave_held : Is (not (is_vacant will (answered (step (Do o) m).number).slip))
  unfolding vacant_after
  gave_held =
      subst (λ b. Is (not b))
      (sym (slips_vacant o m e _ ∙ ap (λ (cs : List Change). changed (λ (c : Change). c.vacated) cs (is_vacant was) (answered (step (Do o) m).number).slip) g.changes_is
      ∙ at_here (new_slip was) _ false (is_vacant was) (ap (λ (x : Name). x.slip) gave_name))) tt

  pub gave_serial : serial will (answered (step (Do o) m).number).slip ≡ (answered (step (Do o) m).number).serial
  gave_serial =
      let x = answered (step (Do o) m).number in
      reading_serial o m (new_slip was) xs g.changes_is e x.slip ∙ ap (λ (y : Name). serial was y.slip) gave_name ∙ sym (ap (λ (y : Name). y.serial) gave_name)

  -- and the name is good
  pub gave_named : Is (not (unnamed will (answered (step (Do o) m).number)))
  gave_named = held_named will (answered (step (Do o) m).number) gave_held gave_serial

pub put_gave : (input : List ℕ) (m : Lent) → Gave (Put input) m input
unfolding rule
put_gave input m = record { changes_is = refl; number_named = refl; wants_slip = omega arith }

pub dup_gave : (s : Name) (m : Lent) → Gave (Dup s) m (reads (state_in m) s.slip)
unfolding rule
dup_gave s m = record { changes_is = refl; number_named = refl; wants_slip = omega arith }

pub cut_gave : (s : Name) (off n : ℕ) (m : Lent) → Gave (Cut s off n) m (take n (drop off (reads (state_in m) s.slip)))
unfolding rule
cut_gave s off n m = record { changes_is = refl; number_named = refl; wants_slip = omega arith }

-- the slip that put answers reads the input
pub put_answers : (input : List ℕ) (m : Lent) → (step (Do (Put input)) m).code ≡ 0
    → reads (state_in (next (Do (Put input)) m)) (answered (step (Do (Put input)) m).number).slip ≡ input
put_answers input m e = gave_reads (Put input) m input e (put_gave input m)

-- the slip that dup answers reads what s reads
pub dup_answers : (s : Name) (m : Lent) → (step (Do (Dup s)) m).code ≡ 0
    → reads (state_in (next (Do (Dup s)) m)) (answered (step (Do (Dup s)) m).number).slip ≡ reads (state_in m) s.slip
dup_answers s m e = gave_reads (Dup s) m _ e (dup_gave s m)

-- the slip that cut answers reads the n bytes of s from off on
pub cut_answers : (s : Name) (off n : ℕ) (m : Lent) → (step (Do (Cut s off n)) m).code ≡ 0
    → reads (state_in (next (Do (Cut s off n)) m)) (answered (step (Do (Cut s off n)) m).number).slip ≡ take n (drop off (reads (state_in m) s.slip))
cut_answers s off n m e = gave_reads (Cut s off n) m _ e (cut_gave s off n m)

-- ---- what is put is read again

-- a read of a good name, within its bytes and the output, is done
pub read_done : (s : Name) (off n : ℕ) (out : List ℕ) (m : Lent) → Is (sound m) → Is (not (unnamed (decode m.pool) s)) → off + n ≤ length (reads (state_in m) s.slip) → n ≤ length out
    → (step (Do (Read s off n out)) m).code ≡ 0
unfolding rule
read_done s off n out m t v r l =
    let k = reads_length (state_in m) (sound_now m t) (sound_within m t).storage_fits s.slip in
    code_is (Read s off n out) m t ∙ simp no-cause (v, omega (arith, first_none))

-- what was put is read again by the name that put answered
pub put_read : (input out : List ℕ) (m : Lent) → (step (Do (Put input)) m).code ≡ 0 → length input ≤ length out
    → let x = answered (step (Do (Put input)) m).number in
    ((step (Do (Read x 0 (length input) out)) (next (Do (Put input)) m)).code ≡ 0)
    × ((step (Do (Read x 0 (length input) out)) (next (Do (Put input)) m)).output ≡ input ++ drop (length input) out)
unfolding rule
put_read input out m e l =
    let x = answered (step (Do (Put input)) m).number in
    let q = put_answers input m e in
    let t = step_keeps (Do (Put input)) m (did (Put input) m e).was_sound in
    let c = read_done x 0 (length input) out (next (Do (Put input)) m) t (gave_named (Put input) m input e (put_gave input m)) (omega (arith, ap length q)) l in
    (c, output_is _ _ c ∙ ap (λ xs. copied xs out) (ap (take (length input)) q ∙ take-length input))

-- ---- what list lists is read by gather

-- List, then gather over just the records written and the same storage, gives what read gives of the whole chain: code, number and output.
pub list_gather : (s : Name) (list out : List ℕ) (m : Lent) → (step (Do (WireList s list)) m).code ≡ 0
    → let w = step (Do (WireList s list)) m in
    let r = step (Do (Read s 0 (length_of (decode m.pool) s.slip) out)) m in
    gather m.storage (take (2 * w.number) w.output) out ≡ record { code = r.code; number = r.number; output = r.output }
unfolding rule
list_gather s list out m e =
    let T = decode m.pool in
    let S = state_in m in
    let xs = spans T s.slip in
    let n = total xs in
    let o = Read s 0 n out in
    let d = did (WireList s list) m e in
    let t = d.was_sound in
    let a = allowed (rule (WireList s list) S) T d.allowed_code in
    let named = (first_zero (Slip ⇐ unnamed T s) _ a.early).0 in
    let in_range : Is (ltb n (0 + n)) → ⊥ = λ q. omega (arith, ltb→lt n (0 + n) q) in
    let f = (sound_within m t).storage_fits in
    let g = spans_good T s.slip (sound_now m t) in
    let written = ap₂ (λ (k : ℕ) (l : List ℕ). take (2 * k) l) (number_is (WireList s list) m e) (output_is (WireList s list) m e) ∙ (list_exact s list S a).front in
    let judged = code_is o m t ∙ first_no (Slip ⇐ unnamed T s) _ named ∙ first_no (Range ⇐ ltb n (0 + n)) _ in_range in
    ap (λ (l : List ℕ). gather m.storage l out) written
    ∙ elim (dec_lt (length out) n) [
      | yes h ↦ (
          let c = judged ∙ first_yes (Narrow ⇐ ltb (length out) n) _ (lt→ltb (length out) n h) in
          let r = alters_nothing (Do o) m (λ z. omega arith) in
          gather_short T.stock (buffer_total T) m.storage out xs f g h ∙ sym (λ i. record { code = c i; number = (r i).number; output = (r i).output }))
      | no h ↦ (
          let l : n ≤ length out = omega arith in
          let c = judged ∙ first_no (Narrow ⇐ ltb (length out) n) _ (λ q. omega (arith, ltb→lt (length out) n q)) ∙ none_full (room T) in
          let whole : take n (reads S s.slip) ≡ reads S s.slip =
          ap (λ (k : ℕ). take k (reads S s.slip)) (sym (reads_length S (sound_now m t) f s.slip)) ∙ take-length (reads S s.slip) in
          gather_records T.stock (buffer_total T) m.storage out xs f g l
          ∙ sym (λ i. record { code = c i; number = number_is o m c i; output = (output_is o m c ∙ ap (λ (q : List ℕ). copied q out) whole) i }))
    ]

-- ---- the slips that a call does not name

module _ (o : Operation) (m : Lent) (e : (step (Do o) m).code ≡ 0) (t : ℕ) (n : Names o t → ⊥) (v : Is (not (is_vacant (decode m.pool) t))) where
  -- every held slip that a done call does not name reads as before
  pub others_read : reads (state_in (next (Do o) m)) t ≡ reads (state_in m) t
  others_read = slips_read o m e t ∙ (others_same o (state_in m) (allowed _ _ (did o m e).allowed_code) t n v).0

  -- and it stays held
  pub others_held : Is (not (is_vacant (decode (next (Do o) m).pool) t))
  others_held = subst (λ b. Is (not b)) (sym (slips_vacant o m e t ∙ (others_same o (state_in m) (allowed _ _ (did o m e).allowed_code) t n v).1)) v

  -- with its serial
  pub others_serials : serial (decode (next (Do o) m).pool) t ≡ serial (decode m.pool) t
  others_serials = slips_serial o m e t ∙ others_serial o (state_in m) (allowed _ _ (did o m e).allowed_code) t n v
