-- Any call on any bytes: a no alters nothing, a done call is its rule on bytes, and soundness is kept. Assumes nothing.
use mathlib.Core.Path.{◌≡◌, refl, sym, ap, ap₂, subst, ◌∙◌}
use mathlib.Core.Logic.{◌≢◌, ◌↔◌, ⊎_elim}
use mathlib.Core.Bool.{not}
use mathlib.Core.List.{List, [], ◌∷◌}
use Prim.Native.Nat.{ℕ, ◌≤◌, ◌<◌}
use native.Mathlib.Decide.{ℕ_discrete}
use native.Mathlib.Omega.{arith}
use lib.ListN.{length, length-replicate}
use lib.Dec.{eqb, eqb→eq, leb, le→leb}
use Rattle.kinds.specs.declared.Refusal.{Refusal}
use Rattle.kinds.specs.declared.Refusal.TheVariants.{Counts, Torn}
use Rattle.kinds.specs.Limits.{most_buffers, most_pieces, most_slips, counted}
use Rattle.kinds.specs.Refusal.{refusal_code}
use Rattle.rules.specs.Basics.{Is}
use Rattle.rules.specs.Layout.{storage_length}
use Rattle.rules.specs.Tables.{Tables, serial, slip_total, piece_total, buffer_total, blank, fresh_tables}
use Rattle.rules.specs.Bytes.{stock_in, decode, encode}
use Rattle.rules.specs.Chain.{State, reads, state_of}
use Rattle.rules.specs.Sound.{Lent, is_header_ok, sound_tables, sound, lent, counts_ok}
use Rattle.rules.specs.Storage.{Zeroed}
use Rattle.rules.specs.Room.{is_vacant, is_unheld}
use Rattle.rules.specs.Rule.{code_in}
use Rattle.rules.specs.Open.{openable}
use Rattle.rules.specs.Step.{Operation, Call, Open, Do, meaning, rule, lent_out, Result, refused, state_in, done, perform, step, next, lent_to, left_by}
use Rattle.rules.specs.After.{reads_after, vacant_after, vacates, serial_after}
use Rattle.rules.specs.Takes.{Took, target}
use Rattle.rules.proofs.Logic.{if_T, if_F, if_either, and_intro, and_0, eq→eqb, is_dec, and_parts}
use Rattle.rules.proofs.Moves.{SoundNow}
use Rattle.rules.proofs.Audit.{tables_pass, sound_now, fresh_sound, get_d_same}
use Rattle.rules.proofs.Codes.{Allowed, allowed, first_listed}
use Rattle.rules.proofs.Storage.{held_bytes}
use Rattle.rules.proofs.Lawful.{aged_size}
use Rattle.rules.proofs.Calls.{reads_ok, rule_bytes, rule_clean, rule_serials, rule_sizes, rule_sound, rule_storage, takes}
use Rattle.rules.proofs.Bounds.{small}
use Rattle.rules.proofs.Bytes.{Sized, header_facts, decode_slips, decode_serials, serial_small, decode_pieces, decode_counts, decode_encode, encode_header, and_is, eqb_is, InRange, counts_facts}

-- ---- the operation on a sound pool

pub perform_done : (o : Operation) (m : Lent) → code_in (rule o (state_in m)) (decode m.pool) ≡ 0 → perform o m ≡ done (rule o (state_in m))
unfolding perform
perform_done o m e = if_T (eqb (code_in (rule o (state_in m)) (decode m.pool)) 0) _ _ (eq→eqb _ 0 e)

pub perform_no : (o : Operation) (m : Lent) → code_in (rule o (state_in m)) (decode m.pool) ≢ 0 → perform o m ≡ refused (code_in (rule o (state_in m)) (decode m.pool)) m (lent_out o)
unfolding perform
perform_no o m n = if_F (eqb (code_in (rule o (state_in m)) (decode m.pool)) 0) _ _ (λ t. n (eqb→eq _ 0 t))

-- ---- a no

perform_refused : (o : Operation) (m : Lent) → (perform o m).code ≢ 0 → perform o m ≡ refused (perform o m).code m (lent_out o)
unfolding done
perform_refused o m h =
    elim (ℕ_discrete (code_in (rule o (state_in m)) (decode m.pool)) 0) [
      | yes z ↦ absurd (h (ap (λ (x : Result). x.code) (perform_done o m z)))
      | no z ↦ (let e = perform_no o m z in e ∙ ap (λ c. refused c m (lent_out o)) (sym (ap (λ (x : Result). x.code) e)))
    ]

-- A call that is not done answers its code and 0, and alters nothing.
pub alters_nothing : (c : Call) (m : Lent) → (step c m).code ≢ 0 → step c m ≡ refused (step c m).code m (lent_to c)
unfolding step
alters_nothing (Open B P S) m h =
    if_either (λ (x : Result). x.code ≢ 0 → x ≡ refused x.code m []) _ _ _ (λ _ n. absurd (n refl)) (λ _ _. refl) h
alters_nothing (Do o) m h =
    if_either (λ (x : Result). x.code ≢ 0 → x ≡ refused x.code m (lent_out o)) _ _ _
    (λ _ n. perform_refused o m n) (λ _ _. refl) h

-- ---- a call that is done

-- it found a sound pool, and is its rule
pub record Did (o : Operation) (m : Lent) : Type 0 where
  pub was_sound : Is (sound m)
  pub allowed_code : code_in (rule o (state_in m)) (decode m.pool) ≡ 0
  pub result : step (Do o) m ≡ done (rule o (state_in m))

pub step_sound_pool : (o : Operation) (m : Lent) → Is (sound m) → step (Do o) m ≡ perform o m
unfolding step
step_sound_pool o m t = if_T (sound m) (perform o m) (refused (refusal_code Torn) m (lent_out o)) t

pub step_torn : (o : Operation) (m : Lent) → (Is (sound m) → ⊥) → step (Do o) m ≡ refused (refusal_code Torn) m (lent_out o)
unfolding step
step_torn o m t = if_F (sound m) (perform o m) (refused (refusal_code Torn) m (lent_out o)) t

-- where the pool is sound, the code is the rule's
pub code_is : (o : Operation) (m : Lent) → Is (sound m) → (step (Do o) m).code ≡ code_in (rule o (state_in m)) (decode m.pool)
unfolding done
code_is o m t =
    let c = code_in (rule o (state_in m)) (decode m.pool) in
    ap (λ (x : Result). x.code) (step_sound_pool o m t)
    ∙ elim (ℕ_discrete c 0) [ yes z ↦ ap (λ (x : Result). x.code) (perform_done o m z) ∙ sym z | no z ↦ ap (λ (x : Result). x.code) (perform_no o m z) ]

pub did : (o : Operation) (m : Lent) → (step (Do o) m).code ≡ 0 → Did o m
did o m e =
    ⊎_elim
    (λ t. (
    let z = sym (code_is o m t) ∙ e in
    record { was_sound = t; allowed_code = z; result = step_sound_pool o m t ∙ perform_done o m z }))
    (λ n. absurd (let q = ap (λ (x : Result). x.code) (step_torn o m n) in omega arith))
    (is_dec (sound m))

-- open is done exactly where its counts and both lengths fit
pub open_code : (B P S : ℕ) (m : Lent) → ((step (Open B P S) m).code ≡ 0) ↔ Is (openable B P S m)
unfolding step
open_code B P S m =
    if_either (λ (x : Result). (x.code ≡ 0) ↔ Is (openable B P S m)) (openable B P S m) _ _
    (λ t. (λ _. t, λ _. refl)) (λ n. (λ z. absurd (omega arith), λ t. absurd (n t)))

open_listed : (B P S : ℕ) (m : Lent) → (step (Open B P S) m).code ≢ 0 → (r : Refusal) × ((step (Open B P S) m).code ≡ refusal_code r)
unfolding step
open_listed B P S m =
    if_either (λ (x : Result). x.code ≢ 0 → (r : Refusal) × (x.code ≡ refusal_code r)) (openable B P S m) _ _ (λ _ n. absurd (n refl)) (λ _ _. (Counts, refl))

-- A code other than 0 is one of the list.
pub code_listed : (c : Call) (m : Lent) → (step c m).code ≢ 0 → (r : Refusal) × ((step c m).code ≡ refusal_code r)
code_listed (Open B P S) m n = open_listed B P S m n
code_listed (Do o) m n =
    ⊎_elim
    (λ t. (
    let e = code_is o m t in
    let r = first_listed _ (λ z. n (e ∙ z)) in
    (r.0, e ∙ r.1)))
    (λ t. (Torn, ap (λ (x : Result). x.code) (step_torn o m t)))
    (is_dec (sound m))

-- ---- soundness in bytes

-- each slip has its serial, which fits 16 bits
pub record Serialled (T : Tables) : Type 0 where
  pub small : (t : ℕ) → serial T t < 65536
  pub fit : length T.serials ≡ slip_total T

-- every entry of sound tables within the limits fits 16 bits
pub sized : (T : Tables) → SoundNow T → buffer_total T ≤ most_buffers → piece_total T ≤ most_pieces → slip_total T ≤ most_slips → T.stock ≡ buffer_total T ∷ []
    → Serialled T → Sized T
sized T h b p s k₀ r =
    let k = small T h in
    record {
      slips_small = λ i. omega (arith, k.slips_small i);
      serials_small = r.small;
      serials_fit = r.fit;
      pieces_small = λ d. omega (arith, k.counts_small d, k.buffers_small d, k.places_small d, k.nexts_small d);
      counts_small = λ i. omega (arith, k.buffer_counts_small i);
      few_slips = omega arith;
      few_pieces_lem = omega arith;
      few_buffers_lem = omega arith;
      stock_is = k₀;
    }

counted_is : (most n : ℕ) → 1 ≤ n → n ≤ most → Is (counted most n)
counted_is most n a b = and_intro (leb 1 n) (leb n most) (le→leb 1 n a) (le→leb n most b)

-- the sizes that open takes
pub record Within (T : Tables) (st : List ℕ) : Type 0 where
  pub counts : InRange (buffer_total T) (piece_total T) (slip_total T)
  pub storage_fits : length st ≡ storage_length T.stock (buffer_total T)
  pub stock_is : T.stock ≡ buffer_total T ∷ []
  pub serialled : Serialled T

pub within_sized : {T : Tables} {st : List ℕ} → SoundNow T → Within T st → Sized T
within_sized {T} h w = (let c = w.counts in sized T h c.most_buffers_lem c.most_pieces_lem c.most_slips_lem w.stock_is w.serialled)

-- the bytes of sound tables are a sound pool
pub encode_sound : (T : Tables) (st : List ℕ) → SoundNow T → Within T st → Is (sound (lent (encode T) st))
unfolding sound
encode_sound T st h w =
    let z = within_sized h w in
    and_intro (is_header_ok (lent (encode T) st)) (sound_tables (decode (encode T)))
    (encode_header T st z w.counts w.storage_fits)
    (subst (λ X. Is (sound_tables X)) (sym (decode_encode T z)) (tables_pass T h))

-- a sound pool is within the sizes
pub sound_within : (m : Lent) → Is (sound m) → Within (decode m.pool) m.storage
unfolding sound decode
sound_within m t =
    let h = header_facts m (and_0 (is_header_ok m) (sound_tables (decode m.pool)) t) in
    let b = decode_counts m.pool in
    let p = decode_pieces m.pool in
    let s = decode_slips m.pool in
    record {
      counts = omega (arith, h.counts);
      storage_fits = h.storage_long ∙ ap (storage_length (stock_in m.pool)) (sym b);
      stock_is = ap (λ (n : ℕ). n ∷ []) (sym b);
      serialled = record { small = serial_small m.pool; fit = decode_serials m.pool ∙ sym s };
    }

-- an operation that is done leaves the sizes
pub rule_within : (o : Operation) (S : State) → SoundNow S.tables → Allowed (rule o S) S.tables → Within S.tables S.storage
    → Within (rule o S).after.tables (rule o S).after.storage
unfolding serial_after
rule_within o S h a w =
    let z = rule_sizes o S in
    let b = z.counts_size in
    let p = z.pieces_size in
    let s = z.slips_size in
    record {
      counts = omega (arith, w.counts);
      storage_fits = rule_storage o S h w.storage_fits a ∙ w.storage_fits ∙ ap₂ storage_length (sym z.stock_kept) (sym b);
      stock_is = z.stock_kept ∙ w.stock_is ∙ ap (λ (n : ℕ). n ∷ []) (sym b);
      serialled = record {
        small = λ t. subst (λ n. n < 65536) (sym (rule_serials o S a w.serialled.fit t))
            (if_either (λ (n : ℕ). n < 65536) (vacates o S t) _ _ (λ _. omega arith) (λ _. w.serialled.small t));
        fit = ap length z.serials_kept ∙ aged_size ((meaning o).changes S) S.tables.serials ∙ w.serialled.fit ∙ sym s;
      };
    }

-- The pool that a done open writes is sound.
pub open_sound : (B P S : ℕ) (m : Lent) → Is (openable B P S m) → Is (sound (lent (encode (fresh_tables B P S)) m.storage))
unfolding openable
open_sound B P S m t =
    let (c, l) = and_parts (counts_ok B P S) _ t in
    let f = simp (and_is, eqb_is) at l in
    let k = counts_facts B P S c in
    let b = length-replicate {A = ℕ} B 0 in
    let p = length-replicate P blank in
    let s = length-replicate {A = ℕ} S 0 in
    encode_sound (fresh_tables B P S) m.storage (fresh_sound B P S) (record {
      counts = omega arith;
      storage_fits = f.1 ∙ ap (storage_length (B ∷ [])) (sym b);
      stock_is = ap (λ (n : ℕ). n ∷ []) (sym b);
      serialled = record {
        small = λ t. subst (λ n. n < 65536) (sym (get_d_same {A = ℕ} S t 0)) (omega arith);
        fit = length-replicate {A = ℕ} S 0 ∙ sym s;
      };
    })

-- ---- every call

-- after an operation that is done, the bytes hold what its rule says
pub after_state : (o : Operation) (m : Lent) → (step (Do o) m).code ≡ 0 → state_in (next (Do o) m) ≡ (rule o (state_in m)).after
unfolding done
after_state o m e =
    let d = did o m e in
    let S = state_in m in
    let t = sound_now m d.was_sound in
    let a = allowed (rule o S) S.tables d.allowed_code in
    let h = rule_sound o S t a in
    let w = rule_within o S t a (sound_within m d.was_sound) in
    let back : decode (encode (rule o S).after.tables) ≡ (rule o S).after.tables = decode_encode (rule o S).after.tables (within_sized h w) in
    ap (λ (x : Result). state_in (left_by x)) d.result ∙ (λ i. state_of (back i) (rule o S).after.storage)

pub next_refused : (c : Call) (m : Lent) → (step c m).code ≢ 0 → next c m ≡ m
next_refused c m n = ap left_by (alters_nothing c m n)

keeps_done : (o : Operation) (m : Lent) → (step (Do o) m).code ≡ 0 → Is (sound (next (Do o) m))
unfolding done
keeps_done o m e =
    let d = did o m e in
    let S = state_in m in
    let t = sound_now m d.was_sound in
    let a = allowed (rule o S) S.tables d.allowed_code in
    let h = rule_sound o S t a in
    let w = rule_within o S t a (sound_within m d.was_sound) in
    subst (λ (x : Result). Is (sound (left_by x))) (sym d.result) (encode_sound (rule o S).after.tables (rule o S).after.storage h w)

open_keeps : (B P S : ℕ) (m : Lent) → Is (sound m) → Is (sound (next (Open B P S) m))
unfolding step
open_keeps B P S m t =
    if_either (λ (x : Result). Is (sound (left_by x))) (openable B P S m) _ _ (λ o. open_sound B P S m o) (λ _. t)

-- A done open leaves a sound pool, whatever was there before.
pub opened_sound : (B P S : ℕ) (m : Lent) → (step (Open B P S) m).code ≡ 0 → Is (sound (next (Open B P S) m))
unfolding step
opened_sound B P S m e =
    if_either (λ (x : Result). x.code ≡ 0 → Is (sound (left_by x))) (openable B P S m) _ _ (λ o _. open_sound B P S m o) (λ _ z. absurd (omega arith)) e

-- Soundness is kept by every call, done or refused.
pub step_keeps : (c : Call) (m : Lent) → Is (sound m) → Is (sound (next c m))
step_keeps (Open B P S) m t = open_keeps B P S m t
step_keeps (Do o) m t =
    elim (ℕ_discrete (step (Do o) m).code 0) [
      | yes e ↦ keeps_done o m e
      | no n ↦ subst (λ x. Is (sound x)) (sym (next_refused (Do o) m n)) t
    ]

-- ---- what slips read, in bytes

pub slips_read : (o : Operation) (m : Lent) → (step (Do o) m).code ≡ 0 → (t : ℕ) → reads (state_in (next (Do o) m)) t ≡ reads_after o (state_in m) t
slips_read o m e t =
    let d = did o m e in
    let S = state_in m in
    ap (λ (x : State). reads x t) (after_state o m e)
    ∙ (reads_ok o S (sound_now m d.was_sound) (sound_within m d.was_sound).storage_fits (allowed (rule o S) S.tables d.allowed_code)).bytes t

pub slips_vacant : (o : Operation) (m : Lent) → (step (Do o) m).code ≡ 0 → (t : ℕ) → is_vacant (decode (next (Do o) m).pool) t ≡ vacant_after o (state_in m) t
slips_vacant o m e t =
    let d = did o m e in
    let S = state_in m in
    ap (λ (x : State). is_vacant x.tables t) (after_state o m e)
    ∙ (reads_ok o S (sound_now m d.was_sound) (sound_within m d.was_sound).storage_fits (allowed (rule o S) S.tables d.allowed_code)).vacancy t

pub slips_serial : (o : Operation) (m : Lent) → (step (Do o) m).code ≡ 0 → (t : ℕ) → serial (decode (next (Do o) m).pool) t ≡ serial_after o (state_in m) t
slips_serial o m e t =
    let d = did o m e in
    let S = state_in m in
    ap (λ (x : State). serial x.tables t) (after_state o m e)
    ∙ rule_serials o S (allowed (rule o S) S.tables d.allowed_code) (sound_within m d.was_sound).serialled.fit t

-- ---- what is taken, in bytes

pub slips_took : (o : Operation) (m : Lent) → (step (Do o) m).code ≡ 0
    → Took (decode m.pool) (decode (next (Do o) m).pool) (rule o (state_in m)).wants (target o (state_in m))
slips_took o m e =
    let d = did o m e in
    let S = state_in m in
    subst (λ (X : State). Took S.tables X.tables (rule o S).wants (target o S)) (sym (after_state o m e))
    (takes o S (sound_now m d.was_sound) (allowed (rule o S) S.tables d.allowed_code))

-- ---- bytes that stay

-- A done operation leaves every byte of a buffer that is held before and after it, or free before and after it.
pub bytes_stay : (o : Operation) (m : Lent) → (step (Do o) m).code ≡ 0 → (b : ℕ) → b < buffer_total (decode m.pool)
    → is_unheld (decode (next (Do o) m).pool) b ≡ is_unheld (decode m.pool) b
    → held_bytes (decode m.pool) (next (Do o) m).storage b ≡ held_bytes (decode m.pool) m.storage b
bytes_stay o m e b l u =
    let d = did o m e in
    let S = state_in m in
    let T = S.tables in
    subst (λ (X : State). is_unheld X.tables b ≡ is_unheld T b → held_bytes T X.storage b ≡ held_bytes T S.storage b) (sym (after_state o m e))
    (rule_bytes o S (sound_now m d.was_sound) (sound_within m d.was_sound).storage_fits (allowed (rule o S) T d.allowed_code) b l) u

-- It leaves zeros in a buffer that it gives back: one that is held before it, and free after it.
pub given_back_zero : (o : Operation) (m : Lent) → (step (Do o) m).code ≡ 0 → (b : ℕ) → b < buffer_total (decode m.pool)
    → Is (not (is_unheld (decode m.pool) b)) → Is (is_unheld (decode (next (Do o) m).pool) b) → Zeroed (decode m.pool).stock (next (Do o) m).storage b
given_back_zero o m e b l =
    let d = did o m e in
    let S = state_in m in
    let T = S.tables in
    subst (λ (X : State). Is (not (is_unheld T b)) → Is (is_unheld X.tables b) → Zeroed T.stock X.storage b) (sym (after_state o m e))
    (rule_clean o S (sound_now m d.was_sound) (sound_within m d.was_sound).storage_fits (allowed (rule o S) T d.allowed_code) b l)
