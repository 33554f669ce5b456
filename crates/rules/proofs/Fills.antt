-- The bytes of a filled buffer, and that new buffers hold what was stored and then zeros. Assumes nothing.
use mathlib.Core.Path.{◌≡◌, refl, sym, ap, ap₂, subst, ◌∙◌}
use mathlib.Core.Bool.{Bool, not, ◌&&◌}
use mathlib.Core.List.{List, [], ◌∷◌, ◌++◌, append_assoc, append-nil}
use Prim.Native.Nat.{ℕ, suc, ◌+◌, ◌-◌, ◌*◌, ◌≤◌, ◌<◌}
use native.Mathlib.Decide.{dec_lt}
use native.Mathlib.Omega.{arith}
use lib.ListN.{length, get_or, take, drop, replicate, length-append, length-take, length-drop, length-replicate, take-append-drop, get_or-replicate}
use lib.ListN.{replicate-append-replicate, drop_of_length-le, get_or-append, get_or-eq_default}
use lib.Seq.{take_all, take_at, drop_at, get_or-take, get_or-append-add}
use lib.Dec.{eqb→eq, leb, leb→le, T_not}
use Rattle.kinds.specs.Limits.{buffer_size}
use Rattle.kinds.specs.Sizes.{size_of, start_of}
use Rattle.kinds.proofs.Sizes.{start_step, size_one}
use Rattle.rules.specs.Basics.{Is}
use Rattle.rules.specs.Tables.{Tables, buffer_count, slip_total, buffer_total}
use Rattle.rules.specs.Bytes.{decode}
use Rattle.rules.specs.Chain.{Stretch, State, chain, spans, total, first_length, length_of, bytes_of, contents, reads, with_storage}
use Rattle.rules.specs.Sound.{Lent}
use Rattle.rules.specs.Room.{is_unheld, free_pieces, free_buffers, new_buffers}
use Rattle.rules.specs.Storage.{filled_at, filled, whole_of}
use Rattle.rules.specs.Build.{Plan, plain, under_old, under_freed, buffers_for, laid, stored}
use Rattle.rules.specs.Rule.{Wants, want, giving}
use Rattle.rules.specs.Put.{put_after}
use Rattle.rules.specs.Drop.{dropped, drop_back}
use Rattle.rules.specs.Pullup.{pulled, pullup_after, pullup_wants}
use Rattle.rules.specs.Pack.{pack_after, pack_wants}
use Rattle.rules.specs.Step.{Operation, Audit, Put, Free, Dup, Cut, Append, Drop, Keep, Pullup, Pack, Length, Read, Show, WireList}
use Rattle.rules.specs.Step.{Do, rule, state_in, step, next}
use Rattle.rules.specs.Takes.{took_buffers}
use Rattle.rules.specs.Still.{Still}
use Rattle.rules.specs.Fills.{wholes, Filled, fills}
use Rattle.rules.proofs.Logic.{if_both, and_1, not_zero, not_most}
use Rattle.rules.proofs.Moves.{SoundNow}
use Rattle.rules.proofs.Build.{Planned, plain_planned}
use Rattle.rules.proofs.Room.{AllIn, above_not, all_free, new_buffers_in, free_pieces_lem}
use Rattle.rules.proofs.Contents.{Fit, padded, padded_length, filled_length, filled_whole, stored_other}
use Rattle.rules.proofs.Audit.{sound_now}
use Rattle.rules.proofs.Codes.{Allowed, allowed, no-cause, first_named}
use Rattle.rules.proofs.Sizes.{made_sizes, new_length}
use Rattle.rules.proofs.Storage.{Keeps, old_keeps}
use Rattle.rules.proofs.After.{reads_length}
use Rattle.rules.proofs.Freed.{emptied_keeps}
use Rattle.rules.proofs.Put.{new_good}
use Rattle.rules.proofs.Pullup.{pulled_planned}
use Rattle.rules.proofs.Calls.{takes}
use Rattle.rules.proofs.Step.{after_state, did, slips_took, sound_within}

-- ---- one buffer

padded_at : (z : ℕ) (xs : List ℕ) (i : ℕ) → i < z → get_or (padded z xs) i 0 ≡ get_or xs i 0
unfolding padded
padded_at z xs i h =
    elim (dec_lt i (length xs)) [
      | yes l ↦ get_or-append (take z xs) _ 0 i (rw length-take (omega arith)) ∙ get_or-take z xs i 0 h
      | no l ↦ (
          let e : i ≡ length (take z xs) + (i - length xs) = rw length-take (omega arith) in
          ap (λ j. get_or (take z xs ++ replicate (z - length xs) 0) j 0) e ∙ get_or-append-add (take z xs) (replicate (z - length xs) 0) (i - length xs) 0
          ∙ get_or-replicate {A = ℕ} (z - length xs) (i - length xs) 0 0 (omega arith) ∙ sym (get_or-eq_default xs 0 {n = i} (omega arith)))
    ]

module _ (Z st : List ℕ) (b : ℕ) (xs : List ℕ) (r : start_of Z b + size_of Z b ≤ length st) where
  -- byte i of a filled buffer is byte i of what it is filled with, and 0 past the end of that
  pub filled_inside : (i : ℕ) → i < size_of Z b → get_or (filled Z st b xs) (start_of Z b + i) 0 ≡ get_or xs i 0
  unfolding filled_at padded
  filled_inside i h =
      let p = take (start_of Z b) st in
      let l : start_of Z b + i ≡ length p + i = simp length-take (omega arith) in
      ap (λ j. get_or (filled Z st b xs) j 0) l ∙ get_or-append-add p _ i 0
      ∙ get_or-append (padded (size_of Z b) xs) _ 0 i (omega (arith, padded_length (size_of Z b) xs)) ∙ padded_at (size_of Z b) xs i h

-- ---- buffers in a row

-- zeros after the first z bytes, and then the others and zeros
padded_more : (z k : ℕ) (xs : List ℕ) → length xs ≤ z + k
    → padded z xs ++ (drop z xs ++ replicate (k - length (drop z xs)) 0) ≡ xs ++ replicate (z + k - length xs) 0
unfolding padded
padded_more z k xs h =
    let d = length-drop z xs in
    elim (dec_lt (length xs) z) [
      | yes l ↦ (
          let e : z - length xs + (k - 0) ≡ z + k - length xs = omega arith in
          rw (take_all z xs (omega arith), drop_of_length-le xs {i = z} (omega arith), append_assoc, replicate-append-replicate, e))
      | no l ↦ (
          let e : z - length xs ≡ 0 = omega arith in
          let g : k - length (drop z xs) ≡ z + k - length xs = omega arith in
          rw (e, g, append-nil)
          (sym (append_assoc (take z xs) (drop z xs) _) ∙ ap (λ (q : List ℕ). q ++ replicate (z + k - length xs) 0) (take-append-drop z xs)))
    ]

pub stored_filled : (Z : List ℕ) (f : ℕ → Bool) (i B : ℕ) (bs st xs : List ℕ) → AllIn f i B bs → Fit Z B st → length xs ≤ total (wholes Z bs)
    → Filled Z (stored Z st bs xs) bs xs
unfolding contents stored wholes total
stored_filled Z f i B [] st [] a s h = refl
stored_filled Z f i B [] st (x ∷ xs) a s h = absurd (omega arith)
stored_filled Z f i B (b ∷ bs) st xs a s h =
    let z = size_of Z b in
    let st₁ = filled Z st b xs in
    let xs₁ = drop z xs in
    let s₁ : Fit Z B st₁ = filled_length Z B st b xs s a.1 ∙ s in
    let x : Stretch = record { buffer = b; offset = 0; len = z } in
    let p = stored_other Z f (suc b) B bs st₁ xs₁ x a.3 s₁ a.1 (omega arith) (above_not f (suc b) B b bs (omega arith) a.3) in
    let q = filled_whole Z B st b xs s a.1 in
    let r = stored_filled Z f (suc b) B bs st₁ xs₁ a.3 s₁ (omega (arith, length-drop z xs)) in
    ap₂ ◌++◌ (p ∙ q) r ∙ padded_more z (total (wholes Z bs)) xs h

-- how many bytes whole buffers have
wholes_total : (Z bs : List ℕ) → total (wholes Z bs) ≡ buffer_size * length bs
unfolding wholes total
wholes_total Z [] = refl
wholes_total Z (b ∷ bs) = omega (arith, size_one Z b, wholes_total Z bs)

-- ---- what a release leaves

-- where references are released, buffers that are not set free have the bytes that they had
kept_wholes : {S S' : State} (Z : List ℕ) (f : ℕ → Bool) (i B : ℕ) (bs : List ℕ) → S.tables.stock ≡ Z → buffer_total S.tables ≡ B → Keeps S S'
    → AllIn f i B bs → ((b : ℕ) → Is (f b) → 0 < buffer_count S.tables b → 0 < buffer_count S'.tables b) → contents Z S'.storage (wholes Z bs) ≡ contents Z S.storage (wholes Z bs)
unfolding contents wholes
kept_wholes Z f i B [] e l k a u = refl
kept_wholes {S} {S'} Z f i B (b ∷ bs) e l k a u =
    ap₂ ◌++◌
    (subst (λ (Y : List ℕ). bytes_of Y S'.storage (whole_of Y b) ≡ bytes_of Y S.storage (whole_of Y b)) e
    (k.others b (omega (arith, a.1)) (u b a.2)))
    (kept_wholes Z f (suc b) B bs e l k a.3 u)

-- ---- every call

module _ (S : State) (f : Fit S.tables.stock (buffer_total S.tables) S.storage) where
  -- k new buffers hold what is stored on them and then zeros
  new_filled : (k : ℕ) (xs : List ℕ) → k ≤ length (free_buffers S.tables) → length xs ≤ buffer_size * k
      → Filled S.tables.stock (stored S.tables.stock S.storage (new_buffers S.tables k) xs) (new_buffers S.tables k) xs
  new_filled k xs r l =
      let T = S.tables in
      stored_filled T.stock (is_unheld T) 0 (buffer_total T) (new_buffers T k) S.storage xs (new_buffers_in T k) f
      (omega (arith, wholes_total T.stock (new_buffers T k), length-take k (free_buffers T)))

  -- and they still do once a chain on them has come under slip s, and the old one is released
  hung_filled : (k : ℕ) (xs : List ℕ) (p : Plan) (s : ℕ) → Planned S.tables p → s < slip_total S.tables
      → let X = under_old (with_storage S (stored S.tables.stock S.storage (new_buffers S.tables k) xs)) p (free_pieces S.tables) s in
      took_buffers S.tables X.tables ≡ new_buffers S.tables k → k ≤ length (free_buffers S.tables) → length xs ≤ buffer_size * k
      → Filled S.tables.stock X.storage (new_buffers S.tables k) xs
  hung_filled k xs p s h b e r l =
      let T = S.tables in
      let bs = new_buffers T k in
      let S₁ = with_storage S (stored T.stock S.storage bs xs) in
      let T' = (under_old S₁ p (free_pieces T) s).tables in
      let taken : ℕ → Bool = λ x. is_unheld T x && not (is_unheld T' x) in
      let z = made_sizes p (free_pieces T) h in
      kept_wholes T.stock taken 0 (buffer_total T) bs z.stock_kept z.counts_size
      (old_keeps S₁ p (free_pieces T) s h (free_pieces_lem T) b (new_length S k xs f ∙ f))
      (subst (AllIn taken 0 (buffer_total T)) e (all_free taken (buffer_total T)))
      (λ x t _. not_zero (buffer_count T' x) (T_not (is_unheld T' x) (and_1 (is_unheld T x) _ t)))
      ∙ new_filled k xs r l

  -- or where the old chain is released first
  freed_filled : (k : ℕ) (xs : List ℕ) (p : Plan) (s : ℕ) → Planned S.tables p → s < slip_total S.tables → k ≤ length (free_buffers S.tables) → length xs ≤ buffer_size * k
      → Filled S.tables.stock (under_freed (with_storage S (stored S.tables.stock S.storage (new_buffers S.tables k) xs)) p s).storage (new_buffers S.tables k) xs
  unfolding under_freed
  freed_filled k xs p s h b r l =
      let T = S.tables in
      let bs = new_buffers T k in
      let S₁ = with_storage S (stored T.stock S.storage bs xs) in
      kept_wholes T.stock (is_unheld T) 0 (buffer_total T) bs h.still.kept.stock_kept h.still.kept.counts_size
      (emptied_keeps S₁ p s h b (new_length S k xs f ∙ f)) (new_buffers_in T k)
      (λ x t u. absurd (omega (arith, eqb→eq (buffer_count T x) 0 t, ap (λ (q : List ℕ). get_or q x 0) h.still.counts_still)))
      ∙ new_filled k xs r l

-- no new buffers hold nothing
none_filled : (Z st : List ℕ) (T : Tables) → Filled Z st (new_buffers T 0) []
unfolding contents wholes total
none_filled Z st T = refl

-- After a done operation with something to do, its new buffers hold what it stores and then zeros.
pub rule_fills : (o : Operation) (S : State) → SoundNow S.tables → Fit S.tables.stock (buffer_total S.tables) S.storage
    → Allowed (rule o S) S.tables → (Still o S → ⊥)
    → Filled S.tables.stock (rule o S).after.storage (new_buffers S.tables (rule o S).wants.buffers) (fills o S)
unfolding rule put_after pullup_after pullup_wants pack_after pack_wants
rule_fills Audit S h f a n = none_filled _ _ S.tables
rule_fills (Put input) S h f a n = new_filled S f (buffers_for (length input)) input a.buffers_room (omega arith)
rule_fills (Free s) S h f a n = none_filled _ _ S.tables
rule_fills (Dup s) S h f a n = none_filled _ _ S.tables
rule_fills (Cut s off k) S h f a n = none_filled _ _ S.tables
rule_fills (Append x y) S h f a n = none_filled _ _ S.tables
rule_fills (Drop s k) S h f a n = none_filled _ _ S.tables
rule_fills (Keep s k) S h f a n = none_filled _ _ S.tables
rule_fills (Pullup s k) S h f a n =
    let T = S.tables in
    let t = s.slip in
    let i = simp no-cause at a.early in
    let front = take k (reads S t) in
    if_both
    (λ (X : State) (w : Wants). w.buffers ≤ length (free_buffers T) → Filled T.stock X.storage (new_buffers T w.buffers) front)
    (leb k (first_length (spans T t))) _ _ (want 0 0 0) (giving (drop_back T t k) (suc (length (dropped T t k).more)) 1)
    (λ z. absurd (n (leb→le k (first_length (spans T t)) z)))
    (λ z r. freed_filled S f 1 front (pulled T t k) t (pulled_planned T t k (omega (arith, not_most k (first_length (spans T t)) z)) h)
    (first_named T s _ a.early).0 r (omega (arith, length-take k (reads S t))))
    a.buffers_room
rule_fills (Pack s) S h f a n =
    let T = S.tables in
    let t = s.slip in
    let k = buffers_for (length_of T t) in
    let xs = laid T.stock (new_buffers T k) (length_of T t) in
    if_both
    (λ (X : State) (w : Wants). took_buffers T X.tables ≡ new_buffers T w.buffers → w.buffers ≤ length (free_buffers T)
    → Filled T.stock X.storage (new_buffers T w.buffers) (reads S t))
    (leb (length (chain T t)) 1) _ _ (want 0 0 0) (want 0 k k)
    (λ z. absurd (n (leb→le (length (chain T t)) 1 z)))
    (λ _ e r. hung_filled S f k (reads S t) (plain T xs) t (plain_planned T xs (new_good T (length_of T t)) h)
    (first_named T s _ a.early).0 e r (omega (arith, reads_length S h f t)))
    (takes (Pack s) S h a).buffers a.buffers_room
rule_fills (Length s) S h f a n = none_filled _ _ S.tables
rule_fills (Read s off k out) S h f a n = none_filled _ _ S.tables
rule_fills (Show s k scratch) S h f a n = none_filled _ _ S.tables
rule_fills (WireList s list) S h f a n = none_filled _ _ S.tables

-- And so in bytes.
pub next_fills : (o : Operation) (m : Lent) → (step (Do o) m).code ≡ 0 → (Still o (state_in m) → ⊥)
    → Filled (state_in m).tables.stock (next (Do o) m).storage (new_buffers (state_in m).tables (rule o (state_in m)).wants.buffers) (fills o (state_in m))
next_fills o m e n =
    let d = did o m e in
    let t = d.was_sound in
    let S = state_in m in
    let bs = new_buffers S.tables (rule o S).wants.buffers in
    ap (λ (X : State). contents S.tables.stock X.storage (wholes S.tables.stock bs)) (after_state o m e)
    ∙ rule_fills o S (sound_now m t) (sound_within m t).storage_fits (allowed _ _ d.allowed_code) n

-- The buffers that were free before the call and are not after it hold what it stores and then zeros.
pub taken_fills : (o : Operation) (m : Lent) → (step (Do o) m).code ≡ 0 → (Still o (state_in m) → ⊥)
    → Filled (state_in m).tables.stock (next (Do o) m).storage (took_buffers (decode m.pool) (decode (next (Do o) m).pool)) (fills o (state_in m))
taken_fills o m e n =
    subst (λ bs. Filled (state_in m).tables.stock (next (Do o) m).storage bs (fills o (state_in m))) (sym (slips_took o m e).buffers) (next_fills o m e n)
