-- Which done operations leave every byte as it is. Assumes nothing.
use mathlib.Core.Path.{◌≡◌, refl, sym, ap, subst, ◌∙◌}
use mathlib.Core.Logic.{◌↔◌}
use mathlib.Core.Bool.{Bool, true, not}
use mathlib.Core.List.{List, [], ◌∷◌}
use Prim.Native.Nat.{ℕ, ◌≤◌}
use native.Mathlib.Decide.{ℕ_discrete}
use native.Mathlib.Omega.{arith}
use lib.ListN.{length, length-take, length-drop, take}
use lib.Dec.{eqb, leb, leb→le, le→leb, T_not}
use Rattle.rules.specs.Basics.{Is}
use Rattle.rules.specs.Tables.{Tables, piece, buffer_total}
use Rattle.rules.specs.Bytes.{encode}
use Rattle.rules.specs.Chain.{Stretch, State, chain, stretches, spans, total, first_length, length_of, reads}
use Rattle.rules.specs.Sound.{Lent, is_header_ok, sound, lent}
use Rattle.rules.specs.Room.{is_vacant}
use Rattle.rules.specs.Build.{buffers_for}
use Rattle.rules.specs.Rule.{Wants, want, giving, room, full, first_code}
use Rattle.rules.specs.Drop.{drop_after}
use Rattle.rules.specs.Keep.{keep_after}
use Rattle.rules.specs.Pullup.{pullup_after, pullup_wants}
use Rattle.rules.specs.Pack.{pack_after, pack_wants}
use Rattle.rules.specs.Step.{Operation, Audit, Put, Free, Dup, Cut, Append, Drop, Keep, Pullup, Pack, Length, Read, Show, WireList}
use Rattle.rules.specs.Step.{Do, rule, state_in, done, step, next, left_by}
use Rattle.rules.specs.After.{at, reads_after, vacant_after}
use Rattle.rules.specs.Takes.{Took}
use Rattle.rules.specs.Still.{Still}
use Rattle.rules.proofs.Logic.{if_T, if_F, if_either, and_0, eq→eqb}
use Rattle.rules.proofs.Moves.{SoundNow}
use Rattle.rules.proofs.Build.{Good}
use Rattle.rules.proofs.Chain.{spans_good}
use Rattle.rules.proofs.Hang.{stretches_length}
use Rattle.rules.proofs.Contents.{Fit}
use Rattle.rules.proofs.Audit.{sound_now}
use Rattle.rules.proofs.Codes.{Allowed, Other, allowed, first_append, first_named, both_named, no-cause, none_full}
use Rattle.rules.proofs.After.{at_here, at_there, held_false, reads_length}
use Rattle.rules.proofs.Takes.{nothing_taken}
use Rattle.rules.proofs.Drop.{drop_none, nothing_back}
use Rattle.rules.proofs.Calls.{judged_early, reads_ok, takes}
use Rattle.rules.proofs.Bytes.{AllBytes, header_facts, encode_decode}
use Rattle.rules.proofs.Step.{after_state, code_is, did, next_refused, sound_within}

-- ---- nothing is altered or wanted

module _ (S : State) (h : SoundNow S.tables) (f : Fit S.tables.stock (buffer_total S.tables) S.storage) where
  -- an operation with nothing to do leaves the state, and wants nothing
  pub still_stays : (o : Operation) → Still o S → ((rule o S).after ≡ S) × ((rule o S).wants ≡ want 0 0 0)
  unfolding rule drop_after keep_after pullup_after pullup_wants pack_after pack_wants
  still_stays Audit q = (refl, refl)
  still_stays (Put input) q = absurd q
  still_stays (Free s) q = absurd q
  still_stays (Dup s) q = absurd q
  still_stays (Cut s off n) q = absurd q
  still_stays (Append a b) q = absurd q
  still_stays (Drop s n) q = (
    if_T (eqb n 0) S _ (eq→eqb n 0 q),
    (λ i. giving (nothing_back S.tables s.slip n h q i) (length (drop_none S.tables true (chain S.tables s.slip) n q i)) 0),
  )
  still_stays (Keep s n) q =
      let t = eq→eqb n (length_of S.tables s.slip) (q ∙ reads_length S h f s.slip) in
      (if_T (eqb n (length_of S.tables s.slip)) S _ t, ap (λ (k : ℕ). want 0 k 0) (if_T (eqb n (length_of S.tables s.slip)) 0 _ t))
  still_stays (Pullup s n) q =
      let k = first_length (spans S.tables s.slip) in
      let t = le→leb n k q in
      (if_T (leb n k) S _ t, if_T (leb n k) (want 0 0 0) _ t)
  still_stays (Pack s) q =
      let k = length (chain S.tables s.slip) in
      let t = le→leb k 1 q in
      (if_T (leb k 1) S _ t, if_T (leb k 1) (want 0 0 0) _ t)
  still_stays (Length s) q = (refl, refl)
  still_stays (Read s off n out) q = (refl, refl)
  still_stays (Show s n scratch) q = (refl, refl)
  still_stays (WireList s list) q = (refl, refl)

-- ---- and otherwise something is

none_took : (w : ℕ) (l : List ℕ) → [] ≡ take w l → w ≤ length l → w ≡ 0
none_took w l e r = omega (arith, ap {B = ℕ} length e, length-take w l)

-- where the tables stay no slip and no buffer is taken, so none was wanted
none_wanted : (T T' : Tables) (w : Wants) (t : ℕ) → SoundNow T → Took T T' w t → T' ≡ T → (w.slips ≡ 0) × (w.buffers ≡ 0)
none_wanted T T' w t h k e =
    let n = nothing_taken T t h in
    let r = subst (λ X. Took T X w t) e k in (
      none_took w.slips _ (sym n.slips ∙ r.slips) r.slips_room,
      none_took w.buffers _ (sym n.buffers ∙ r.buffers) r.buffers_room,
    )

-- each stretch has a byte
count_total : (Z : List ℕ) (B : ℕ) (xs : List Stretch) → Good Z B xs → length xs ≤ total xs
unfolding total
count_total Z B [] g = omega arith
count_total Z B (x ∷ xs) g = omega (arith, g.1, count_total Z B xs g.3)

module _ (S : State) (h : SoundNow S.tables) (f : Fit S.tables.stock (buffer_total S.tables) S.storage) where
  -- a done operation that leaves the state had nothing to do
  pub stays_still : (o : Operation) → Allowed (rule o S) S.tables → (rule o S).after ≡ S → Still o S
  unfolding rule reads_after vacant_after pullup_wants pack_wants
  stays_still Audit a e = tt
  stays_still (Put input) a e = (let w = none_wanted _ _ _ _ h (takes (Put input) S h a) (ap (λ (X : State). X.tables) e) in omega arith)
  stays_still (Free s) a e =
      let v = (reads_ok (Free s) S h f a).vacancy s.slip ∙ at_here s.slip s.slip true (is_vacant S.tables) refl in
      let n = first_named S.tables s _ a.early in
      T_not true (subst (λ b. Is (not b)) (held_false S.tables s.slip n.1 ∙ sym (ap (λ (X : State). is_vacant X.tables s.slip) e) ∙ v) tt) tt
  stays_still (Dup s) a e = (let w = none_wanted _ _ _ _ h (takes (Dup s) S h a) (ap (λ (X : State). X.tables) e) in omega arith)
  stays_still (Cut s off n) a e = (let w = none_wanted _ _ _ _ h (takes (Cut s off n) S h a) (ap (λ (X : State). X.tables) e) in omega arith)
  stays_still (Append x y) a e =
      let n = both_named S.tables x y a.early in
      let t = y.slip in
      let v = (reads_ok (Append x y) S h f a).vacancy t ∙ at_there x.slip t _ (at t true (is_vacant S.tables)) (λ q. n.2 (sym q))
      ∙ at_here t t true (is_vacant S.tables) refl in
      T_not true (subst (λ b. Is (not b)) (held_false S.tables t n.1.1 ∙ sym (ap (λ (X : State). is_vacant X.tables t) e) ∙ v) tt) tt
  stays_still (Drop s n) a e =
      let c = simp no-cause at a.early in
      let r = sym (ap (λ (X : State). reads X s.slip) e) ∙ (reads_ok (Drop s n) S h f a).bytes s.slip ∙ at_here s.slip s.slip _ (reads S) refl in
      omega (arith, ap {B = ℕ} length r, length-drop n (reads S s.slip), reads_length S h f s.slip)
  stays_still (Keep s n) a e =
      let c = simp no-cause at a.early in
      let r = sym (ap (λ (X : State). reads X s.slip) e) ∙ (reads_ok (Keep s n) S h f a).bytes s.slip ∙ at_here s.slip s.slip _ (reads S) refl in
      omega (arith, ap {B = ℕ} length r, length-take n (reads S s.slip), reads_length S h f s.slip)
  stays_still (Pullup s n) a e =
      let w = none_wanted _ _ _ _ h (takes (Pullup s n) S h a) (ap (λ (X : State). X.tables) e) in
      if_either (λ (x : Wants). x.buffers ≡ 0 → n ≤ first_length (spans S.tables s.slip)) (leb n (first_length (spans S.tables s.slip))) _ _
      (λ t _. leb→le _ _ t) (λ _ z. absurd (omega arith)) w.1
  stays_still (Pack s) a e =
      let w = none_wanted _ _ _ _ h (takes (Pack s) S h a) (ap (λ (X : State). X.tables) e) in
      let k = buffers_for (length_of S.tables s.slip) in
      if_either (λ (x : Wants). x.buffers ≡ 0 → length (chain S.tables s.slip) ≤ 1) (leb (length (chain S.tables s.slip)) 1) (want 0 0 0) (want 0 k k)
      (λ t _. leb→le _ _ t)
      (λ _ z. omega (arith, count_total _ _ (spans S.tables s.slip) (spans_good S.tables s.slip h), stretches_length S.tables (chain S.tables s.slip))) w.1
  stays_still (Length s) a e = tt
  stays_still (Read s off n out) a e = tt
  stays_still (Show s n scratch) a e = tt
  stays_still (WireList s list) a e = tt

-- ---- in bytes

-- A call with nothing to do leaves every byte of pool and storage.
pub still_next : (o : Operation) (m : Lent) → AllBytes m.pool → Still o (state_in m) → next (Do o) m ≡ m
unfolding sound done
still_next o m b q =
    elim (ℕ_discrete (step (Do o) m).code 0) [
      | yes e ↦ (
          let d = did o m e in
          let t = d.was_sound in
          let k = header_facts m (and_0 (is_header_ok m) _ t) in
          ap left_by d.result
          ∙ ap (λ (X : State). lent (encode X.tables) X.storage) (still_stays (state_in m) (sound_now m t) (sound_within m t).storage_fits o q).0
          ∙ ap (λ (p : List ℕ). lent p m.storage) (encode_decode m.pool b k.is_marked k.pool_long))
      | no e ↦ next_refused (Do o) m e
    ]

-- A call with nothing to do is never "full" on a sound pool.
pub still_room : (o : Operation) (m : Lent) → Is (sound m) → Still o (state_in m) → Other (step (Do o) m).code
still_room o m t q =
    let S = state_in m in
    let js = (rule o S).judged in
    let w = (still_stays S (sound_now m t) (sound_within m t).storage_fits o q).1 in
    let r = room S.tables in
    let z : first_code (full (rule o S).wants r) ≡ 0 = ap (λ x. first_code (full x r)) w ∙ none_full r in
    subst Other (sym (code_is o m t ∙ first_append js (full (rule o S).wants r)))
    (if_either Other (eqb (first_code js) 0) (first_code (full (rule o S).wants r)) (first_code js) (λ _. omega arith) (λ _. judged_early o S))

-- A done call leaves every byte just where it has nothing to do.
pub still_exact : (o : Operation) (m : Lent) → AllBytes m.pool → (step (Do o) m).code ≡ 0 → (next (Do o) m ≡ m) ↔ Still o (state_in m)
still_exact o m b e =
    let d = did o m e in
    let t = d.was_sound in
    let S = state_in m in (
      λ q. stays_still S (sound_now m t) (sound_within m t).storage_fits o (allowed _ _ d.allowed_code) (sym (after_state o m e) ∙ ap state_in q),
      still_next o m b,
    )
