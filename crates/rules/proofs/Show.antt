-- show: its view shows the first bytes, and what of the scratch stays. Assumes nothing.
use mathlib.Core.Path.{◌≡◌, refl, sym, ap, ◌∙◌}
use mathlib.Core.Logic.{◌↔◌}
use mathlib.Core.Bool.{Bool, true, false, not, ◌&&◌}
use mathlib.Core.List.{List, [], ◌∷◌}
use Prim.Native.Nat.{ℕ, zero, suc, ◌≤◌, ◌<◌}
use native.Mathlib.Omega.{arith}
use lib.ListN.{length, take, drop, length-take}
use lib.Seq.{take-append-le, take-take}
use lib.Dec.{eqb, eqb→eq, leb, leb→le, T_not, not_T, ltb, ltb→lt, lt→ltb, le→leb}
use Rattle.rules.specs.Basics.{Is, whether◌then◌else◌}
use Rattle.rules.specs.Tables.{buffer_total}
use Rattle.rules.specs.Chain.{Stretch, State, spans, total, first_length, position_of, bytes_of, contents, reads}
use Rattle.rules.specs.Rule.{Name, View}
use Rattle.rules.specs.Read.{copied}
use Rattle.rules.specs.Show.{scattered, view_of, show, show_asks, show_call}
use Rattle.rules.specs.Step.{Show, rule}
use Rattle.rules.specs.After.{seen}
use Rattle.rules.proofs.Logic.{if_F, if_either, not_not, and_intro, and_0, and_1, not_less}
use Rattle.rules.proofs.Moves.{SoundNow}
use Rattle.rules.proofs.Build.{Good}
use Rattle.rules.proofs.Chain.{spans_good}
use Rattle.rules.proofs.Contents.{Fit, bytes_length}
use Rattle.rules.proofs.Codes.{Allowed, not_leb_is, no-cause}
use Rattle.rules.proofs.After.{reads_length}
use Rattle.rules.proofs.Caused.{found, slip_one, twice_one, less_is, past_is}
use Rattle.rules.proofs.Lawful.{Lawful, looks_lawful, Causing}
use Rattle.rules.proofs.Read.{copied_front, copied_rest, copied_length}

-- a view of the scratch, or of storage from p on
seen_either : (b : Bool) (p n : ℕ) (st xs scratch ys : List ℕ) → (Is b → take n xs ≡ ys) → ((Is b → ⊥) → take n (drop p st) ≡ ys)
    → seen (whether b then record { in_scratch = 1; start = 0 } else record { in_scratch = 0; start = p }) n st (whether b then xs else scratch) ≡ ys
unfolding whether◌then◌else◌
seen_either true p n st xs scratch ys f g = f tt
seen_either false p n st xs scratch ys f g = g (λ t. t)

-- the view of stretches shows their first n bytes
seen_first : (Z : List ℕ) (B : ℕ) (st scratch : List ℕ) (xs : List Stretch) (n : ℕ) → Fit Z B st → Good Z B xs → n ≤ total xs → length (take n (contents Z st xs)) ≡ n
    → seen (view_of Z xs n) n st (whether scattered xs n then copied (take n (contents Z st xs)) scratch else scratch) ≡ take n (contents Z st xs)
unfolding view_of contents total
seen_first Z B st scratch [] zero f g l e = refl
seen_first Z B st scratch [] (suc n) f g l e = absurd (omega arith)
seen_first Z B st scratch (x ∷ xs) zero f g l e = refl
seen_first Z B st scratch (x ∷ xs) (suc n) f g l e =
    let c = contents Z st (x ∷ xs) in
    let b = scattered (x ∷ xs) (suc n) in
    ap (λ (v : View). seen v (suc n) st (whether b then copied (take (suc n) c) scratch else scratch)) (if_F (eqb (suc n) 0) _ _ (λ t. omega (arith, eqb→eq (suc n) 0 t)))
    ∙ seen_either b (position_of Z x) (suc n) st (copied (take (suc n) c) scratch) scratch (take (suc n) c) (λ _. copied_front (suc n) (take (suc n) c) scratch e)
    (λ t. (
    let u = leb→le (suc n) x.len (not_not (leb (suc n) x.len) t) in
    let k = bytes_length Z B st x f g.0 g.2 in
    sym (take-append-le (suc n) (bytes_of Z st x) (contents Z st xs) (omega arith) ∙ take-take (suc n) x.len (drop (position_of Z x) st) u)))

module _ (s : Name) (n : ℕ) (scratch : List ℕ) (S : State) (h : SoundNow S.tables) (f : Fit S.tables.stock (buffer_total S.tables) S.storage) (a : Allowed (rule (Show s n scratch) S) S.tables) where
  -- a done show stays within the chain: it shows n bytes, not fewer
  pub show_exact : length (take n (reads S s.slip)) ≡ n
  unfolding rule
  show_exact = let c = simp no-cause at a.early in let l = reads_length S h f s.slip in simp length-take (omega arith)

  -- the view shows the first n bytes
  pub show_seen : seen (rule (Show s n scratch) S).view n S.storage (rule (Show s n scratch) S).output ≡ take n (reads S s.slip)
  unfolding rule
  show_seen = let c = simp no-cause at a.early in seen_first S.tables.stock (buffer_total S.tables) S.storage scratch (spans S.tables s.slip) n f (spans_good S.tables s.slip h) (omega arith) show_exact

  -- the scratch keeps its length
  pub show_length : length (rule (Show s n scratch) S).output ≡ length scratch
  unfolding rule
  show_length =
      let c = simp no-cause at a.early in
      if_either (λ (q : List ℕ). length q ≡ length scratch) (scattered (spans S.tables s.slip) n) _ _
      (λ t. copied_length n (take n (reads S s.slip)) scratch show_exact (let w = c.1.1.1.0 (simp not_leb_is at t) in omega arith)) (λ _. refl)

  -- the scratch past the first n bytes is unchanged
  pub show_rest : drop n (rule (Show s n scratch) S).output ≡ drop n scratch
  unfolding rule
  show_rest = if_either (λ (q : List ℕ). drop n q ≡ drop n scratch) (scattered (spans S.tables s.slip) n) _ _ (λ _. copied_rest n (take n (reads S s.slip)) scratch show_exact) (λ _. refl)

-- where the first piece has the n bytes the scratch is unchanged
pub show_unchanged : (s : Name) (n : ℕ) (scratch : List ℕ) (S : State) → n ≤ first_length (spans S.tables s.slip) → (rule (Show s n scratch) S).output ≡ scratch
unfolding rule
show_unchanged s n scratch S l = if_F (scattered (spans S.tables s.slip) n) _ _ (λ t. (let k = simp not_leb_is at t in omega arith))

-- ---- show only looks

-- the scratch is too short for what is copied
narrow_is : (k n c : ℕ) → Is (not (leb n k) && ltb c n) ↔ (c < (whether ltb k n then n else 0))
narrow_is k n c =
    let u = not (leb n k) in
    if_either (λ (j : ℕ). Is (u && ltb c n) ↔ (c < j)) (ltb k n) n 0
    (λ t. (
    let l = ltb→lt k n t in
    (λ x. ltb→lt c n (and_1 u (ltb c n) x), λ x. and_intro u (ltb c n) (not_T (leb n k) (λ y. omega (arith, leb→le n k y))) (lt→ltb c n x))))
    (λ t. (λ x. absurd (T_not (leb n k) (and_0 u (ltb c n) x) (le→leb n k (not_less k n t))), λ x. absurd (omega arith)))

show_caused : (x : Name) (n : ℕ) (scratch : List ℕ) → Causing (show_call x n scratch)
unfolding found whether◌then◌else◌
show_caused x n scratch S h f = record {
  below = omega arith;
  slip = slip_one S.tables x;
  same = twice_one x.slip;
  long = less_is 512 n;
  range = past_is S h f x.slip n;
  narrow = narrow_is (first_length (spans S.tables x.slip)) n (length scratch);
  asked = λ z. refl;
}

pub show_lawful : (x : Name) (n : ℕ) (scratch : List ℕ) → Lawful (show_call x n scratch)
show_lawful x n scratch = looks_lawful (x ∷ []) scratch (show x n scratch) (show_asks x n) (λ S. omega arith) (λ S. (refl, refl)) (show_caused x n scratch)
