-- What is proved of every call: one record for each. Assumes nothing.
use mathlib.Core.Path.{◌∙◌, ◌≡◌, ap, refl, subst, subst₂, sym}
use mathlib.Core.Logic.{◌≢◌, ◌⊎◌, ⊎_elim}
use mathlib.Core.Bool.{Bool, true, false, not}
use mathlib.Core.List.{List, [], ◌∷◌}
use Prim.Native.Nat.{◌<◌, ℕ}
use native.Mathlib.Decide.{ℕ_discrete}
use native.Mathlib.Omega.{arith}
use lib.ListN.{length, get_or, set, length-set}
use lib.Seq.{get_or-set_same, get_or-set_other}
use lib.Dec.{T_not}
use Rattle.kinds.specs.Serial.{older}
use Rattle.rules.specs.Basics.{Is, whether◌then◌else◌, Among}
use Rattle.rules.specs.Tables.{Tables, buffer_count, buffer_total, slip, slip_total, with_serials}
use Rattle.rules.specs.Chain.{State}
use Rattle.rules.specs.Room.{is_vacant, new_slip, ready_slips}
use Rattle.rules.specs.Rule.{Change, Meaning, Name, Rule, Wants, looks, want, Asks, asks_nothing, slips_of}
use Rattle.rules.specs.Audit.{audit, audit_call}
use Rattle.rules.specs.After.{at, changed}
use Rattle.rules.specs.Takes.{Took, first_slip}
use Rattle.rules.proofs.Logic.{eq→eqb, if_T, if_F}
use Rattle.rules.proofs.Moves.{SoundNow}
use Rattle.rules.proofs.Room.{new_slip_ok}
use Rattle.rules.proofs.Contents.{Fit}
use Rattle.rules.proofs.Codes.{Allowed, InOrder}
use Rattle.rules.proofs.Caused.{Caused, found, slip_none, none_less}
use Rattle.rules.proofs.Sizes.{Sizes, same_sizes}
use Rattle.rules.proofs.After.{at_here, at_there, Reading}
use Rattle.rules.proofs.Takes.{nothing_taken}
use Rattle.rules.proofs.Stays.{StorageStays, stays_as}

-- each change is of a slip that is named, or that was vacant
abbrev pub Known : Tables → List ℕ → List Change → Type 0
Known T ns [] = Unit {0}
Known T ns (c ∷ cs) = (Among ns c.slip ⊎ Is (is_vacant T c.slip)) × Known T ns cs

-- Once it is done and has left sound tables, the slips that it changes are as it says; and what it wants is what it takes.
abbrev pub Leaving : Meaning → Type 0
Leaving m = (S : State) → SoundNow S.tables → Fit S.tables.stock (buffer_total S.tables) S.storage → Allowed (m.rule S) S.tables
    → SoundNow (m.rule S).after.tables → Reading S (m.rule S).after (m.changes S)

abbrev pub Staying : Meaning → Type 0
Staying m = (S : State) → SoundNow S.tables → Fit S.tables.stock (buffer_total S.tables) S.storage → Allowed (m.rule S) S.tables
    → StorageStays S (m.rule S).after (m.rule S).wants.buffers

abbrev pub Taking : Meaning → Type 0
Taking m = (S : State) → SoundNow S.tables → Allowed (m.rule S) S.tables → SoundNow (m.rule S).after.tables
    → Took S.tables (m.rule S).after.tables (m.rule S).wants (first_slip (m.changes S) (slips_of m.names))

-- the serials ks once the changes are made: 1 more for each slip that is vacated
abbrev aged_if : Bool → ℕ → List ℕ → List ℕ
aged_if true s ks = set ks s (older (get_or ks s 0))
aged_if false s ks = ks

abbrev pub aged_by : List Change → List ℕ → List ℕ
aged_by [] ks = ks
aged_by (c ∷ cs) ks = aged_if c.vacated c.slip (aged_by cs ks)

pub aged_size : (cs : List Change) (ks : List ℕ) → length (aged_by cs ks) ≡ length ks
aged_size [] ks = refl
aged_size (c ∷ cs) ks = one_size c.vacated c.slip (aged_by cs ks) ∙ aged_size cs ks
  where
    one_size : (b : Bool) (s : ℕ) (qs : List ℕ) → length (aged_if b s qs) ≡ length qs
    one_size true s qs = length-set qs s _
    one_size false s qs = refl

-- whether slip t is one of those that the changes vacate
abbrev pub vacated_by : List Change → ℕ → Bool
vacated_by cs = changed (λ (c : Change). c.vacated) cs (λ u. false)

-- each slip that is vacated is below n, and no slip is changed twice
abbrev pub Ageable : ℕ → List Change → Type 0
Ageable n [] = Unit {0}
Ageable n (c ∷ cs) = (Is c.vacated → c.slip < n) × (Is (vacated_by cs c.slip) → ⊥) × Ageable n cs

-- On a sound pool its refusals have the causes of document 01's table, and it wants what it asks.
abbrev pub Causing : Meaning → Type 0
Causing m = (S : State) → SoundNow S.tables → Fit S.tables.stock (buffer_total S.tables) S.storage → Caused m S

-- A call is lawful: what its meaning says of it is what its rule does.
pub record Lawful (m : Meaning) : Type 0 where
  -- the codes that it judges before room rise from 2 on, and none is "torn" or "full"
  pub codes : (S : State) → InOrder (m.rule S).judged
  -- tables stay as long as they were, and only serials of vacated slips move
  pub sizes : (S : State) → Sizes (with_serials S.tables (aged_by (m.changes S) S.tables.serials)) (m.rule S).after.tables
  pub ages : (S : State) → Allowed (m.rule S) S.tables → Ageable (slip_total S.tables) (m.changes S)
  -- once it is done: storage stays as long as it was, and so does every byte of a buffer that is neither taken nor set free; one set free is zero
  pub stays : Staying m
  -- soundness is kept, and only slips that it names or takes are changed
  pub sound : (S : State) → SoundNow S.tables → Allowed (m.rule S) S.tables → SoundNow (m.rule S).after.tables
  pub known : (S : State) → Allowed (m.rule S) S.tables → Known S.tables (slips_of m.names) (m.changes S)
  pub caused : Causing m
  pub leaves : Leaving m
  pub takes : Taking m

-- a new slip was vacant
pub new_vacant : (T : Tables) → 0 < length (ready_slips T) → Is (is_vacant T (new_slip T))
new_vacant T h = eq→eqb (slip T (new_slip T)) 0 (new_slip_ok T h).1

-- what a held slip that is not named has, stays
pub others_stay : {A : Type 0} (g : Change → A) (f : ℕ → A) (T : Tables) (ns : List ℕ) (cs : List Change) (t : ℕ)
    → Known T ns cs → (Among ns t → ⊥) → Is (not (is_vacant T t)) → changed g cs f t ≡ f t
others_stay g f T ns [] t k n v = refl
others_stay g f T ns (c ∷ cs) t k n v =
    at_there c.slip t (g c) (changed g cs f)
    (λ q. ⊎_elim (λ a. n (subst (Among ns) (sym q) a)) (λ w. T_not (is_vacant T t) v (subst (λ u. Is (is_vacant T u)) (sym q) w)) k.0)
    ∙ others_stay g f T ns cs t k.1 n v

-- ---- serials

-- one change
aged_one : (b : Bool) (s : ℕ) (cs : List Change) (ks : List ℕ) (t : ℕ) → (Is b → s < length ks) → (Is (vacated_by cs s) → ⊥)
    → get_or (aged_by cs ks) t 0 ≡ (whether vacated_by cs t then older (get_or ks t 0) else get_or ks t 0) → length (aged_by cs ks) ≡ length ks
    → get_or (aged_if b s (aged_by cs ks)) t 0 ≡ (whether at s b (vacated_by cs) t then older (get_or ks t 0) else get_or ks t 0)
aged_one b s cs ks t l n r z =
    let qs = aged_by cs ks in
    let k = get_or ks t 0 in
    let P : Bool → Type 0 = λ c. get_or (aged_if b s qs) t 0 ≡ (whether c then older k else k) in
    elim (ℕ_discrete t s) [
      | yes q ↦ (
          let was : get_or qs s 0 ≡ get_or ks s 0 = ap (λ u. get_or qs u 0) (sym q) ∙ r ∙ if_F (vacated_by cs t) (older k) k (λ v. n (subst (λ u. Is (vacated_by cs u)) q v)) ∙ ap (λ u. get_or ks u 0) q in
          subst P (sym (at_here s t b (vacated_by cs) q)) (one b q was l))
      | no q ↦ subst P (sym (at_there s t b (vacated_by cs) q)) (other b q ∙ r)
    ]
  where
    one : (c : Bool) → t ≡ s → get_or (aged_by cs ks) s 0 ≡ get_or ks s 0 → (Is c → s < length ks)
        → get_or (aged_if c s (aged_by cs ks)) t 0 ≡ (whether c then older (get_or ks t 0) else get_or ks t 0)
    one true q was l =
        ap (λ u. get_or (set (aged_by cs ks) s (older (get_or (aged_by cs ks) s 0))) u 0) q
        ∙ get_or-set_same (aged_by cs ks) s _ 0 (omega (arith, z, l tt)) ∙ ap older (was ∙ ap (λ u. get_or ks u 0) (sym q)) ∙ sym (if_T true _ _ tt)
    one false q was l = ap (λ u. get_or (aged_by cs ks) u 0) q ∙ was ∙ ap (λ u. get_or ks u 0) (sym q) ∙ sym (if_F false _ _ (λ v. v))

    other : (c : Bool) → t ≢ s → get_or (aged_if c s (aged_by cs ks)) t 0 ≡ get_or (aged_by cs ks) t 0
    other true q = get_or-set_other (aged_by cs ks) s t _ 0 q
    other false q = refl

-- the serial of slip t once the changes are made
pub aged_at : (cs : List Change) (ks : List ℕ) (t : ℕ) → Ageable (length ks) cs → get_or (aged_by cs ks) t 0 ≡ (whether vacated_by cs t then older (get_or ks t 0) else get_or ks t 0)
aged_at [] ks t a = sym (if_F false _ _ (λ z. z))
aged_at (c ∷ cs) ks t a = aged_one c.vacated c.slip cs ks t a.0 a.1 (aged_at cs ks t a.2) (aged_size cs ks)

-- ---- the calls that only look

-- a call that leaves everything as it is and wants nothing
pub looks_lawful : (ns : List Name) (out : List ℕ) (r : State → Rule) (a : State → Asks)
    → ((S : State) → InOrder (r S).judged) → ((S : State) → ((r S).after ≡ S) × ((r S).wants ≡ want 0 0 0))
    → Causing (looks ns out r a) → Lawful (looks ns out r a)
looks_lawful ns out r a c e k =
    let t = first_slip [] (slips_of ns) in
    record {
      codes = c;
      sizes = λ S. subst (λ (X : State). Sizes S.tables X.tables) (sym (e S).0) (same_sizes S.tables);
      ages = λ S _. tt;
      stays = λ S _ _ _. stays_as S (r S).after _ (ap (λ (X : State). X.storage) (e S).0)
          (λ b u. subst (λ (X : State). 0 < buffer_count X.tables b) (sym (e S).0) u);
      sound = λ S h _. subst (λ (X : State). SoundNow X.tables) (sym (e S).0) h;
      known = λ S _. tt;
      caused = k;
      leaves = λ S h f _ _. subst (λ (X : State). Reading S X []) (sym (e S).0) (record { bytes = λ t. refl; vacancy = λ t. refl });
      takes = λ S h _ _. subst₂ (λ (X : State) (w : Wants). Took S.tables X.tables w t) (sym (e S).0) (sym (e S).1) (nothing_taken S.tables t h);
    }

-- audit judges nothing, and only looks
pub audit_lawful : Lawful audit_call
unfolding found
audit_lawful = looks_lawful [] [] audit asks_nothing (λ S. omega arith) (λ S. (refl, refl)) (λ S h f. record {
  below = tt;
  slip = slip_none S.tables;
  same = (λ t. absurd t, λ x. absurd x);
  long = none_less 512;
  range = none_less _;
  narrow = none_less 0;
  asked = λ _. refl;
})
