-- Which code is given, by the causes that document 01's table names. Assumes nothing.
use mathlib.Core.Path.{◌≡◌, refl, sym, subst, ◌∙◌}
use mathlib.Core.Logic.{◌≢◌, ◌↔◌, inl, inr, ⊎_elim}
use mathlib.Core.Bool.{Bool, false, not, ◌&&◌, ◌||◌}
use mathlib.Core.List.{List, [], ◌∷◌}
use Prim.Native.Nat.{ℕ, ◌≤◌, ◌<◌}
use native.Mathlib.Decide.{ℕ_discrete, dec_lt}
use native.Mathlib.Omega.{arith}
use lib.ListN.{length}
use lib.Dec.{T_not, not_T, eqb, eqb→eq, ltb, ltb→lt, lt→ltb}
use Rattle.kinds.specs.declared.Refusal.{Refusal}
use Rattle.kinds.specs.declared.Refusal.TheVariants.{Counts, Torn, Slip, Same, Long, Range, Narrow, Slips, Pieces, Buffers, WireList}
use Rattle.kinds.specs.Refusal.{refusal_code}
use Rattle.rules.specs.Basics.{Is, whether◌then◌else◌, Among}
use Rattle.rules.specs.Tables.{Tables, serial, slip_total, buffer_total}
use Rattle.rules.specs.Chain.{State, length_of, reads}
use Rattle.rules.specs.Room.{is_vacant}
use Rattle.rules.specs.Rule.{Judged, first_code, Name, unnamed, room, full, code_in, Meaning}
use Rattle.rules.specs.Recount.{leaves}
use Rattle.rules.specs.Causes.{Cause, Missing, Twice}
use Rattle.rules.proofs.Logic.{if_T, if_F, if_either, eq→eqb, is_dec, and_intro, and_0, and_1, or_cases, or_left, or_right}
use Rattle.rules.proofs.Moves.{SoundNow}
use Rattle.rules.proofs.Contents.{Fit}
use Rattle.rules.proofs.Codes.{refusal_pos, first_listed, first_append, first_yes, first_no, first_none, Rising, InOrder}
use Rattle.rules.proofs.After.{reads_length}

-- ---- whether a refusal applies in a list of judged ones

-- what the list says of r; nothing said is no
unfoldable pub found : List Judged → Refusal → Bool
found [] r = false
found (j ∷ js) r = whether eqb (refusal_code j.refusal) (refusal_code r) then j.applies else found js r

rising_found : (c : ℕ) (js : List Judged) → Rising c js → (r : Refusal) → Is (found js r) → c < refusal_code r
unfolding found
rising_found c [] a r = λ t. absurd t
rising_found c (j ∷ js) a r =
    if_either (λ (b : Bool). Is b → c < refusal_code r) (eqb (refusal_code j.refusal) (refusal_code r)) j.applies (found js r)
    (λ e _. omega (arith, a.0, eqb→eq (refusal_code j.refusal) (refusal_code r) e))
    (λ _ t. omega (arith, a.0, rising_found (refusal_code j.refusal) js a.1 r t))

rising_first : (c : ℕ) (js : List Judged) → Rising c js → first_code js ≢ 0 → c < first_code js
unfolding first_code
rising_first c [] a = λ n. absurd (n first_none)
rising_first c (j ∷ js) a =
    if_either (λ (k : ℕ). k ≢ 0 → c < k) j.applies (refusal_code j.refusal) (first_code js)
    (λ _ _. a.0) (λ _ n. omega (arith, a.0, rising_first (refusal_code j.refusal) js a.1 n))

-- the refusal that is given applies
first_found : (c : ℕ) (js : List Judged) → Rising c js → (r : Refusal) → first_code js ≡ refusal_code r → Is (found js r)
unfolding found
first_found c [] a r e = absurd (omega (arith, first_none, refusal_pos r))
first_found c (j ∷ js) a r e =
    let k = refusal_code j.refusal in
    ⊎_elim
    (λ t. subst Is (sym (if_T (eqb k (refusal_code r)) j.applies (found js r) (eq→eqb k (refusal_code r) (sym (first_yes j js t) ∙ e)))) t)
    (λ n. (
    let z : first_code js ≡ refusal_code r = sym (first_no j js n) ∙ e in
    let h = rising_first k js a.1 (λ w. omega (arith, refusal_pos r)) in
    subst Is (sym (if_F (eqb k (refusal_code r)) j.applies (found js r) (λ t. omega (arith, eqb→eq k (refusal_code r) t)))) (first_found k js a.1 r z)))
    (is_dec j.applies)

-- and of those that apply it is the lowest
found_lowest : (c : ℕ) (js : List Judged) → Rising c js → (r : Refusal) → Is (found js r) → (first_code js ≢ 0) × (first_code js ≤ refusal_code r)
unfolding found
found_lowest c [] a r = λ t. absurd t
found_lowest c (j ∷ js) a r =
    let k = refusal_code j.refusal in
    if_either (λ (b : Bool). Is b → (first_code (j ∷ js) ≢ 0) × (first_code (j ∷ js) ≤ refusal_code r))
    (eqb k (refusal_code r)) j.applies (found js r)
    (λ e t. omega (arith, first_yes j js t, eqb→eq k (refusal_code r) e, refusal_pos r))
    (λ _ t. ⊎_elim
    (λ y. omega (arith, first_yes j js y, refusal_pos j.refusal, rising_found k js a.1 r t))
    (λ n. omega (arith, first_no j js n, found_lowest k js a.1 r t))
    (is_dec j.applies))

-- all codes of the list are below "full"
abbrev pub Below : List Judged → Type 0
Below [] = Unit {0}
Below (j ∷ js) = (refusal_code j.refusal < refusal_code Slips) × Below js

found_below : (js : List Judged) → Below js → (r : Refusal) → Is (found js r) → refusal_code r < refusal_code Slips
unfolding found
found_below [] b r = λ t. absurd t
found_below (j ∷ js) b r =
    if_either (λ (x : Bool). Is x → refusal_code r < refusal_code Slips) (eqb (refusal_code j.refusal) (refusal_code r)) j.applies (found js r)
    (λ e _. omega (arith, b.0, eqb→eq (refusal_code j.refusal) (refusal_code r) e)) (λ _ t. found_below js b.1 r t)

first_below : (js : List Judged) → Below js → first_code js < refusal_code Slips
unfolding first_code
first_below [] b = omega arith
first_below (j ∷ js) b =
    if_either (λ (k : ℕ). k < refusal_code Slips) j.applies (refusal_code j.refusal) (first_code js) (λ _. b.0) (λ _. first_below js b.1)

-- ---- a code that is settled by causes

-- The code k is 0, or that of a refusal; its cause is there, and it is the lowest whose cause is there.
pub record Settled (k : ℕ) (C : Refusal → Type 0) : Type 0 where
  pub listed : k ≢ 0 → (r : Refusal) × (k ≡ refusal_code r)
  pub cause : (r : Refusal) → k ≡ refusal_code r → C r
  pub lowest : (r : Refusal) → C r → (k ≢ 0) × (k ≤ refusal_code r)

pub settled_given : {k : ℕ} {C : Refusal → Type 0} → Settled k C → (r : Refusal)
    → (k ≡ refusal_code r) ↔ (C r × ((q : Refusal) → refusal_code q < refusal_code r → C q → ⊥))
settled_given {k} {C} s r = (
  λ e. (s.cause r e, λ q l x. omega (arith, s.lowest q x)),
  λ x. (
      let h = s.lowest r x.0 in
      let p = s.listed h.0 in
      elim (dec_lt (refusal_code p.0) (refusal_code r)) [
        | yes l ↦ absurd (x.1 p.0 l (s.cause p.0 p.1))
        | no l ↦ omega (arith, h.1, p.1)
      ]),
)

pub settled_done : {k : ℕ} {C : Refusal → Type 0} → Settled k C → (k ≡ 0) ↔ ((r : Refusal) → C r → ⊥)
settled_done {k} {C} s = (
  λ e r x. (s.lowest r x).0 e,
  λ n. elim (ℕ_discrete k 0) [ yes e ↦ e | no e ↦ (let p = s.listed e in absurd (n p.0 (s.cause p.0 p.1))) ],
)

pub settled_as : {k : ℕ} {C D : Refusal → Type 0} → ((r : Refusal) → C r ↔ D r) → Settled k C → Settled k D
settled_as f s = record { listed = s.listed; cause = λ r e. (f r).0 (s.cause r e); lowest = λ r x. s.lowest r ((f r).1 x) }

-- ---- what is proved of every call

-- On a sound pool each refusal that is judged applies just where its cause is there, and no other before "full" has a cause;
-- and where none of them applies, what is wanted is what is asked.
pub record Caused (m : Meaning) (S : State) : Type 0 where
  pub below : Below (m.rule S).judged
  pub slip : Is (found (m.rule S).judged Slip) ↔ Cause Slip m S
  pub same : Is (found (m.rule S).judged Same) ↔ Cause Same m S
  pub long : Is (found (m.rule S).judged Long) ↔ Cause Long m S
  pub range : Is (found (m.rule S).judged Range) ↔ Cause Range m S
  pub narrow : Is (found (m.rule S).judged Narrow) ↔ Cause Narrow m S
  pub asked : first_code (m.rule S).judged ≡ 0 → (m.rule S).wants ≡ (m.asks S).new

-- a cause of a code judged before room
abbrev pub Before : Meaning → State → Refusal → Type 0
Before m S r = (refusal_code r < refusal_code Slips) × Cause r m S

module _ (m : Meaning) (S : State) (o : InOrder (m.rule S).judged) (c : Caused m S) where
  judged_cause : (r : Refusal) → Is (found (m.rule S).judged r) ↔ Before m S r
  judged_cause Counts = (λ t. absurd (omega (arith, rising_found (refusal_code Torn) _ o.0 Counts t)), λ x. absurd x.1)
  judged_cause Torn = (λ t. absurd (omega (arith, rising_found (refusal_code Torn) _ o.0 Torn t)), λ x. absurd x.1)
  judged_cause Slip = (λ t. (omega arith, c.slip.0 t), λ x. c.slip.1 x.1)
  judged_cause Same = (λ t. (omega arith, c.same.0 t), λ x. c.same.1 x.1)
  judged_cause Long = (λ t. (omega arith, c.long.0 t), λ x. c.long.1 x.1)
  judged_cause Range = (λ t. (omega arith, c.range.0 t), λ x. c.range.1 x.1)
  judged_cause Narrow = (λ t. (omega arith, c.narrow.0 t), λ x. c.narrow.1 x.1)
  judged_cause Slips = (λ t. absurd (omega (arith, found_below _ c.below Slips t)), λ x. absurd (omega (arith, x.0)))
  judged_cause Pieces = (λ t. absurd (omega (arith, found_below _ c.below Pieces t)), λ x. absurd (omega (arith, x.0)))
  judged_cause Buffers = (λ t. absurd (omega (arith, found_below _ c.below Buffers t)), λ x. absurd (omega (arith, x.0)))
  judged_cause WireList = (λ t. absurd (omega (arith, found_below _ c.below WireList t)), λ x. absurd x.1)

  -- the code judged before room
  pub before_settled : Settled (first_code (m.rule S).judged) (Before m S)
  before_settled =
      let js = (m.rule S).judged in
      settled_as judged_cause
      (record { listed = first_listed js; cause = first_found (refusal_code Torn) js o.0; lowest = found_lowest (refusal_code Torn) js o.0 })

  -- more is asked than is left
  abbrev lacking : List Judged
  lacking = full (m.asks S).new (leaves S.tables)

  lacking_cause : (r : Refusal) → Is (found lacking r) → Cause r m S
  unfolding found whether◌then◌else◌
  lacking_cause Counts t = absurd t
  lacking_cause Torn t = absurd t
  lacking_cause Slip t = absurd t
  lacking_cause Same t = absurd t
  lacking_cause Long t = absurd t
  lacking_cause Range t = absurd t
  lacking_cause Narrow t = absurd t
  lacking_cause Slips t = ltb→lt _ _ t
  lacking_cause Pieces t = ltb→lt _ _ t
  lacking_cause Buffers t = ltb→lt _ _ t
  lacking_cause WireList t = absurd t

  cause_lacking : (r : Refusal) → (refusal_code r < refusal_code Slips → ⊥) → Cause r m S → Is (found lacking r)
  unfolding found whether◌then◌else◌
  cause_lacking Counts n x = absurd x
  cause_lacking Torn n x = absurd x
  cause_lacking Slip n x = absurd (n (omega arith))
  cause_lacking Same n x = absurd (n (omega arith))
  cause_lacking Long n x = absurd (n (omega arith))
  cause_lacking Range n x = absurd (n (omega arith))
  cause_lacking Narrow n x = absurd (n (omega arith))
  cause_lacking Slips n x = lt→ltb _ _ x
  cause_lacking Pieces n x = lt→ltb _ _ x
  cause_lacking Buffers n x = lt→ltb _ _ x
  cause_lacking WireList n x = absurd x

  -- the code, where the recount leaves what there is room for
  pub code_settled : leaves S.tables ≡ room S.tables → Settled (code_in (m.rule S) S.tables) (λ r. Cause r m S)
  code_settled same =
      let js = (m.rule S).judged in
      let k = first_append js (full (m.rule S).wants (room S.tables)) in
      let b = before_settled in
      let rising : Rising (refusal_code Narrow) lacking = omega arith in
      elim (ℕ_discrete (first_code js) 0) [
        | yes z ↦ (
            let e : code_in (m.rule S) S.tables ≡ first_code lacking =
            k ∙ if_T (eqb (first_code js) 0) _ _ (eq→eqb (first_code js) 0 z) ∙ (λ i. first_code (full (c.asked z i) (sym same i))) in
            subst (λ n. Settled n (λ r. Cause r m S)) (sym e)
            (record {
              listed = first_listed lacking;
              cause = λ r q. lacking_cause r (first_found (refusal_code Narrow) lacking rising r q);
              lowest = λ r x. elim (dec_lt (refusal_code r) (refusal_code Slips)) [
                | yes l ↦ absurd ((b.lowest r (l, x)).0 z)
                | no l ↦ found_lowest (refusal_code Narrow) lacking rising r (cause_lacking r l x)
              ];
            }))
        | no z ↦ (
            let e : code_in (m.rule S) S.tables ≡ first_code js = k ∙ if_F (eqb (first_code js) 0) _ _ (λ t. z (eqb→eq (first_code js) 0 t)) in
            subst (λ n. Settled n (λ r. Cause r m S)) (sym e)
            (record {
              listed = first_listed js;
              cause = λ r q. (b.cause r q).1;
              lowest = λ r x. elim (dec_lt (refusal_code r) (refusal_code Slips)) [
                | yes l ↦ b.lowest r (l, x)
                | no l ↦ (z, omega (arith, first_below js c.below))
              ];
            }))
      ]

-- ---- the tests of the rules and the causes of the table

-- a slip that a rule takes for unnamed is missing
pub missing_is : (T : Tables) (x : Name) → Is (unnamed T x) ↔ Missing T x
missing_is T x =
    let s = x.slip in
    let b = ltb s (slip_total T) in
    let v = is_vacant T s in
    let k = eqb (serial T s) x.serial in (
      λ u. elim (dec_lt s (slip_total T)) [
        | yes l ↦ ⊎_elim (λ t. inr (inl t))
            (λ n. inr (inr (λ e. T_not (b && (not v && k)) u
            (and_intro b (not v && k) (lt→ltb s (slip_total T) l) (and_intro (not v) k (not_T v n) (eq→eqb (serial T s) x.serial e)))))) (is_dec v)
        | no l ↦ inl (omega arith)
      ],
      λ y. not_T (b && (not v && k))
          (λ t. (
          let r = and_1 b (not v && k) t in
          ⊎_elim (λ l. omega (arith, ltb→lt s (slip_total T) (and_0 b (not v && k) t)))
          (⊎_elim (λ w. T_not v (and_0 (not v) k r) w) (λ n. n (eqb→eq (serial T s) x.serial (and_1 (not v) k r)))) y)),
    )

-- the one slip of a call; and a call that names none
pub slip_one : (T : Tables) (x : Name) → Is (unnamed T x) ↔ ((y : Name) × Among (x ∷ []) y × Missing T y)
slip_one T x = (λ u. (x, refl, (missing_is T x).0 u), λ y. (missing_is T x).1 (subst (Missing T) y.1 y.2))

pub slip_none : (T : Tables) → Is false ↔ ((y : Name) × Among [] y × Missing T y)
slip_none T = (λ t. absurd t, λ x. absurd x.1)

pub twice_one : (s : ℕ) → Is false ↔ Twice (s ∷ [])
twice_one s = (λ t. absurd t, λ x. ⊎_elim (λ y. y) (λ y. y) x)

-- the two slips of append
pub slip_both : (T : Tables) (a b : Name) → Is (unnamed T a || unnamed T b) ↔ ((y : Name) × Among (a ∷ b ∷ []) y × Missing T y)
slip_both T a b =
    let u = unnamed T a in
    let v = unnamed T b in (
      λ t. ⊎_elim (λ x. (a, inl refl, (missing_is T a).0 x)) (λ x. (b, inr refl, (missing_is T b).0 x)) (or_cases u v t),
      λ x. ⊎_elim (λ e. or_left u v ((missing_is T a).1 (subst (Missing T) e x.2)))
          (λ e. or_right u v ((missing_is T b).1 (subst (Missing T) e x.2))) x.1,
    )

pub twice_both : (a b : ℕ) → Is (eqb a b) ↔ Twice (a ∷ b ∷ [])
twice_both a b = (λ t. inl (eqb→eq a b t), λ x. ⊎_elim (λ e. eq→eqb a b e) (λ y. absurd ((twice_one b).1 y)) x)

-- nothing asked is never too much; and an order test is the order
pub none_less : (n : ℕ) → Is false ↔ (n < 0)
none_less n = (λ t. absurd t, λ l. absurd (omega arith))

pub less_is : (m n : ℕ) → Is (ltb m n) ↔ (m < n)
less_is m n = (ltb→lt m n, lt→ltb m n)

-- the chain's end is where its bytes end
pub past_is : (S : State) → SoundNow S.tables → Fit S.tables.stock (buffer_total S.tables) S.storage → (s n : ℕ)
    → Is (ltb (length_of S.tables s) n) ↔ (length (reads S s) < n)
past_is S h f s n = subst (λ k. Is (ltb (length_of S.tables s) n) ↔ (k < n)) (sym (reads_length S h f s)) (less_is (length_of S.tables s) n)
