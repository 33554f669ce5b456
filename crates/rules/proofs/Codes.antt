-- Which code is given, and what follows from a call's being done. Assumes nothing.
use mathlib.Core.Path.{◌≡◌, refl, sym, ap, subst, ◌∙◌}
use mathlib.Core.Logic.{◌≢◌, ◌↔◌, ⊎_elim}
use mathlib.Core.Bool.{Bool, true, false, not, ◌&&◌, ◌||◌}
use mathlib.Core.List.Memᴰ
use mathlib.Core.List.{List, [], ◌∷◌, ◌++◌, Memᴰ}
use Prim.Native.Nat.{ℕ, ◌+◌, ◌≤◌, ◌<◌}
use native.Mathlib.Decide.{ℕ_discrete, dec_lt}
use native.Mathlib.Omega.{arith}
use lib.ListN.{length}
use lib.Dec.{T_not, not_T, leb, leb→le, ltb, ltb→lt, lt→ltb, eqb, eqb→eq}
use Rattle.kinds.specs.declared.Refusal.{Refusal}
use Rattle.kinds.specs.declared.Refusal.TheVariants.{Counts, Torn, Slip, Same, Long, Range, Narrow, Slips, Pieces, Buffers, WireList}
use Rattle.kinds.specs.Refusal.{refusal_code}
use Rattle.rules.specs.Basics.{Is, whether◌then◌else◌}
use Rattle.rules.specs.Tables.{Tables, slip, serial, slip_total}
use Rattle.rules.specs.Rule.{Judged, ◌⇐◌, first_code, Name, unnamed, Wants, want, Spare, room, Rule, full, code_in}
use Rattle.rules.proofs.Logic.{if_T, if_F, if_either, and_0, and_1, not_not, not_zero, not_most, eq→eqb, or_none}

pub refusal_pos : (r : Refusal) → 0 < refusal_code r
refusal_pos Counts = omega arith
refusal_pos Torn = omega arith
refusal_pos Slip = omega arith
refusal_pos Same = omega arith
refusal_pos Long = omega arith
refusal_pos Range = omega arith
refusal_pos Narrow = omega arith
refusal_pos Slips = omega arith
refusal_pos Pieces = omega arith
refusal_pos Buffers = omega arith
refusal_pos WireList = omega arith

-- a code that is given is a refusal's
pub first_listed : (js : List Judged) → first_code js ≢ 0 → (r : Refusal) × (first_code js ≡ refusal_code r)
unfolding first_code
first_listed [] n = absurd (n refl)
first_listed (j ∷ js) n =
    if_either (λ (c : ℕ). c ≢ 0 → (r : Refusal) × (c ≡ refusal_code r)) j.applies (refusal_code j.refusal) (first_code js) (λ _ _. (j.refusal, refl)) (λ _ k. first_listed js k) n

-- ---- none is given

pub first_zero : (j : Judged) (js : List Judged) → first_code (j ∷ js) ≡ 0 → (Is j.applies → ⊥) × (first_code js ≡ 0)
unfolding first_code
first_zero j js e = (
  λ t. omega (arith, refusal_pos j.refusal, if_T j.applies (refusal_code j.refusal) (first_code js) t),
  if_either (λ (c : ℕ). c ≡ 0 → first_code js ≡ 0) j.applies (refusal_code j.refusal) (first_code js)
      (λ _ z. absurd (omega (arith, refusal_pos j.refusal))) (λ _ z. z) e,
)

-- of two lists the first is judged first
pub first_append : (js ks : List Judged) → first_code (js ++ ks) ≡ (whether eqb (first_code js) 0 then first_code ks else first_code js)
unfolding first_code whether◌then◌else◌
first_append [] ks = refl
first_append (j ∷ js) ks =
    if_either (λ (c : ℕ). (whether j.applies then refusal_code j.refusal else first_code (js ++ ks)) ≡ (whether eqb c 0 then first_code ks else c)) j.applies (refusal_code j.refusal) (first_code js)
    (λ t. if_T j.applies (refusal_code j.refusal) (first_code (js ++ ks)) t
    ∙ sym (if_F (eqb (refusal_code j.refusal) 0) (first_code ks) (refusal_code j.refusal) (λ z. (let q = eqb→eq (refusal_code j.refusal) 0 z in omega (arith, refusal_pos j.refusal)))))
    (λ t. if_F j.applies (refusal_code j.refusal) (first_code (js ++ ks)) t ∙ first_append js ks)

-- ---- "full"

pub record Full (w : Wants) (r : Spare) : Type 0 where
  pub none : first_code (full w r) ≡ 0 → (w.slips ≤ r.slips) × (w.pieces ≤ length w.back + r.pieces) × (w.buffers ≤ r.buffers)
  pub slips : (first_code (full w r) ≡ refusal_code Slips) ↔ (r.slips < w.slips)
  pub pieces : (first_code (full w r) ≡ refusal_code Pieces) ↔ ((w.slips ≤ r.slips) × (length w.back + r.pieces < w.pieces))
  pub buffers : (first_code (full w r) ≡ refusal_code Buffers)
      ↔ ((w.slips ≤ r.slips) × (w.pieces ≤ length w.back + r.pieces) × (r.buffers < w.buffers))
  pub others : (first_code (full w r) ≡ 0 → ⊥) → refusal_code Slips ≤ first_code (full w r)

pub first_yes : (j : Judged) (js : List Judged) → Is j.applies → first_code (j ∷ js) ≡ refusal_code j.refusal
unfolding first_code
first_yes j js t = if_T j.applies (refusal_code j.refusal) (first_code js) t

pub first_no : (j : Judged) (js : List Judged) → (Is j.applies → ⊥) → first_code (j ∷ js) ≡ first_code js
unfolding first_code
first_no j js t = if_F j.applies (refusal_code j.refusal) (first_code js) t

pub first_none : first_code [] ≡ 0
unfolding first_code
first_none = refl

less_no : (m n : ℕ) → ¬ (m < n) → Is (ltb m n) → ⊥
less_no m n h t = h (ltb→lt m n t)

pub full_facts : (w : Wants) (r : Spare) → Full w r
full_facts w r =
    let p = length w.back + r.pieces in
    let a : Judged = Slips ⇐ ltb r.slips w.slips in
    let b : Judged = Pieces ⇐ ltb p w.pieces in
    let c : Judged = Buffers ⇐ ltb r.buffers w.buffers in
    elim (dec_lt r.slips w.slips) [
      | yes h ↦ omega (arith, first_yes a (b ∷ c ∷ []) (lt→ltb r.slips w.slips h))
      | no h ↦ (
          let e = first_no a (b ∷ c ∷ []) (less_no r.slips w.slips h) in
          elim (dec_lt p w.pieces) [
            | yes k ↦ omega (arith, first_yes b (c ∷ []) (lt→ltb p w.pieces k))
            | no k ↦ (
                let f = first_no b (c ∷ []) (less_no p w.pieces k) in
                elim (dec_lt r.buffers w.buffers) [
                  | yes l ↦ omega (arith, first_yes c [] (lt→ltb r.buffers w.buffers l))
                  | no l ↦ omega (arith, first_no c [] (less_no r.buffers w.buffers l), first_none)
                ])
          ])
    ]

-- nothing wanted is never too much
pub none_full : (r : Spare) → first_code (full (want 0 0 0) r) ≡ 0
none_full r =
    first_no (Slips ⇐ ltb r.slips 0) _ (λ t. omega (arith, ltb→lt r.slips 0 t))
    ∙ first_no (Pieces ⇐ ltb (0 + r.pieces) 0) _ (λ t. omega (arith, ltb→lt (0 + r.pieces) 0 t))
    ∙ first_no (Buffers ⇐ ltb r.buffers 0) [] (λ t. omega (arith, ltb→lt r.buffers 0 t)) ∙ first_none

-- ---- a call that is done

-- its judged refusals have no cause, and there is room for what it wants
pub record Allowed (r : Rule) (T : Tables) : Type 0 where
  pub early : first_code r.judged ≡ 0
  pub slips_room : r.wants.slips ≤ (room T).slips
  pub pieces_room : r.wants.pieces ≤ length r.wants.back + (room T).pieces
  pub buffers_room : r.wants.buffers ≤ (room T).buffers

pub allowed : (r : Rule) (T : Tables) → code_in r T ≡ 0 → Allowed r T
allowed r T e =
    let js = r.judged in
    let f = full r.wants (room T) in
    let s = first_append js f in
    elim (ℕ_discrete (first_code js) 0) [
      | yes z ↦ (
          let k = s ∙ if_T (eqb (first_code js) 0) (first_code f) (first_code js) (eq→eqb (first_code js) 0 z) in
          let n = (full_facts r.wants (room T)).none (sym k ∙ e) in
          record { early = z; slips_room = n.0; pieces_room = n.1; buffers_room = n.2 })
      | no z ↦ absurd (z (sym (s ∙ if_F (eqb (first_code js) 0) (first_code f) (first_code js) (λ t. z (eqb→eq (first_code js) 0 t))) ∙ e))
    ]

-- the slip of a name that a rule takes is below S, and held, and its serial is the name's
pub named_all : (T : Tables) (x : Name) → (Is (unnamed T x) → ⊥) → (x.slip < slip_total T) × (0 < slip T x.slip) × (serial T x.slip ≡ x.serial)
named_all T x h =
    let s = x.slip in
    let v = eqb (slip T s) 0 in
    let k = eqb (serial T s) x.serial in
    let t = not_not (ltb s (slip_total T) && (not v && k)) h in
    let u = and_1 (ltb s (slip_total T)) (not v && k) t in (
      ltb→lt s (slip_total T) (and_0 (ltb s (slip_total T)) (not v && k) t),
      not_zero (slip T s) (λ z. T_not v (and_0 (not v) k u) z),
      eqb→eq (serial T s) x.serial (and_1 (not v) k u),
    )

pub named : (T : Tables) (x : Name) → (Is (unnamed T x) → ⊥) → (x.slip < slip_total T) × (0 < slip T x.slip)
named T x h = let (l, p, _) = named_all T x h in (l, p)

-- the slip of a call whose first judged refusal is Slip
pub first_named : (T : Tables) (x : Name) (js : List Judged) → first_code ((Slip ⇐ unnamed T x) ∷ js) ≡ 0 → (x.slip < slip_total T) × (0 < slip T x.slip)
first_named T x js e = named T x (first_zero (Slip ⇐ unnamed T x) js e).0

-- the two slips of append
pub both_named : (T : Tables) (a b : Name) → first_code ((Slip ⇐ (unnamed T a || unnamed T b)) ∷ (Same ⇐ eqb a.slip b.slip) ∷ []) ≡ 0
    → ((a.slip < slip_total T) × (0 < slip T a.slip)) × ((b.slip < slip_total T) × (0 < slip T b.slip)) × (a.slip ≢ b.slip)
both_named T a b e =
    let same : Judged = Same ⇐ eqb a.slip b.slip in
    let z = first_zero (Slip ⇐ (unnamed T a || unnamed T b)) (same ∷ []) e in
    let n = or_none (unnamed T a) (unnamed T b) z.0 in
    (named T a n.0, named T b n.1, λ q. (first_zero same [] z.1).0 (eq→eqb a.slip b.slip q))

-- ---- the codes judged before room

-- the codes of the list rise from c on
abbrev pub Rising : ℕ → List Judged → Type 0
Rising c [] = Unit {0}
Rising c (j ∷ js) = (c < refusal_code j.refusal) × Rising (refusal_code j.refusal) js

rising_above : (c : ℕ) (js : List Judged) → Rising c js → (j : Judged) → Memᴰ j js → c < refusal_code j.refusal
rising_above c [] a j m = absurd (Memᴰ.not-nil m)
rising_above c (k ∷ js) a j m =
    ⊎_elim (λ e. omega (arith, a.0, ap (λ (x : Judged). refusal_code x.refusal) e)) (λ n. omega (arith, a.0, rising_above (refusal_code k.refusal) js a.1 j n)) (Memᴰ.cases_cons m)

-- where several apply, the lowest code is given
pub lowest_given : (c : ℕ) (js : List Judged) → Rising c js → (j : Judged) → Memᴰ j js → Is j.applies → first_code js ≤ refusal_code j.refusal
unfolding first_code
lowest_given c [] a j m t = absurd (Memᴰ.not-nil m)
lowest_given c (k ∷ js) a j m t =
    if_either (λ (x : ℕ). x ≤ refusal_code j.refusal) k.applies (refusal_code k.refusal) (first_code js)
    (λ _. ⊎_elim (λ e. omega (arith, ap (λ (x : Judged). refusal_code x.refusal) e)) (λ n. omega (arith, rising_above (refusal_code k.refusal) js a.1 j n)) (Memᴰ.cases_cons m))
    (λ no. ⊎_elim (λ e. absurd (no (subst (λ (x : Judged). Is x.applies) e t))) (λ n. lowest_given (refusal_code k.refusal) js a.1 j n t) (Memᴰ.cases_cons m))

-- a code that is neither "torn" nor "full"
abbrev pub Other : ℕ → Type 0
Other c = (c ≢ refusal_code Torn) × (c ≢ refusal_code Slips) × (c ≢ refusal_code Pieces) × (c ≢ refusal_code Buffers)

-- none of the codes of the list is one of these
abbrev pub Apart : List Judged → Type 0
Apart [] = Unit {0}
Apart (j ∷ js) = Other (refusal_code j.refusal) × Apart js

-- the codes of a call's judged refusals rise from 2 on, and none is "torn" or "full"
abbrev pub InOrder : List Judged → Type 0
InOrder js = Rising (refusal_code Torn) js × Apart js

-- nor is the one that is given
pub apart_first : (js : List Judged) → Apart js → Other (first_code js)
unfolding first_code
apart_first [] a = omega arith
apart_first (j ∷ js) a = if_either Other j.applies (refusal_code j.refusal) (first_code js) (λ _. a.0) (λ _. apart_first js a.1)

-- ---- the bounds of a call that is done

-- no refusal is given just where the first has no cause and none behind it is given
pub first_is : (r : Refusal) (b : Bool) (js : List Judged) → (first_code ((r ⇐ b) ∷ js) ≡ 0) ↔ (Is (not b) × (first_code js ≡ 0))
first_is r b js = (λ e. (let z = first_zero (r ⇐ b) js e in (not_T b z.0, z.1)), λ z. first_no (r ⇐ b) js (T_not b z.0) ∙ z.1)

-- an order test fails just where the order is the other way round
pub not_leb_is : (m n : ℕ) → Is (not (leb m n)) ↔ (n < m)
not_leb_is m n = (λ t. not_most m n (T_not (leb m n) t), λ h. not_T (leb m n) (λ t. (let l = leb→le m n t in omega arith)))

-- not both tests pass just where the first excludes the second
pub not_and_is : (a b : Bool) → Is (not (a && b)) ↔ (Is a → Is (not b))
not_and_is true b = (λ t _. t, λ f. f tt)
not_and_is false b = (λ _ t. absurd t, λ _. tt)

-- what the judged refusals of a done call say of the numbers that they test
pub ruleset no-cause = (first_is, not_leb_is, not_and_is)
