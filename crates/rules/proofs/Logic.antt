-- Laws of the tests, of `if` and of tables by index. Assumes nothing.
use mathlib.Core.Path.{◌≡◌, refl, sym, ap₂, subst}
use mathlib.Core.Logic.{◌≢◌, ◌⊎◌, inl, inr}
use mathlib.Core.Bool.{Bool, true, false, not, ◌&&◌, ◌||◌}
use mathlib.Core.List.{List, [], ◌∷◌}
use Prim.Native.Nat.{ℕ, zero, suc, ◌≤◌, ◌<◌}
use native.Mathlib.Nat.{not-suc-le-zero}
use native.Mathlib.Decide.{ℕ_discrete, dec_lt, dec_le}
use native.Mathlib.Omega.{arith}
use lib.ListN.{length, get_or}
use lib.Dec.{ltb, lt→ltb, eqb, eqb→eq, eqb_refl, leb, le→leb}
use Rattle.rules.specs.Basics.{Is, whether◌then◌else◌, bit, all_to, any_to, table}

-- ---- if

pub if_T : {A : Type 0} (b : Bool) (m n : A) → Is b → (whether b then m else n) ≡ m
unfolding whether◌then◌else◌
if_T true m n t = refl
if_T false m n t = absurd t

pub if_F : {A : Type 0} (b : Bool) (m n : A) → (Is b → ⊥) → (whether b then m else n) ≡ n
unfolding whether◌then◌else◌
if_F true m n t = absurd (t tt)
if_F false m n t = refl

-- what holds of both branches, each under its test, holds of the choice
pub if_either : {A : Type 0} (P : A → Type 0) (b : Bool) (m n : A) → (Is b → P m) → ((Is b → ⊥) → P n) → P (whether b then m else n)
unfolding whether◌then◌else◌
if_either P true m n f g = f tt
if_either P false m n f g = g (λ t. t)

-- and so of two choices by the same test
pub if_both : {A B : Type 0} (P : A → B → Type 0) (b : Bool) (m n : A) (x y : B) → (Is b → P m x) → ((Is b → ⊥) → P n y) → P (whether b then m else n) (whether b then x else y)
unfolding whether◌then◌else◌
if_both P true m n x y f g = f tt
if_both P false m n x y f g = g (λ t. t)

-- ---- tests

pub and_intro : (a b : Bool) → Is a → Is b → Is (a && b)
and_intro true b x y = y
and_intro false b x y = x

pub and_0 : (a b : Bool) → Is (a && b) → Is a
and_0 true b x = tt
and_0 false b x = x

pub and_1 : (a b : Bool) → Is (a && b) → Is b
and_1 true b x = x
and_1 false b x = absurd x

pub or_none : (a b : Bool) → (Is (a || b) → ⊥) → (Is a → ⊥) × (Is b → ⊥)
or_none true b t = absurd (t tt)
or_none false b t = (λ z. z, t)

pub or_cases : (a b : Bool) → Is (a || b) → Is a ⊎ Is b
or_cases true b t = inl tt
or_cases false b t = inr t

pub or_left : (a b : Bool) → Is a → Is (a || b)
or_left true b t = tt
or_left false b t = absurd t

pub or_right : (a b : Bool) → Is b → Is (a || b)
or_right true b t = tt
or_right false b t = t

pub not_not : (b : Bool) → (Is (not b) → ⊥) → Is b
not_not true t = tt
not_not false t = t tt

pub is_true : (b : Bool) → Is b → b ≡ true
is_true true t = refl
is_true false t = absurd t

pub is_false : (b : Bool) → (Is b → ⊥) → b ≡ false
is_false true t = absurd (t tt)
is_false false t = refl

pub same_test : (a b : Bool) → (Is a → Is b) → (Is b → Is a) → a ≡ b
same_test true true f g = refl
same_test true false f g = absurd (f tt)
same_test false true f g = absurd (g tt)
same_test false false f g = refl

pub is_dec : (b : Bool) → Is b ⊎ (Is b → ⊥)
is_dec true = inl tt
is_dec false = inr (λ t. t)

-- ---- tests on numbers

pub eq→eqb : (m n : ℕ) → m ≡ n → Is (eqb m n)
eq→eqb m n e = subst (λ x. Is (eqb m x)) e (eqb_refl m)

pub not_zero : (n : ℕ) → (Is (eqb n 0) → ⊥) → 0 < n
not_zero zero h = absurd (h tt)
not_zero (suc n) h = omega arith

pub not_less : (m n : ℕ) → (Is (ltb m n) → ⊥) → n ≤ m
not_less m n h = elim (dec_lt m n) [ yes l ↦ absurd (h (lt→ltb m n l)) | no l ↦ omega arith ]

pub not_most : (m n : ℕ) → (Is (leb m n) → ⊥) → n < m
not_most m n h = elim (dec_le m n) [ yes l ↦ absurd (h (le→leb m n l)) | no l ↦ omega arith ]

-- ---- bits

pub bit_T : (b : Bool) → Is b → bit b ≡ 1
bit_T true t = refl
bit_T false t = absurd t

pub bit_F : (b : Bool) → (Is b → ⊥) → bit b ≡ 0
bit_F true t = absurd (t tt)
bit_F false t = refl

pub bit_pos : (b : Bool) → 0 < bit b → Is b
bit_pos true t = tt
bit_pos false t = absurd (not-suc-le-zero t)

pub bit_one : (b : Bool) → bit b ≤ 1
bit_one true = omega arith
bit_one false = omega arith

-- 1 where two numbers are equal
pub same_bit : (n : ℕ) → bit (eqb n n) ≡ 1
same_bit n = bit_T (eqb n n) (eqb_refl n)

pub other_bit : {m n : ℕ} → m ≢ n → bit (eqb m n) ≡ 0
other_bit {m} {n} h = bit_F (eqb m n) (λ t. h (eqb→eq m n t))

-- ---- tests on all numbers below n

pub all_intro : (n : ℕ) (f : ℕ → Bool) → ((i : ℕ) → i < n → Is (f i)) → Is (all_to n f)
unfolding all_to
all_intro zero f h = tt
all_intro (suc n) f h = and_intro (f n) (all_to n f) (h n (omega arith)) (all_intro n f (λ i l. h i (omega arith)))

pub all_at : (n : ℕ) (f : ℕ → Bool) → Is (all_to n f) → (i : ℕ) → i < n → Is (f i)
unfolding all_to
all_at zero f t i l = absurd (not-suc-le-zero l)
all_at (suc n) f t i l =
    elim (ℕ_discrete i n) [
      | yes e ↦ subst (λ x. Is (f x)) (sym e) (and_0 (f n) (all_to n f) t)
      | no e ↦ all_at n f (and_1 (f n) (all_to n f) t) i (omega arith)
    ]

pub any_intro : (n : ℕ) (f : ℕ → Bool) (i : ℕ) → i < n → Is (f i) → Is (any_to n f)
unfolding any_to
any_intro zero f i l t = absurd (not-suc-le-zero l)
any_intro (suc n) f i l t =
    elim (ℕ_discrete i n) [
      | yes e ↦ or_left (f n) (any_to n f) (subst (λ x. Is (f x)) e t)
      | no e ↦ or_right (f n) (any_to n f) (any_intro n f i (omega arith) t)
    ]

pub any_at : (n : ℕ) (f : ℕ → Bool) → Is (any_to n f) → (i : ℕ) × (i < n) × Is (f i)
unfolding any_to
any_at zero f t = absurd t
any_at (suc n) f t = go (or_cases (f n) (any_to n f) t) (any_at n f)
  where
    go : Is (f n) ⊎ Is (any_to n f) → (Is (any_to n f) → (i : ℕ) × (i < n) × Is (f i)) → (i : ℕ) × (i < suc n) × Is (f i)
    go (inl x) ih = (n, omega arith, x)
    go (inr x) ih = (let r = ih x in (r.0, omega arith, r.2))

-- both parts of a conjunction
pub and_parts : (a b : Bool) → Is (a && b) → Is a × Is b
and_parts a b t = (and_0 a b t, and_1 a b t)

-- ---- tables

-- the table of a list's entries
pub table_is : {A : Type 0} (d : A) (l : List A) (f : ℕ → A) → ((i : ℕ) → i < length l → f i ≡ get_or l i d) → table (length l) f ≡ l
table_is d [] f h = refl
table_is d (x ∷ l) f h = ap₂ ◌∷◌ (h 0 (omega arith)) (table_is d l (λ i. f (suc i)) (λ i k. h (suc i) (omega arith)))
