-- Sums over the numbers below n. Assumes nothing.
use mathlib.Core.Path.{◌≡◌, refl, ap}
use mathlib.Core.Logic.{◌≢◌}
use mathlib.Core.Bool.{Bool, true, false, ◌||◌}
use Prim.Native.Nat.{ℕ, zero, suc, ◌+◌, ◌≤◌, ◌<◌}
use native.Mathlib.Nat.{not-suc-le-zero}
use native.Mathlib.Decide.{ℕ_discrete}
use native.Mathlib.Omega.{arith}
use lib.Dec.{eqb, eqb→eq, eqb_refl}
use Rattle.rules.specs.Basics.{Is, bit, sum_to, any_to}
use Rattle.rules.proofs.Logic.{bit_T, bit_F, bit_one, or_left, any_at}

pub sum_to_same : (n : ℕ) (f g : ℕ → ℕ) → ((j : ℕ) → j < n → f j ≡ g j) → sum_to n f ≡ sum_to n g
sum_to_same zero f g h = refl
sum_to_same (suc n) f g h =
    let r = sum_to_same n f g (λ j l. h j (omega arith)) in
    omega (arith, h n (omega arith))

pub sum_to_le : (n : ℕ) (f g : ℕ → ℕ) → ((j : ℕ) → j < n → f j ≤ g j) → sum_to n f ≤ sum_to n g
sum_to_le zero f g h = omega arith
sum_to_le (suc n) f g h =
    let r = sum_to_le n f g (λ j l. h j (omega arith)) in
    omega (arith, h n (omega arith))

-- one place changes
pub sum_to_change : (n i : ℕ) (f g : ℕ → ℕ) → i < n → ((j : ℕ) → j ≢ i → f j ≡ g j) → sum_to n g + f i ≡ sum_to n f + g i
sum_to_change zero i f g l h = absurd (not-suc-le-zero l)
sum_to_change (suc n) i f g l h =
    elim (ℕ_discrete n i) [
      | yes e ↦ omega (arith, ap f e, ap g e, sum_to_same n f g (λ j k. h j (omega arith)))
      | no e ↦ omega (arith, h n e, sum_to_change n i f g (omega arith) h)
    ]

pub sum_to_at : (n i : ℕ) (f : ℕ → ℕ) → i < n → f i ≤ sum_to n f
sum_to_at zero i f l = absurd (not-suc-le-zero l)
sum_to_at (suc n) i f l =
    elim (ℕ_discrete n i) [ yes e ↦ omega (arith, ap f e) | no e ↦ omega (arith, sum_to_at n i f (omega arith)) ]

pub sum_to_pos : (n : ℕ) (f : ℕ → ℕ) → 0 < sum_to n f → (i : ℕ) × (i < n) × (0 < f i)
sum_to_pos zero f h = absurd (not-suc-le-zero h)
sum_to_pos (suc n) f h =
    elim (ℕ_discrete (f n) 0) [
      | yes e ↦ (let r = sum_to_pos n f (omega arith) in (r.0, omega arith, r.2))
      | no e ↦ (n, omega arith, omega arith)
    ]

-- one place is less, none is more
pub sum_to_lt : (n i : ℕ) (f g : ℕ → ℕ) → i < n → f i < g i → ((j : ℕ) → f j ≤ g j) → sum_to n f < sum_to n g
sum_to_lt zero i f g l h k = absurd (not-suc-le-zero l)
sum_to_lt (suc n) i f g l h k =
    elim (ℕ_discrete n i) [
      | yes e ↦ omega (arith, ap f e, ap g e, sum_to_le n f g (λ j _. k j))
      | no e ↦ omega (arith, sum_to_lt n i f g (omega arith) h k, k n)
    ]

pub sum_to_one : (n : ℕ) → sum_to n (λ j. 1) ≡ n
sum_to_one zero = refl
sum_to_one (suc n) = omega (arith, sum_to_one n)

pub sum_to_both : (n : ℕ) (f g : ℕ → ℕ) → sum_to n f + sum_to n g ≡ sum_to n (λ j. f j + g j)
sum_to_both zero f g = refl
sum_to_both (suc n) f g = omega (arith, sum_to_both n f g)

pub sum_to_zero : (n : ℕ) (f : ℕ → ℕ) → ((i : ℕ) → f i ≡ 0) → sum_to n f ≡ 0
sum_to_zero zero f h = refl
sum_to_zero (suc n) f h = omega (arith, h n, sum_to_zero n f h)

pub sum_to_ones : (n : ℕ) (f : ℕ → ℕ) → ((i : ℕ) → f i ≤ 1) → sum_to n f ≤ n
sum_to_ones n f h = omega (arith, sum_to_le n f (λ i. 1) (λ i _. h i), sum_to_one n)

-- two places count both
pub sum_to_two : (n i j : ℕ) (f : ℕ → ℕ) → i < n → j < n → i ≢ j → f i + f j ≤ sum_to n f
sum_to_two zero i j f l k h = absurd (not-suc-le-zero l)
sum_to_two (suc n) i j f l k h =
    elim (ℕ_discrete n i) [
      | yes e ↦ omega (arith, ap f e, sum_to_at n j f (omega arith))
      | no e ↦
          elim (ℕ_discrete n j) [
            | yes q ↦ omega (arith, ap f q, sum_to_at n i f (omega arith))
            | no q ↦ omega (arith, sum_to_two n i j f (omega arith) (omega arith) h)
          ]
    ]

-- the first term apart
pub sum_to_shift : (n : ℕ) (f : ℕ → ℕ) → sum_to (suc n) f ≡ f 0 + sum_to n (λ j. f (suc j))
sum_to_shift zero f = refl
sum_to_shift (suc n) f = omega (arith, sum_to_shift n f)

-- no place counts
pub sum_to_none : (n : ℕ) (f : ℕ → ℕ) → ((i : ℕ) → i < n → 0 < f i → ⊥) → sum_to n f ≡ 0
sum_to_none n f h =
    elim (ℕ_discrete (sum_to n f) 0) [ yes e ↦ e | no e ↦ (let r = sum_to_pos n f (omega arith) in absurd (h r.0 r.1 r.2)) ]

-- Distinct numbers below P are at most P: with each one more number is met.
bit_or : (a b : Bool) → bit b ≤ bit (a || b)
bit_or true b = bit_one b
bit_or false b = omega arith

met : ℕ → (ℕ → ℕ) → ℕ → ℕ
met n f e = bit (any_to n (λ i. eqb (f i) e))

met_grows : (n P : ℕ) (f : ℕ → ℕ) → ((i : ℕ) → i < n → f i < P) → ((i j : ℕ) → i < n → j < n → f i ≡ f j → i ≡ j) → n ≤ sum_to P (met n f)
unfolding met any_to
met_grows zero P f h k = omega arith
met_grows (suc n) P f h k =
    let any : ℕ → Bool = λ e. any_to n (λ i. eqb (f i) e) in
    let r = met_grows n P f (λ i l. h i (omega arith)) (λ i j l m. k i j (omega arith) (omega arith)) in
    let new : Is (any (f n)) → ⊥ = λ t. (let (i, l, e) = any_at n (λ i. eqb (f i) (f n)) t in omega (arith, k i n (omega arith) (omega arith) (eqb→eq (f i) (f n) e))) in
    omega (
      arith,
      sum_to_lt P (f n) (met n f) (met (suc n) f) (h n (omega arith))
          (omega (arith, bit_F (any (f n)) new, bit_T (eqb (f n) (f n) || any (f n)) (or_left (eqb (f n) (f n)) (any (f n)) (eqb_refl (f n)))))
          (λ e. bit_or (eqb (f n) e) (any e)),
    )

pub pigeons : (n P : ℕ) (f : ℕ → ℕ) → ((i : ℕ) → i < n → f i < P) → ((i j : ℕ) → i < n → j < n → f i ≡ f j → i ≡ j) → n ≤ P
unfolding met
pigeons n P f h k = omega (arith, met_grows n P f h k, sum_to_ones P (met n f) (λ e. bit_one (any_to n (λ i. eqb (f i) e))))
