-- The free numbers in ascending order, and how many there are. Assumes nothing.
use mathlib.Core.Path.{◌≡◌, refl, sym, ap, subst, ◌∙◌}
use mathlib.Core.Logic.{⊎_elim}
use mathlib.Core.Bool.{Bool, not, ◌&&◌}
use mathlib.Core.List.{List, [], ◌∷◌, ◌++◌, Memᴰ}
use Prim.Native.Nat.{ℕ, zero, suc, ◌+◌, ◌≤◌, ◌<◌}
use native.Mathlib.Decide.{ℕ_discrete}
use native.Mathlib.Omega.{arith}
use lib.ListN.{length, get_or, take}
use lib.Dec.{eqb→eq, T_not, not_T}
use Rattle.rules.specs.Basics.{Is, whether◌then◌else◌, bit, sum_to, places, passing}
use Rattle.rules.specs.Tables.{Tables, slip, piece, slip_total, piece_total, buffer_total}
use Rattle.rules.specs.Room.{is_vacant, is_spent, is_ready, is_free, is_unheld, ready_slips, free_pieces, free_buffers, new_slip, new_buffers}
use Rattle.rules.proofs.Logic.{if_T, if_F, if_either, and_intro, and_0, and_1, bit_T, bit_F}
use Rattle.rules.proofs.Sums.{sum_to_same, sum_to_shift}
use Rattle.rules.proofs.Build.{Free}

-- each number of the list passes the test, and lies between
abbrev pub AllIn : (ℕ → Bool) → ℕ → ℕ → List ℕ → Type 0
AllIn f i n [] = Unit {0}
AllIn f i n (x ∷ xs) = (i ≤ x) × (x < n) × Is (f x) × AllIn f (suc x) n xs

all_in_down : (f : ℕ → Bool) (i n : ℕ) (xs : List ℕ) → AllIn f (suc i) n xs → AllIn f i n xs
all_in_down f i n [] a = tt
all_in_down f i n (x ∷ xs) a = (omega (arith, a.0), a.1, a.2, a.3)

pub places_in : (f : ℕ → Bool) (i k n : ℕ) → i + k ≤ n → AllIn f i n (places f i k)
unfolding places
places_in f i zero n h = tt
places_in f i (suc k) n h =
    let r = places_in f (suc i) k n (omega arith) in
    if_either (AllIn f i n) (f i) (i ∷ places f (suc i) k) (places f (suc i) k) (λ t. (omega arith, omega arith, t, r)) (λ _. all_in_down f i n (places f (suc i) k) r)

pub above_not : (f : ℕ → Bool) (i n x : ℕ) (xs : List ℕ) → x < i → AllIn f i n xs → Memᴰ x xs → ⊥
above_not f i n x [] h a m = mathlib.Core.List.Memᴰ.not-nil m
above_not f i n x (y ∷ ys) h a m = ⊎_elim (λ e. omega (arith, a.0)) (λ m'. above_not f (suc y) n x ys (omega (arith, a.0)) a.3 m') (mathlib.Core.List.Memᴰ.cases_cons m)

-- a number of such a list passes
pub in_passes : (f : ℕ → Bool) (i n x : ℕ) (xs : List ℕ) → AllIn f i n xs → Memᴰ x xs → Is (f x)
in_passes f i n x [] a m = absurd (mathlib.Core.List.Memᴰ.not-nil m)
in_passes f i n x (y ∷ ys) a m = ⊎_elim (λ e. subst (λ j. Is (f j)) (sym e) a.2) (in_passes f (suc y) n x ys a.3) (mathlib.Core.List.Memᴰ.cases_cons m)

in_free : (T : Tables) (i : ℕ) (xs : List ℕ) → AllIn (is_free T) i (piece_total T) xs → Free T xs
in_free T i [] a = tt
in_free T i (x ∷ xs) a = (a.1, eqb→eq (piece T x).count 0 a.2, above_not (is_free T) (suc x) (piece_total T) x xs (omega arith) a.3, in_free T (suc x) xs a.3)

pub free_pieces_lem : (T : Tables) → Free T (free_pieces T)
free_pieces_lem T = in_free T 0 (free_pieces T) (places_in (is_free T) 0 (piece_total T) (piece_total T) (omega arith))

-- how many

pub places_count : (f : ℕ → Bool) (i k : ℕ) → length (places f i k) ≡ sum_to k (λ j. bit (f (i + j)))
unfolding places
places_count f i zero = refl
places_count f i (suc k) =
    let r = places_count f (suc i) k in
    let e = sum_to_same k (λ j. bit (f (suc i + j))) (λ j. bit (f (i + suc j))) (λ j _. ap (λ x. bit (f x)) (omega arith)) in
    let s = sum_to_shift k (λ j. bit (f (i + j))) in
    let z : bit (f (i + 0)) ≡ bit (f i) = ap (λ x. bit (f x)) (omega arith) in
    if_either (λ (l : List ℕ). length l ≡ sum_to (suc k) (λ j. bit (f (i + j)))) (f i) (i ∷ places f (suc i) k) (places f (suc i) k)
    (λ t. omega (arith, bit_T (f i) t)) (λ t. omega (arith, bit_F (f i) t))

pub places_count_0 : (f : ℕ → Bool) (k : ℕ) → length (places f 0 k) ≡ sum_to k (λ j. bit (f j))
places_count_0 f k = places_count f 0 k ∙ sum_to_same k (λ j. bit (f (0 + j))) (λ j. bit (f j)) (λ j _. ap (λ x. bit (f x)) (omega arith))

-- the first of the numbers, where there is one
pub first_in : (f : ℕ → Bool) (i n : ℕ) (xs : List ℕ) → 0 < length xs → AllIn f i n xs → (get_or xs 0 0 < n) × Is (f (get_or xs 0 0))
first_in f i n [] h a = absurd (omega arith)
first_in f i n (x ∷ xs) h a = (a.1, a.2)

pub all_free : (f : ℕ → Bool) (n : ℕ) → AllIn f 0 n (places f 0 n)
all_free f n = places_in f 0 n n (omega arith)

pub new_slip_ok : (T : Tables) → 0 < length (ready_slips T) → (new_slip T < slip_total T) × (slip T (new_slip T) ≡ 0)
new_slip_ok T h =
    let t = new_slip T in
    let r = first_in (is_ready T) 0 (slip_total T) (ready_slips T) h (all_free (is_ready T) (slip_total T)) in
    (r.0, eqb→eq (slip T t) 0 (and_0 (is_vacant T t) (not (is_spent T t)) r.1))

-- the first k of them
pub take_in : (f : ℕ → Bool) (i n k : ℕ) (xs : List ℕ) → AllIn f i n xs → AllIn f i n (take k xs)
take_in f i n zero xs a = tt
take_in f i n (suc k) [] a = tt
take_in f i n (suc k) (x ∷ xs) a = (a.0, a.1, a.2, take_in f (suc x) n k xs a.3)

pub new_buffers_in : (T : Tables) (k : ℕ) → AllIn (is_unheld T) 0 (buffer_total T) (new_buffers T k)
new_buffers_in T k = take_in (is_unheld T) 0 (buffer_total T) k (free_buffers T) (all_free (is_unheld T) (buffer_total T))

-- a number in between that passes is one of them
pub places_has : (f : ℕ → Bool) (i k x : ℕ) → i ≤ x → x < i + k → Is (f x) → Memᴰ x (places f i k)
unfolding places
places_has f i zero x a b t = absurd (omega arith)
places_has f i (suc k) x a b t =
    if_either (Memᴰ x) (f i) (i ∷ places f (suc i) k) (places f (suc i) k)
    (λ _. elim (ℕ_discrete x i) [ yes e ↦ mathlib.Core.List.Memᴰ.head e | no e ↦ mathlib.Core.List.Memᴰ.tail (places_has f (suc i) k x (omega arith) (omega arith) t) ])
    (λ n. elim (ℕ_discrete x i) [ yes e ↦ absurd (n (subst (λ j. Is (f j)) e t)) | no e ↦ places_has f (suc i) k x (omega arith) (omega arith) t ])

-- ---- the numbers of a list that pass

-- a number of those that pass passes, and stands in the list; and so back
pub passing_out : (f : ℕ → Bool) (x : ℕ) (l : List ℕ) → Memᴰ x (passing f l) → Is (f x) × Memᴰ x l
unfolding passing
passing_out f x [] m = absurd (mathlib.Core.List.Memᴰ.not-nil m)
passing_out f x (y ∷ l) m =
    let down : Memᴰ x (passing f l) → Is (f x) × Memᴰ x (y ∷ l) = λ z. (let r = passing_out f x l z in (r.0, mathlib.Core.List.Memᴰ.tail r.1)) in
    if_either (λ (q : List ℕ). Memᴰ x q → Is (f x) × Memᴰ x (y ∷ l)) (f y) (y ∷ passing f l) (passing f l)
    (λ t z. ⊎_elim (λ e. (subst (λ i. Is (f i)) (sym e) t, mathlib.Core.List.Memᴰ.head e)) down (mathlib.Core.List.Memᴰ.cases_cons z)) (λ _. down) m

pub passing_in : (f : ℕ → Bool) (x : ℕ) (l : List ℕ) → Is (f x) → Memᴰ x l → Memᴰ x (passing f l)
unfolding passing
passing_in f x [] t m = m
passing_in f x (y ∷ l) t m =
    if_either (Memᴰ x) (f y) (y ∷ passing f l) (passing f l)
    (λ _. ⊎_elim (λ e. mathlib.Core.List.Memᴰ.head e) (λ z. mathlib.Core.List.Memᴰ.tail (passing_in f x l t z)) (mathlib.Core.List.Memᴰ.cases_cons m))
    (λ u. ⊎_elim (λ e. absurd (u (subst (λ i. Is (f i)) e t))) (λ z. passing_in f x l t z) (mathlib.Core.List.Memᴰ.cases_cons m))

-- where all pass, and where none of the list does
pub passing_all : (f : ℕ → Bool) (i n : ℕ) (l : List ℕ) → AllIn f i n l → passing f l ≡ l
unfolding passing
passing_all f i n [] a = refl
passing_all f i n (x ∷ l) a = if_T (f x) (x ∷ passing f l) (passing f l) a.2 ∙ ap {B = List ℕ} (λ q. x ∷ q) (passing_all f (suc x) n l a.3)

abbrev pub NoneOf : (ℕ → Bool) → List ℕ → Type 0
NoneOf f [] = Unit {0}
NoneOf f (x ∷ l) = (Is (f x) → ⊥) × NoneOf f l

pub none_not : (f : ℕ → Bool) (x : ℕ) (l : List ℕ) → NoneOf f l → Is (f x) → Memᴰ x l → ⊥
none_not f x [] n t m = mathlib.Core.List.Memᴰ.not-nil m
none_not f x (y ∷ l) n t m = ⊎_elim (λ e. n.0 (subst (λ i. Is (f i)) e t)) (λ z. none_not f x l n.1 t z) (mathlib.Core.List.Memᴰ.cases_cons m)

-- a part of such a list
pub none_front : (f : ℕ → Bool) (a l : List ℕ) → NoneOf f (a ++ l) → NoneOf f a
none_front f [] l n = tt
none_front f (x ∷ a) l n = (n.0, none_front f a l n.1)

-- a part of which none passes, in front or behind
pub passing_front : (f : ℕ → Bool) (a l : List ℕ) → NoneOf f a → passing f (a ++ l) ≡ passing f l
unfolding passing
passing_front f [] l n = refl
passing_front f (x ∷ a) l n = if_F (f x) (x ∷ passing f (a ++ l)) (passing f (a ++ l)) n.0 ∙ passing_front f a l n.1

pub passing_none : (f : ℕ → Bool) (l : List ℕ) → NoneOf f l → passing f l ≡ []
unfolding passing
passing_none f [] n = refl
passing_none f (x ∷ l) n = if_F (f x) (x ∷ passing f l) (passing f l) n.0 ∙ passing_none f l n.1

pub passing_back : (f : ℕ → Bool) (l b : List ℕ) → NoneOf f b → passing f (l ++ b) ≡ passing f l
unfolding passing
passing_back f [] b n = passing_none f b n
passing_back f (x ∷ l) b n = ap {B = List ℕ} (λ q. whether f x then x ∷ q else q) (passing_back f l b n)

-- ---- places known by their members

-- an ascending list that has just the numbers that pass
places_are : (f h : ℕ → Bool) (i k n : ℕ) (l : List ℕ) → i + k ≡ n → AllIn f i n l → ((x : ℕ) → Memᴰ x l → Is (h x))
    → ((x : ℕ) → i ≤ x → x < n → Is (h x) → Memᴰ x l) → places h i k ≡ l
unfolding places
places_are f h i zero n [] e a p q = refl
places_are f h i zero n (x ∷ l) e a p q = absurd (omega (arith, a.0, a.1))
places_are f h i (suc k) n [] e a p q =
    if_F (h i) (i ∷ places h (suc i) k) (places h (suc i) k) (λ t. mathlib.Core.List.Memᴰ.not-nil (q i (omega arith) (omega arith) t))
    ∙ places_are f h (suc i) k n [] (omega arith) tt p (λ x b c. q x (omega arith) c)
places_are f h i (suc k) n (x ∷ l) e a p q =
    elim (ℕ_discrete i x) [
      | yes z ↦ (
          let r = places_are f h (suc i) k n l (omega arith) (subst (λ y. AllIn f (suc y) n l) (sym z) a.3) (λ y m. p y (mathlib.Core.List.Memᴰ.tail m))
          (λ y b c t. ⊎_elim (λ w. absurd (omega arith)) (λ m. m) (mathlib.Core.List.Memᴰ.cases_cons (q y (omega arith) c t))) in
          if_T (h i) (i ∷ places h (suc i) k) (places h (suc i) k) (subst (λ y. Is (h y)) (sym z) (p x (mathlib.Core.List.Memᴰ.head refl))) ∙ (λ j. z j ∷ r j))
      | no z ↦
          if_F (h i) (i ∷ places h (suc i) k) (places h (suc i) k)
          (λ t. ⊎_elim z (above_not f (suc x) n i l (omega (arith, a.0)) a.3) (mathlib.Core.List.Memᴰ.cases_cons (q i (omega arith) (omega (arith, a.0, a.1)) t)))
          ∙ places_are f h (suc i) k n (x ∷ l) (omega arith) (omega (arith, a.0), a.1, a.2, a.3) p (λ y b c. q y (omega arith) c)
    ]

-- The numbers that pass f and fail g: where the list l has all of them, and fails g, they are those of l that pass f.
pub took_are : (f g : ℕ → Bool) (n : ℕ) (l new : List ℕ) → AllIn f 0 n new → passing f l ≡ new → ((x : ℕ) → Memᴰ x l → Is (g x) → ⊥)
    → ((x : ℕ) → Is (f x) → (Is (g x) → ⊥) → Memᴰ x l) → places (λ i. f i && not (g i)) 0 n ≡ new
took_are f g n l new a e p q =
    places_are f (λ i. f i && not (g i)) 0 n n new (omega arith) a
    (λ x m. (let r = passing_out f x l (subst (Memᴰ x) (sym e) m) in and_intro (f x) (not (g x)) r.0 (not_T (g x) (p x r.1))))
    (λ x _ _ t. subst (Memᴰ x) e (passing_in f x l (and_0 (f x) (not (g x)) t) (q x (and_0 (f x) (not (g x)) t) (T_not (g x) (and_1 (f x) (not (g x)) t)))))
