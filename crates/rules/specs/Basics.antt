-- Tests, sums and lists by index: the notation of the other modules.
use Rattle.std.specs.Prelude.{◌≡◌, ◌⊎◌, Bool, true, false, ◌&&◌, ◌||◌, List, [], ◌∷◌, ℕ, zero, suc, ◌+◌, T, eqb}

-- the test b passes
abbrev pub Is : Bool → Type 0
Is b = T b

unfoldable pub whether◌then◌else◌ : {A : Type 0} → Bool → A → A → A
whether true then x else y = x
whether false then x else y = y

infixr 10 whether◌then◌else◌
-- 1 for a test that passes
abbrev pub bit : Bool → ℕ
bit true = 1
bit false = 0

-- f 0 + .. + f (n - 1)
abbrev pub sum_to : ℕ → (ℕ → ℕ) → ℕ
sum_to zero f = 0
sum_to (suc n) f = f n + sum_to n f

-- f 0, .., f (n - 1) all pass
unfoldable pub all_to : ℕ → (ℕ → Bool) → Bool
all_to zero f = true
all_to (suc n) f = f n && all_to n f

-- one of f 0, .., f (n - 1) passes
unfoldable pub any_to : ℕ → (ℕ → Bool) → Bool
any_to zero f = false
any_to (suc n) f = f n || any_to n f

-- the list f 0, .., f (n - 1)
abbrev pub table : {A : Type 0} → ℕ → (ℕ → A) → List A
table zero f = []
table (suc n) f = f 0 ∷ table n (λ i. f (suc i))

-- those of the k numbers from i on that pass, lowest first
unfoldable pub places : (ℕ → Bool) → ℕ → ℕ → List ℕ
places f i zero = []
places f i (suc k) = let more = places f (suc i) k in whether f i then i ∷ more else more

-- the numbers of a list that pass, in the list's order
unfoldable pub passing : (ℕ → Bool) → List ℕ → List ℕ
passing f [] = []
passing f (x ∷ xs) = whether f x then x ∷ passing f xs else passing f xs

-- d stands in the list
unfoldable pub member : ℕ → List ℕ → Bool
member d [] = false
member d (x ∷ xs) = eqb x d || member d xs

-- t is one of the list
abbrev pub Among : {A : Type 0} → List A → A → Type 0
Among [] t = ⊥
Among (s ∷ []) t = t ≡ s
Among (s ∷ r ∷ ss) t = (t ≡ s) ⊎ Among (r ∷ ss) t

-- the last of x and the elements after it
abbrev pub last_of : {A : Type 0} → A → List A → A
last_of x [] = x
last_of x (y ∷ ys) = last_of y ys
