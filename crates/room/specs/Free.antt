-- The lowest free numbers.
use Rattle.std.specs.Prelude.{◌≡◌, ◌<◌, Bool, true, false, List, [], ◌∷◌, Option, MatchOption, ℕ, zero, suc, ◌-◌, length, leb}
use Rattle.rules.specs.Basics.{places}

-- the first of a list, or n where it has none
abbrev pub first_or : ℕ → List ℕ → ℕ
first_or n [] = n
first_or n (x ∷ xs) = x

-- the lowest number from i on and below n that passes, or n where none does
unfoldable pub first_from : (ℕ → Bool) → ℕ → ℕ → ℕ
first_from f i n = first_or n (places f i (n - i))

-- the lowest number below n that passes, or n; 0 where none is wanted
abbrev pub lowest_for : (ℕ → Bool) → ℕ → ℕ → ℕ
lowest_for f zero n = 0
lowest_for f (suc k) n = first_from f 0 n

-- at least k of the numbers from i on and below n pass
abbrev pub enough_from : (ℕ → Bool) → ℕ → ℕ → ℕ → Bool
enough_from f k i n = leb k (length (places f i (n - i)))

-- r is the lowest below n that passes, where any is wanted, and b says whether k pass
abbrev pub RoomFor : (ℕ → Bool) → ℕ → ℕ → ℕ → Bool → Type 0
RoomFor f k n r b = (r ≡ lowest_for f k n) × (b ≡ leb k (length (places f 0 n)))

-- o is the lowest below n that passes, or nothing where none does
abbrev pub LowestIn : {N : Type 0} → (N → ℕ) → (ℕ → Bool) → ℕ → Option N → Type 0
LowestIn number f n o = MatchOption o (first_from f 0 n ≡ n) (λ x. (number x ≡ first_from f 0 n) × (number x < n))

-- o is the lowest below n that passes, or 0 where none is wanted, if k pass; and nothing if fewer do
abbrev pub RoomIn : {N : Type 0} → (N → ℕ) → (ℕ → Bool) → ℕ → ℕ → Option N → Type 0
RoomIn number f k n o = MatchOption o (false ≡ leb k (length (places f 0 n))) (λ x. RoomFor f k n (number x) true)
