-- The table of sizes, which size each buffer has, and where it lies in storage: size classes.
use Rattle.std.specs.Prelude.{ℕ, zero, suc, ◌+◌, ◌-◌, Bool, true, false, List, [], ◌∷◌, get_or, ltb}

-- the sizes of buffers, smallest first, and the largest: the size classes
abbrev pub sizes : List ℕ
sizes = 512 ∷ []

abbrev pub largest : ℕ
largest = 512

-- the bytes of size class c
abbrev pub size_at : ℕ → ℕ
size_at c = get_or sizes c largest

pick : {A : Type 0} → Bool → A → A → A
pick true x y = x
pick false x y = y

-- Z has the count of buffers of each size: a pool's stock.
-- the size class of buffer b: buffers are numbered smallest size first, and past the last one the last size goes on
unfoldable pub class_of : List ℕ → ℕ → ℕ
unfolding pick
class_of [] b = 0
class_of (k ∷ []) b = 0
class_of (k ∷ l ∷ ks) b = let more = suc (class_of (l ∷ ks) (b - k)) in pick (ltb b k) 0 more

-- the bytes of buffer b, and the byte of storage at which it starts: the sum of the sizes before it
abbrev pub size_of : List ℕ → ℕ → ℕ
size_of Z b = size_at (class_of Z b)

abbrev pub start_of : List ℕ → ℕ → ℕ
start_of Z zero = 0
start_of Z (suc b) = size_of Z b + start_of Z b
