-- Where buffers lie, and how large they are. Assumes nothing.
use mathlib.Core.Path.{◌≡◌, refl, ap}
use mathlib.Core.List.{List}
use Prim.Native.Nat.{ℕ, zero, suc, ◌+◌, ◌*◌, ◌≤◌, ◌<◌}
use native.Mathlib.Decide.{dec_lt}
use native.Mathlib.Omega.{arith}
use Rattle.kinds.specs.Limits.{buffer_size}
use Rattle.kinds.specs.Sizes.{largest, size_at, class_of, size_of, start_of}

-- one buffer ends before another starts
pub start_step : (Z : List ℕ) (a b : ℕ) → a < b → start_of Z a + size_of Z a ≤ start_of Z b
start_step Z a zero h = absurd (omega arith)
start_step Z a (suc b) h =
    elim (dec_lt a b) [
      | yes l ↦ omega (arith, start_step Z a b l)
      | no l ↦ (let e : a ≡ b = omega arith in let f = ap (start_of Z) e in let g = ap (size_of Z) e in omega arith)
    ]

-- no buffer has more bytes than the largest size
pub size_most : (Z : List ℕ) (b : ℕ) → size_of Z b ≤ largest
size_most Z b = of (class_of Z b)
  where
    of : (c : ℕ) → size_at c ≤ largest
    of zero = omega arith
    of (suc c) = omega arith

-- so buffer b starts within b of them
pub start_most : (Z : List ℕ) (b : ℕ) → start_of Z b ≤ largest * b
start_most Z zero = omega arith
start_most Z (suc b) = omega (arith, size_most Z b, start_most Z b)

-- ---- while the table has one size

-- every buffer has it
pub size_one : (Z : List ℕ) (b : ℕ) → size_of Z b ≡ buffer_size
size_one Z b = of (class_of Z b)
  where
    of : (c : ℕ) → size_at c ≡ buffer_size
    of zero = refl
    of (suc c) = refl

-- so buffer b starts at b of them
pub start_one : (Z : List ℕ) (b : ℕ) → start_of Z b ≡ buffer_size * b
start_one Z zero = refl
start_one Z (suc b) = omega (arith, size_one Z b, start_one Z b)
