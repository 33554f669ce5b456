-- Where a buffer lies in storage, as storage is told it: today every buffer has the one size. Assumes nothing.
use mathlib.Core.Path.{◌≡◌, sym}
use mathlib.Core.List.{List}
use Prim.Native.Nat.{ℕ, ◌+◌, ◌*◌, ◌≤◌, ◌<◌}
use native.Mathlib.Omega.{arith}
use lib.ListN.{length}
use Rattle.kinds.specs.Limits.{buffer_size}
use Rattle.kinds.specs.Sizes.{size_of, start_of}
use Rattle.kinds.proofs.Sizes.{start_step, size_one, start_one}
use Rattle.rules.specs.Storage.{filled_at, filled}
use Rattle.rules.proofs.Contents.{Fit}

-- buffer b has the z bytes from byte a on
pub record Place (Z : List ℕ) (b a z : ℕ) : Type 0 where
  pub start : a ≡ start_of Z b
  pub size : z ≡ size_of Z b

-- each buffer lies behind as many full ones as come before it
pub place_one : (Z : List ℕ) (b : ℕ) → Place Z b (buffer_size * b) buffer_size
place_one Z b = record { start = sym (start_one Z b); size = sym (size_one Z b) }

module _ {Z : List ℕ} {b a z : ℕ} (l : Place Z b a z) where
  -- to fill the place is to fill the buffer
  pub place_filled : (st xs : List ℕ) → filled_at st a z xs ≡ filled Z st b xs
  place_filled st xs = λ i. filled_at st (l.start i) (l.size i) xs

  -- it lies in the storage
  pub place_inside : (B : ℕ) (st : List ℕ) → Fit Z B st → b < B → a + z ≤ length st
  place_inside B st f h = omega (arith, start_step Z b B h)
