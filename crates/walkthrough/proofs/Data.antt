-- The morning's data, byte by byte. Assumes nothing.
use mathlib.Core.Path.{◌≡◌, ap}
use mathlib.Core.List.{List, [], ◌∷◌, ◌++◌}
use Prim.Native.Nat.{ℕ, zero, suc, ◌+◌, ◌%◌}
use native.Mathlib.Nat.{add-zero}
use native.Mathlib.Numerals.{add-one}
use native.Mathlib.Omega.{arith}
use Rattle.rules.specs.Morning.{byte_run}
use Rattle.std.proofs.lemmas.Grind.{common_steps}

-- the last byte of a run
run_last : (a n : ℕ) → byte_run a (suc n) ≡ byte_run a n ++ ((a + n) % 251 ∷ [])
run_last a zero = rw (add-zero a)
run_last a (suc n) =
    let e : a + suc n ≡ suc a + n = omega arith in
    ap (λ (l : List ℕ). a % 251 ∷ l) (rw e (run_last (suc a) n))

-- the run from 0 with a byte more
pub run_more : (n : ℕ) → byte_run 0 (n + 1) ≡ byte_run 0 n ++ (n % 251 ∷ [])
run_more n = let z : 0 + n ≡ n = omega arith in rw add-one (rw z at (run_last 0 n))

-- what the search is given of the data
pub ruleset filling = (common_steps, run_more)
