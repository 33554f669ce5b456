-- Decimal digits are what std writes of a number, and read back as that number. Assumes nothing.
use mathlib.Core.Path.{◌≡◌, sym, ap, ◌∙◌}
use mathlib.Core.List.{List, [], ◌∷◌, ◌++◌}
use Prim.Native.Nat.{ℕ, suc, ◌+◌, ◌-◌, ◌*◌, ◌/◌, ◌%◌, ◌^◌, ◌≤◌, ◌<◌}
use native.Mathlib.Nat.{div-add-mod'}
use native.Mathlib.Omega.{arith}
use lib.Dec.{ltb→lt, lt→ltb}
use lib.ListN.{length, length-append}
use Rattle.std.specs.Fmt.{decimal}
use Rattle.std.proofs.lemmas.Fmt.{decimal_step, decimal_by_steps, decimal_from_appends, length-decimal-le}
use Rattle.rules.proofs.Logic.{if_T, if_F}
use Rattle.page.proofs.Ink.{inks}
use Rattle.page.specs.Digits.{glyph, digits_in, digits, value_from}

-- ---- the definition's cases

pub digits_one : (k n : ℕ) → n < 10 → digits_in (suc k) n ≡ glyph n ∷ []
unfolding digits_in
digits_one k n h = if_T _ _ _ (lt→ltb n 10 h)

pub digits_more : (k n : ℕ) → 10 ≤ n → digits_in (suc k) n ≡ digits_in k (n / 10) ++ (glyph (n % 10) ∷ [])
unfolding digits_in
digits_more k n h = if_F _ _ _ (λ t. let l = ltb→lt n 10 t in absurd (omega arith))

-- ---- numbers of 32 bits

pub digits_decimal : (n : ℕ) → n < 2 ^ 32 → digits n ≡ decimal n
digits_decimal n h =
    decimal_from_appends digits_in (record { one = digits_one; more = digits_more }) 10 n (omega arith) (length-decimal-le 10 n (omega arith) (omega arith) (omega arith))

-- a single digit
pub digits_least : (n : ℕ) → n < 10 → digits n ≡ glyph (n % 10) ∷ []
digits_least n h = let d : n ≡ n % 10 = omega arith in digits_one 9 n h ∙ ap (λ (m : ℕ). glyph m ∷ []) d

-- the last digit, behind those of the rest
pub digits_last : (n : ℕ) → 10 ≤ n → n < 2 ^ 32 → digits n ≡ digits (n / 10) ++ (glyph (n % 10) ∷ [])
digits_last n m h =
    let rest : n / 10 < 2 ^ 32 = omega arith in
    rw (digits_decimal n h, digits_decimal (n / 10) rest, decimal_step n m (omega arith))

-- how many they are
pub digits_count : (n : ℕ) → 10 ≤ n → n < 2 ^ 32 → length (digits (n / 10)) + 1 ≡ length (digits n)
digits_count n m h = sym (length-append (digits (n / 10)) (glyph (n % 10) ∷ [])) ∙ ap length (sym (digits_last n m h))

pub digits_few : (n : ℕ) → n < 2 ^ 32 → length (digits n) ≤ 10
digits_few n h = rw (digits_decimal n h) (length-decimal-le 10 n (omega arith) (omega arith) (omega arith))

-- what the search is given of numbers
pub ruleset figures = (inks, digits_least, digits_last, digits_count, digits_few)

-- ---- read back

value_last : (xs : List ℕ) (v d : ℕ) → value_from v (xs ++ (glyph d ∷ [])) ≡ value_from v xs * 10 + d
value_last [] v d = let e : glyph d - 48 ≡ d = omega arith in rw e
value_last (x ∷ xs) v d = value_last xs (v * 10 + (x - 48)) d

-- the digits of a number of 32 bits read back as that number
pub digits_value : (n : ℕ) → n < 2 ^ 32 → value_from 0 (digits n) ≡ n
digits_value n h =
    ap (value_from 0) (digits_decimal n h)
    ∙ decimal_by_steps (λ m ds. value_from 0 ds ≡ m) (λ m _. value_last [] 0 m ∙ omega arith) (λ m ds _ q. value_last ds 0 (m % 10) ∙ omega (arith, q, div-add-mod' m 10)) n (omega arith)
