-- Numbers of 32 bits as decimal text.
use Rattle.std.specs.Prelude.{List, [], ◌∷◌, ◌++◌, ℕ, zero, suc, ◌+◌, ◌-◌, ◌*◌, ◌/◌, ◌%◌, length, replicate, ltb, eqb}
use Prim.Native.String.{String}
use Rattle.rules.specs.Basics.{whether◌then◌else◌}
use Rattle.page.specs.Page.{ascii}

-- the code of a digit: '0' is 48
abbrev pub glyph : ℕ → ℕ
glyph d = 48 + d

-- the decimal digits of n, the most significant first; at most k of them
unfoldable pub digits_in : ℕ → ℕ → List ℕ
digits_in zero n = []
digits_in (suc k) n = whether ltb n 10 then glyph n ∷ [] else digits_in k (n / 10) ++ (glyph (n % 10) ∷ [])

-- a number of 32 bits has at most ten
abbrev pub digits : ℕ → List ℕ
digits n = digits_in 10 n

-- the number that a decimal text behind the number v comes to
abbrev pub value_from : ℕ → List ℕ → ℕ
value_from v [] = v
value_from v (x ∷ xs) = value_from (v * 10 + (x - 48)) xs

-- right-aligned to w digits, with spaces
abbrev pub padded : ℕ → ℕ → List ℕ
padded w n = replicate (w - length (digits n)) 32 ++ digits n

-- a word and behind it a number
abbrev pub tagged : String → ℕ → List ℕ
tagged w n = ascii w ++ digits n

-- a serial behind the number of its slip, where it is not 0
abbrev pub serial_text : ℕ → List ℕ
serial_text k = whether eqb k 0 then [] else tagged "." k
