-- The bytes of storage that a call writes: a buffer filled, and a buffer cleaned.
use Rattle.std.specs.Prelude.{◌≡◌, List, [], ◌++◌, ℕ, ◌+◌, ◌-◌, length, take, drop, replicate}
use Rattle.kinds.specs.Sizes.{size_of, start_of}
use Rattle.rules.specs.Chain.{Stretch, bytes_of}

-- Storage with the z bytes from byte a on set to xs and then zeros: only they are written.
unfoldable pub filled_at : List ℕ → ℕ → ℕ → List ℕ → List ℕ
filled_at st a z xs = take a st ++ ((take z xs ++ replicate (z - length xs) 0) ++ drop (a + z) st)

-- storage with buffer b set to xs and then zeros
abbrev pub filled : List ℕ → List ℕ → ℕ → List ℕ → List ℕ
filled Z st b xs = filled_at st (start_of Z b) (size_of Z b) xs

-- storage with every byte of buffer b set to zero
abbrev pub cleaned : List ℕ → List ℕ → ℕ → List ℕ
cleaned Z st b = filled Z st b []

-- the whole of buffer b
abbrev pub whole_of : List ℕ → ℕ → Stretch
whole_of Z b = record { buffer = b; offset = 0; len = size_of Z b }

-- every byte of buffer b is zero in the storage st
abbrev pub Zeroed : List ℕ → List ℕ → ℕ → Type 0
Zeroed Z st b = bytes_of Z st (whole_of Z b) ≡ replicate (size_of Z b) 0
