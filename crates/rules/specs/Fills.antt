-- What an operation fills its new buffers with, in whole buffers.
use Rattle.std.specs.Prelude.{◌≡◌, List, [], ◌∷◌, ◌++◌, ℕ, ◌-◌, length, take, replicate}
use Rattle.kinds.specs.Sizes.{size_of}
use Rattle.rules.specs.Chain.{Stretch, State, total, contents, reads}
use Rattle.rules.specs.Step.{Operation, Audit, Put, Free, Dup, Cut, Append, Drop, Keep, Pullup, Pack, Length, Read, Show, WireList}

-- the whole of each of the buffers bs
unfoldable pub wholes : List ℕ → List ℕ → List Stretch
wholes Z [] = []
wholes Z (b ∷ bs) = record { buffer = b; offset = 0; len = size_of Z b } ∷ wholes Z bs

-- in the storage st the buffers bs, one after the other, hold the bytes xs and then zeros
abbrev pub Filled : List ℕ → List ℕ → List ℕ → List ℕ → Type 0
Filled Z st bs xs = contents Z st (wholes Z bs) ≡ xs ++ replicate (total (wholes Z bs) - length xs) 0

-- the bytes that an operation with something to do stores afresh
abbrev pub fills : Operation → State → List ℕ
fills Audit S = []
fills (Put input) S = input
fills (Free s) S = []
fills (Dup s) S = []
fills (Cut s off n) S = []
fills (Append a b) S = []
fills (Drop s n) S = []
fills (Keep s n) S = []
fills (Pullup s n) S = take n (reads S s.slip)
fills (Pack s) S = reads S s.slip
fills (Length s) S = []
fills (Read s off n out) S = []
fills (Show s n scratch) S = []
fills (WireList s list) S = []
