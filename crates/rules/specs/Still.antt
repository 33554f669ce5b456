-- Operations that leave every byte as it is.
use Rattle.std.specs.Prelude.{◌≡◌, ◌≤◌, length}
use Rattle.rules.specs.Chain.{State, chain, spans, first_length, reads}
use Rattle.rules.specs.Step.{Operation, Audit, Put, Free, Dup, Cut, Append, Drop, Keep, Pullup, Pack, Length, Read, Show, WireList}

-- Nothing to do: drop of no bytes, keep of all, pullup of what the first piece has, pack of at most one piece, and every call that only looks.
abbrev pub Still : Operation → State → Type 0
Still Audit S = Unit {0}
Still (Put input) S = ⊥
Still (Free s) S = ⊥
Still (Dup s) S = ⊥
Still (Cut s off n) S = ⊥
Still (Append a b) S = ⊥
Still (Drop s n) S = n ≡ 0
Still (Keep s n) S = n ≡ length (reads S s.slip)
Still (Pullup s n) S = n ≤ first_length (spans S.tables s.slip)
Still (Pack s) S = length (chain S.tables s.slip) ≤ 1
Still (Length s) S = Unit {0}
Still (Read s off n out) S = Unit {0}
Still (Show s n scratch) S = Unit {0}
Still (WireList s list) S = Unit {0}
