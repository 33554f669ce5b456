-- pullup s, n: the first n bytes in one piece.
use Rattle.std.specs.Prelude.{Bool, [], ◌∷◌, ◌++◌, ℕ, suc, ◌+◌, length, take, ltb, leb}
use Rattle.kinds.specs.declared.Refusal.TheVariants.{Slip, Long, Range}
use Rattle.kinds.specs.Limits.{buffer_size}
use Rattle.rules.specs.Basics.{whether◌then◌else◌}
use Rattle.rules.specs.Tables.{Tables}
use Rattle.rules.specs.Chain.{State, spans, first_length, length_of, reads, with_storage}
use Rattle.rules.specs.Room.{new_buffers}
use Rattle.rules.specs.Build.{Plan, under_freed, laid, stored}
use Rattle.rules.specs.Rule.{Rule, Name, ◌⇐◌, unnamed, Wants, want, giving, alters, Meaning, means, reading, Asks, asking}
use Rattle.rules.specs.Drop.{dropped, drop_back, drop_pieces, front_own}

-- n bytes on a new buffer, before what drop of n leaves
abbrev pub pulled : Tables → ℕ → ℕ → Plan
pulled T s n =
    let p = dropped T s n in
    record { base = p.base; more = laid T.stock (new_buffers T 1) n ++ p.more; tail = p.tail }

-- the first piece has the n bytes, or n is 0: nothing changes
abbrev pub in_first : Tables → ℕ → ℕ → Bool
in_first T s n = leb n (first_length (spans T s))

-- Else they are copied to a new buffer, and the rest of it is zero; only then is anything given back.
unfoldable pub pullup_after : ℕ → ℕ → State → State
pullup_after s n S =
    let T = S.tables in
    whether in_first T s n then S
    else under_freed (with_storage S (stored T.stock S.storage (new_buffers T 1) (take n (reads S s)))) (pulled T s n) s

unfoldable pub pullup_wants : Tables → ℕ → ℕ → Wants
pullup_wants T s n = whether in_first T s n then want 0 0 0 else giving (drop_back T s n) (suc (length (dropped T s n).more)) 1

abbrev pub pullup : Name → ℕ → State → Rule
pullup s n S =
    let T = S.tables in
    alters ((Slip ⇐ unnamed T s) ∷ (Long ⇐ ltb buffer_size n) ∷ (Range ⇐ ltb (length_of T s.slip) n) ∷ [])
    (pullup_wants T s.slip n) 0 (pullup_after s.slip n S)

-- n bytes at once; where the first piece does not have them, a piece and a buffer, and what drop of n asks and gives back first
abbrev pub pullup_asks : Name → ℕ → State → Asks
pullup_asks s n S =
    let T = S.tables in
    asking n n 0 (whether leb n (first_length (spans T s.slip)) then want 0 0 0 else giving (front_own T s.slip n) (1 + drop_pieces T s.slip n) 1)

-- s reads as before
abbrev pub pullup_call : Name → ℕ → Meaning
pullup_call s n = means (s ∷ []) (pullup s n) (λ S. reading s.slip (reads S s.slip) ∷ []) (pullup_asks s n)
