-- dup s: a new slip on one new piece equal to the head, sharing its next and buffer (bf_dupacc).
use Rattle.std.specs.Prelude.{[], ◌∷◌, ℕ, zero, suc, min, length}
use Rattle.kinds.specs.declared.Refusal.TheVariants.{Slip}
use Rattle.rules.specs.Tables.{Tables, piece, head_of, name_of}
use Rattle.rules.specs.Chain.{State, stretch, reads, with_tables}
use Rattle.rules.specs.Room.{free_pieces, new_slip}
use Rattle.rules.specs.Release.{shared}
use Rattle.rules.specs.Build.{Plan, plain, under_new}
use Rattle.rules.specs.Rule.{Rule, Name, ◌⇐◌, unnamed, want, alters, Meaning, means, reading, Asks, asks_new}

-- a second chain like that of the link n; an empty chain needs no piece
unfoldable pub dup_plan : Tables → ℕ → Plan
dup_plan T zero = plain T []
dup_plan T (suc d) = record { base = shared T (piece T d).next; more = stretch (piece T d) ∷ []; tail = (piece T d).next }

unfoldable pub dup_after : ℕ → State → State
dup_after s S = let T = S.tables in with_tables S (under_new (dup_plan T (head_of T s)) (free_pieces T) (new_slip T))

abbrev pub dup : Name → State → Rule
dup s S =
    let T = S.tables in
    alters ((Slip ⇐ unnamed T s) ∷ []) (want 1 (length (dup_plan T (head_of T s.slip)).more) 0) (name_of T (new_slip T)) (dup_after s.slip S)

-- a new slip, and a piece where s has bytes
abbrev pub dup_asks : Name → State → Asks
dup_asks s S = asks_new (want 1 (min 1 (length (reads S s.slip))) 0)

-- the new slip reads what s reads
abbrev pub dup_call : Name → Meaning
dup_call s = means (s ∷ []) (dup s) (λ S. reading (new_slip S.tables) (reads S s.slip) ∷ []) (dup_asks s)
