-- append a, b: a reads as a then b; b is vacant, and its serial goes up.
use Rattle.std.specs.Prelude.{Bool, ◌||◌, List, [], ◌∷◌, ◌++◌, ℕ, ◌-◌, length, drop, eqb}
use Rattle.kinds.specs.declared.Refusal.TheVariants.{Slip, Same}
use Rattle.rules.specs.Basics.{whether◌then◌else◌}
use Rattle.rules.specs.Tables.{Tables, slip, head_of, vacant, set_slip}
use Rattle.rules.specs.Chain.{State, Stretch, spans, reads, with_tables, aging, chain, own_of}
use Rattle.rules.specs.Room.{free_pieces}
use Rattle.rules.specs.Build.{built, built_link, behind_own}
use Rattle.rules.specs.Rule.{Rule, Name, ◌⇐◌, unnamed, want, alters, Meaning, means, reading, vacating, Asks, asks_new}

-- the stretches of a's pieces that are not own, which are replaced
abbrev pub not_own : Tables → ℕ → List Stretch
not_own T a = drop (length (own_of T a)) (spans T a)

-- the chain of s is empty; either chain is
abbrev pub is_empty : Tables → ℕ → Bool
is_empty T s = eqb (head_of T s) 0

abbrev pub one_empty : Tables → ℕ → ℕ → Bool
one_empty T a b = is_empty T a || is_empty T b

-- b's head behind the new pieces, and these behind a's own
unfoldable pub joined : ℕ → ℕ → State → State
joined a b S =
    let T = S.tables in
    let m = head_of T b in
    behind_own (with_tables S (built (set_slip T b vacant) (free_pieces T) (not_own T a) m)) a (own_of T a) (built_link (free_pieces T) (not_own T a) m)

-- an empty a takes b's head; with an empty b it stays
unfoldable pub appended : ℕ → ℕ → State → State
appended a b S =
    let T = S.tables in
    whether is_empty T a then with_tables S (set_slip (set_slip T b vacant) a (slip T b))
    else whether is_empty T b then with_tables S (set_slip T b vacant)
    else joined a b S

abbrev pub append_after : ℕ → ℕ → State → State
append_after a b S = aging b (appended a b S)

abbrev pub append : Name → Name → State → Rule
append a b S =
    let T = S.tables in
    alters ((Slip ⇐ (unnamed T a || unnamed T b)) ∷ (Same ⇐ eqb a.slip b.slip) ∷ [])
    (want 0 (whether one_empty T a.slip b.slip then 0 else length (not_own T a.slip)) 0) 0 (append_after a.slip b.slip S)

-- a piece for each piece of a that is not own, where both have bytes
abbrev pub append_asks : Name → Name → State → Asks
append_asks a b S =
    let T = S.tables in
    asks_new (want 0 (whether eqb (length (reads S a.slip)) 0 || eqb (length (reads S b.slip)) 0 then 0 else length (chain T a.slip) - length (own_of T a.slip)) 0)

-- a reads as a then b; b is vacant
abbrev pub append_call : Name → Name → Meaning
append_call a b = means (a ∷ b ∷ []) (append a b) (λ S. reading a.slip (reads S a.slip ++ reads S b.slip) ∷ vacating b.slip ∷ []) (append_asks a b)
