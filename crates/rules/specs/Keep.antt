-- keep s, n: the first n bytes stay.
use Rattle.std.specs.Prelude.{Bool, List, [], ◌∷◌, ℕ, ◌-◌, length, take, drop, ltb, eqb}
use Rattle.kinds.specs.declared.Refusal.TheVariants.{Slip, Range}
use Rattle.rules.specs.Basics.{whether◌then◌else◌, last_of}
use Rattle.rules.specs.Tables.{Tables, piece, head_of, set_piece, with_place}
use Rattle.rules.specs.Chain.{State, Stretch, spans, length_of, own_pieces, cut_out, reads, with_tables, overlaps, own_of}
use Rattle.rules.specs.Room.{free_pieces}
use Rattle.rules.specs.Build.{built, built_link, behind_own}
use Rattle.rules.specs.Rule.{Rule, Name, ◌⇐◌, unnamed, want, alters, Meaning, means, reading, Asks, asking}

-- the stretches that stay, the last one shortened
abbrev pub kept : Tables → ℕ → ℕ → List Stretch
kept T s n = cut_out (spans T s) 0 n

-- those of their pieces that are own; and the stretches of the others, which are replaced
abbrev pub kept_own : Tables → ℕ → ℕ → List ℕ
kept_own T s n = own_pieces (length (kept T s n)) T (head_of T s)

abbrev pub kept_not_own : Tables → ℕ → ℕ → List Stretch
kept_not_own T s n = drop (length (kept_own T s n)) (kept T s n)

-- the last of the own pieces ds takes the place of the last of the stretches xs
unfoldable pub shortened : Tables → List ℕ → List Stretch → Tables
shortened T [] xs = T
shortened T (d ∷ ds) [] = T
shortened T (d ∷ ds) (x ∷ xs) =
    let l = last_of d ds in
    let y = last_of x xs in
    set_piece T l (with_place (piece T l) y.offset y.len)

-- Where all that stay are own the last is shortened in place; else the others are replaced.
unfoldable pub kept_by : State → ℕ → List ℕ → List Stretch → List Stretch → State
kept_by S s own xs [] = behind_own (with_tables S (shortened S.tables own xs)) s own 0
kept_by S s own xs (y ∷ ys) =
    let fs = free_pieces S.tables in
    behind_own (with_tables S (built S.tables fs (y ∷ ys) 0)) s own (built_link fs (y ∷ ys) 0)

-- n is the whole length: nothing changes
abbrev pub keeps_all : Tables → ℕ → ℕ → Bool
keeps_all T s n = eqb n (length_of T s)

unfoldable pub keep_after : ℕ → ℕ → State → State
unfolding kept_by
keep_after s n S =
    let T = S.tables in
    whether keeps_all T s n then S else kept_by S s (kept_own T s n) (kept T s n) (kept_not_own T s n)

abbrev pub keep : Name → ℕ → State → Rule
keep s n S =
    let T = S.tables in
    alters ((Slip ⇐ unnamed T s) ∷ (Range ⇐ ltb (length_of T s.slip) n) ∷ [])
    (want 0 (whether keeps_all T s.slip n then 0 else length (kept_not_own T s.slip n)) 0) 0 (keep_after s.slip n S)

-- a piece for each piece that the n bytes overlap and that is not own, where they are not the whole
abbrev pub keep_asks : Name → ℕ → State → Asks
keep_asks s n S =
    let T = S.tables in
    asking 0 n 0 (want 0 (whether eqb n (length (reads S s.slip)) then 0 else overlaps (spans T s.slip) 0 0 n - length (own_of T s.slip)) 0)

-- s reads the first n of its bytes
abbrev pub keep_call : Name → ℕ → Meaning
keep_call s n = means (s ∷ []) (keep s n) (λ S. reading s.slip (take n (reads S s.slip)) ∷ []) (keep_asks s n)
