-- drop s, n: the first n bytes go.
use Rattle.std.specs.Prelude.{Bool, true, List, [], ◌∷◌, ℕ, zero, suc, ◌+◌, ◌-◌, length, take, drop, ltb, eqb, leb}
use Rattle.kinds.specs.declared.Refusal.TheVariants.{Slip, Range}
use Rattle.rules.specs.Basics.{whether◌then◌else◌}
use Rattle.rules.specs.Tables.{Piece, Tables, piece, set_piece, with_place}
use Rattle.rules.specs.Chain.{State, stretch, chain, length_of, reads, spans, overlaps, splits, own_of, own_at}
use Rattle.rules.specs.Release.{shared}
use Rattle.rules.specs.Build.{Plan, plain, under_freed}
use Rattle.rules.specs.Rule.{Rule, Name, ◌⇐◌, unnamed, giving, alters, Meaning, means, reading, Asks, asking}

-- a piece without its first n bytes
abbrev pub shorter : Piece → ℕ → Piece
shorter p n = with_place p (p.offset + n) (p.len - n)

-- The cut falls n bytes into piece d. At its border the piece stays; inside, it is shortened
-- in place if own, else an equal new one is shortened and takes its place.
unfoldable pub drop_here : Tables → Bool → ℕ → ℕ → Plan
drop_here T own d zero = record { base = shared T (suc d); more = []; tail = suc d }
drop_here T own d (suc r) =
    whether own
    then record { base = set_piece (shared T (suc d)) d (shorter (piece (shared T (suc d)) d) (suc r)); more = []; tail = suc d }
    else record { base = shared T (piece T d).next; more = stretch (shorter (piece T d) (suc r)) ∷ []; tail = (piece T d).next }

-- what stays of the pieces ds without their first n bytes; own: all before are own
unfoldable pub drop_plan : Tables → Bool → List ℕ → ℕ → Plan
unfolding drop_here
drop_plan T own [] n = plain T []
drop_plan T own (d ∷ ds) n =
    whether leb (piece T d).len n then drop_plan T (own_at T own d) ds (n - (piece T d).len) else drop_here T (own_at T own d) d n

-- what drop of n leaves of the chain of s
abbrev pub dropped : Tables → ℕ → ℕ → Plan
dropped T s n = drop_plan T true (chain T s) n

-- what it gives back first: the pieces that are own once what stays is held, which release frees
abbrev pub drop_back : Tables → ℕ → ℕ → List ℕ
drop_back T s n = own_of (dropped T s n).base s

unfoldable pub drop_after : ℕ → ℕ → State → State
drop_after s n S = whether eqb n 0 then S else under_freed S (dropped S.tables s n) s

abbrev pub drop_first : Name → ℕ → State → Rule
drop_first s n S =
    let T = S.tables in
    alters ((Slip ⇐ unnamed T s) ∷ (Range ⇐ ltb (length_of T s.slip) n) ∷ [])
    (giving (drop_back T s.slip n) (length (dropped T s.slip n).more) 0) 0 (drop_after s.slip n S)

-- A piece where n falls inside a piece that is not own: that piece is the last that the n bytes overlap.
abbrev pub drop_pieces : Tables → ℕ → ℕ → ℕ
drop_pieces T s n = let xs = spans T s in whether leb (overlaps xs 0 0 n) (length (own_of T s)) then 0 else splits xs 0 n

-- The own pieces in front: of those that the n bytes overlap, all but one that n falls inside.
abbrev pub front_own : Tables → ℕ → ℕ → List ℕ
front_own T s n = let xs = spans T s in take (overlaps xs 0 0 n - splits xs 0 n) (own_of T s)

abbrev pub drop_asks : Name → ℕ → State → Asks
drop_asks s n S = let T = S.tables in asking 0 n 0 (giving (front_own T s.slip n) (drop_pieces T s.slip n) 0)

-- s reads its bytes but the first n
abbrev pub drop_call : Name → ℕ → Meaning
drop_call s n = means (s ∷ []) (drop_first s n) (λ S. reading s.slip (drop n (reads S s.slip)) ∷ []) (drop_asks s n)
