-- pack s: the chain's bytes put afresh under the same slip.
use Rattle.std.specs.Prelude.{Bool, [], ◌∷◌, ℕ, length, leb}
use Rattle.kinds.specs.declared.Refusal.TheVariants.{Slip}
use Rattle.rules.specs.Basics.{whether◌then◌else◌}
use Rattle.rules.specs.Tables.{Tables}
use Rattle.rules.specs.Chain.{State, chain, length_of, reads, with_storage}
use Rattle.rules.specs.Room.{free_pieces, new_buffers}
use Rattle.rules.specs.Build.{plain, under_old, buffers_for, laid, stored}
use Rattle.rules.specs.Rule.{Rule, Name, ◌⇐◌, unnamed, Wants, want, alters, Meaning, means, reading, Asks, asks_new}

-- a chain of at most one piece: nothing changes
abbrev pub in_one : Tables → ℕ → Bool
in_one T s = leb (length (chain T s)) 1

unfoldable pub pack_after : ℕ → State → State
pack_after s S =
    let T = S.tables in
    let bs = new_buffers T (buffers_for (length_of T s)) in
    whether in_one T s then S
    else under_old (with_storage S (stored T.stock S.storage bs (reads S s))) (plain T (laid T.stock bs (length_of T s))) (free_pieces T) s

unfoldable pub pack_wants : Tables → ℕ → Wants
pack_wants T s = whether in_one T s then want 0 0 0 else want 0 (buffers_for (length_of T s)) (buffers_for (length_of T s))

abbrev pub pack : Name → State → Rule
pack s S = alters ((Slip ⇐ unnamed S.tables s) ∷ []) (pack_wants S.tables s.slip) 0 (pack_after s.slip S)

-- a piece and a buffer for each 512 bytes begun, where the chain has more than one piece
abbrev pub pack_asks : Name → State → Asks
pack_asks s S =
    let k = buffers_for (length (reads S s.slip)) in
    asks_new (whether leb (length (chain S.tables s.slip)) 1 then want 0 0 0 else want 0 k k)

-- s reads as before
abbrev pub pack_call : Name → Meaning
pack_call s = means (s ∷ []) (pack s) (λ S. reading s.slip (reads S s.slip) ∷ []) (pack_asks s)
