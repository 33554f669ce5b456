-- cut s, off, len: a new slip on one new piece for each piece that overlaps the range, on the same buffers.
use Rattle.std.specs.Prelude.{[], ◌∷◌, ℕ, ◌+◌, length, take, drop, ltb}
use Rattle.kinds.specs.declared.Refusal.TheVariants.{Slip, Range}
use Rattle.rules.specs.Tables.{name_of}
use Rattle.rules.specs.Chain.{State, spans, length_of, cut_out, reads, with_tables, overlaps}
use Rattle.rules.specs.Room.{free_pieces, new_slip}
use Rattle.rules.specs.Build.{plain, under_new}
use Rattle.rules.specs.Rule.{Rule, Name, ◌⇐◌, unnamed, want, alters, Meaning, means, reading, Asks, asking}

unfoldable pub cut_after : ℕ → ℕ → ℕ → State → State
cut_after s off n S = let T = S.tables in with_tables S (under_new (plain T (cut_out (spans T s) off n)) (free_pieces T) (new_slip T))

-- off + n is a whole number: it does not wrap
abbrev pub cut : Name → ℕ → ℕ → State → Rule
cut s off n S =
    let T = S.tables in
    alters ((Slip ⇐ unnamed T s) ∷ (Range ⇐ ltb (length_of T s.slip) (off + n)) ∷ []) (want 1 (length (cut_out (spans T s.slip) off n)) 0)
    (name_of T (new_slip T)) (cut_after s.slip off n S)

-- bytes up to off + n; a new slip, and a piece for each piece that overlaps the range
abbrev pub cut_asks : Name → ℕ → ℕ → State → Asks
cut_asks s off n S = asking 0 (off + n) 0 (want 1 (overlaps (spans S.tables s.slip) 0 off n) 0)

-- the new slip reads the n bytes of s from off on
abbrev pub cut_call : Name → ℕ → ℕ → Meaning
cut_call s off n = means (s ∷ []) (cut s off n) (λ S. reading (new_slip S.tables) (take n (drop off (reads S s.slip))) ∷ []) (cut_asks s off n)
