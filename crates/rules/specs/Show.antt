-- show s, n: the first n bytes in one stretch, of storage or of the scratch.
use Rattle.std.specs.Prelude.{Bool, not, ◌&&◌, List, [], ◌∷◌, ℕ, length, take, ltb, leb, eqb}
use Rattle.kinds.specs.declared.Refusal.TheVariants.{Slip, Long, Range, Narrow}
use Rattle.kinds.specs.Limits.{buffer_size}
use Rattle.rules.specs.Basics.{whether◌then◌else◌}
use Rattle.rules.specs.Chain.{State, Stretch, spans, first_length, length_of, position_of, reads}
use Rattle.rules.specs.Rule.{Rule, Name, ◌⇐◌, unnamed, want, View, no_view, Meaning, looks, Asks, asking}
use Rattle.rules.specs.Read.{copied}

-- the first piece does not have the n bytes
abbrev pub scattered : List Stretch → ℕ → Bool
scattered xs n = not (leb n (first_length xs))

-- where the first n bytes are seen: for n 0 at the empty start of storage
unfoldable pub view_of : List ℕ → List Stretch → ℕ → View
view_of Z [] n = no_view
view_of Z (x ∷ xs) n =
    whether eqb n 0 then no_view
    else whether scattered (x ∷ xs) n then record { in_scratch = 1; start = 0 }
    else record { in_scratch = 0; start = position_of Z x }

abbrev pub show : Name → ℕ → List ℕ → State → Rule
show s n scratch S =
    let T = S.tables in
    record {
      judged = (Slip ⇐ unnamed T s) ∷ (Long ⇐ ltb buffer_size n) ∷ (Range ⇐ ltb (length_of T s.slip) n)
          ∷ (Narrow ⇐ (scattered (spans T s.slip) n && ltb (length scratch) n)) ∷ [];
      wants = want 0 0 0;
      after = S;
      number = n;
      output = whether scattered (spans T s.slip) n then copied (take n (reads S s.slip)) scratch else scratch;
      view = view_of T.stock (spans T s.slip) n;
    }

-- n bytes at once, copied where the first piece does not have them
abbrev pub show_asks : Name → ℕ → State → Asks
show_asks s n S = asking n n (whether ltb (first_length (spans S.tables s.slip)) n then n else 0) (want 0 0 0)

-- it changes nothing, and is lent the scratch
abbrev pub show_call : Name → ℕ → List ℕ → Meaning
show_call s n scratch = looks (s ∷ []) scratch (show s n scratch) (show_asks s n)
