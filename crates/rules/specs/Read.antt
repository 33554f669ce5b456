-- read s, off, len into a lent output: the bytes are copied to its front, and the rest of it is unchanged.
use Rattle.std.specs.Prelude.{List, [], ◌∷◌, ◌++◌, ℕ, ◌+◌, length, take, drop, ltb}
use Rattle.kinds.specs.declared.Refusal.TheVariants.{Slip, Range, Narrow}
use Rattle.rules.specs.Chain.{State, length_of, reads}
use Rattle.rules.specs.Rule.{Rule, Name, ◌⇐◌, unnamed, want, no_view, Meaning, looks, Asks, asking}

-- xs at the front of a lent output
abbrev pub copied : List ℕ → List ℕ → List ℕ
copied xs out = xs ++ drop (length xs) out

abbrev pub read : Name → ℕ → ℕ → List ℕ → State → Rule
read s off n out S =
    let T = S.tables in
    record {
      judged = (Slip ⇐ unnamed T s) ∷ (Range ⇐ ltb (length_of T s.slip) (off + n)) ∷ (Narrow ⇐ ltb (length out) n) ∷ [];
      wants = want 0 0 0;
      after = S;
      number = n;
      output = copied (take n (drop off (reads S s.slip))) out;
      view = no_view;
    }

-- bytes up to off + n, and n copied
abbrev pub read_asks : ℕ → ℕ → State → Asks
read_asks off n S = asking 0 (off + n) n (want 0 0 0)

-- it changes nothing, and is lent the output
abbrev pub read_call : Name → ℕ → ℕ → List ℕ → Meaning
read_call s off n out = looks (s ∷ []) out (read s off n out) (read_asks off n)
