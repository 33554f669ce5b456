-- list s into a lent list of numbers: one record for each piece in chain order, and the rest of the list is unchanged.
use Rattle.std.specs.Prelude.{List, [], ◌∷◌, ℕ, ◌*◌, length, ltb}
use Rattle.kinds.specs.declared.Refusal.TheVariants.{Slip, Narrow}
use Rattle.rules.specs.Chain.{State, Stretch, spans, position_of, chain}
use Rattle.rules.specs.Rule.{Rule, Name, ◌⇐◌, unnamed, want, no_view, Meaning, looks, Asks, asking}
use Rattle.rules.specs.Read.{copied}

-- the records of stretches, two numbers each: the position in storage, then the length (a scatter list)
unfoldable pub records : List ℕ → List Stretch → List ℕ
records Z [] = []
records Z (x ∷ xs) = position_of Z x ∷ x.len ∷ records Z xs

abbrev pub wire_list : Name → List ℕ → State → Rule
wire_list s list S =
    let xs = spans S.tables s.slip in
    record {
      judged = (Slip ⇐ unnamed S.tables s) ∷ (Narrow ⇐ ltb (length list) (length (records S.tables.stock xs))) ∷ [];
      wants = want 0 0 0;
      after = S;
      number = length xs;
      output = copied (records S.tables.stock xs) list;
      view = no_view;
    }

-- two numbers for each piece, copied
abbrev pub list_asks : Name → State → Asks
list_asks s S = asking 0 0 (2 * length (chain S.tables s.slip)) (want 0 0 0)

-- it changes nothing, and is lent the list
abbrev pub list_call : Name → List ℕ → Meaning
list_call s list = looks (s ∷ []) list (wire_list s list) (list_asks s)
