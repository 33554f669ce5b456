-- put input: the bytes go into fresh pieces on fresh buffers, under a new slip.
use Rattle.std.specs.Prelude.{List, [], ◌∷◌, ℕ, length}
use Rattle.rules.specs.Tables.{name_of}
use Rattle.rules.specs.Chain.{State, state_of}
use Rattle.rules.specs.Room.{free_pieces, new_slip, new_buffers}
use Rattle.rules.specs.Build.{plain, under_new, buffers_for, laid, stored}
use Rattle.rules.specs.Rule.{Rule, want, alters, Meaning, means, reading, Asks, asks_new}

unfoldable pub put_after : List ℕ → State → State
put_after input S =
    let T = S.tables in
    let bs = new_buffers T (buffers_for (length input)) in
    state_of (under_new (plain T (laid T.stock bs (length input))) (free_pieces T) (new_slip T)) (stored T.stock S.storage bs input)

abbrev pub put : List ℕ → State → Rule
put input S =
    let k = buffers_for (length input) in
    alters [] (want 1 k k) (name_of S.tables (new_slip S.tables)) (put_after input S)

-- a new slip, and a piece and a buffer for each 512 bytes begun
abbrev pub put_asks : List ℕ → State → Asks
put_asks input S = let k = buffers_for (length input) in asks_new (want 1 k k)

-- the new slip reads the input
abbrev pub put_call : List ℕ → Meaning
put_call input = means [] (put input) (λ S. reading (new_slip S.tables) input ∷ []) (put_asks input)
