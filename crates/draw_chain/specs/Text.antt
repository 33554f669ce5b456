-- The text of a chain, as p0[b0 0+512] > p1[b1 0+88]x2.
use Rattle.std.specs.Prelude.{List, [], ◌∷◌, ◌++◌, ℕ, leb}
use Rattle.rules.specs.Basics.{whether◌then◌else◌}
use Rattle.rules.specs.Tables.{Piece, Tables, piece}
use Rattle.page.specs.Page.{ascii}
use Rattle.page.specs.Digits.{tagged}

-- a count above 1 marks what is shared
abbrev pub times_text : ℕ → List ℕ
times_text n = whether leb n 1 then [] else tagged "x" n

unfoldable pub piece_text : ℕ → Piece → List ℕ
piece_text d x = tagged "p" d ++ tagged "[b" x.buffer ++ tagged " " x.offset ++ tagged "+" x.len ++ ascii "]" ++ times_text x.count

-- a piece behind another, and all that follow the first
unfoldable pub joined_text : ℕ → Piece → List ℕ
joined_text d x = ascii " > " ++ piece_text d x

unfoldable pub rest_text : Tables → List ℕ → List ℕ
rest_text T [] = []
rest_text T (d ∷ ds) = joined_text d (piece T d) ++ rest_text T ds

unfoldable pub chain_text : Tables → List ℕ → List ℕ
chain_text T [] = []
chain_text T (d ∷ ds) = piece_text d (piece T d) ++ rest_text T ds
