-- A list of records as a list of numbers.
use Rattle.std.specs.Prelude.{List, [], ◌∷◌, ℕ}
use Rattle.list.specs.declared.Stretch.{Stretch}

-- two for each record: the position, then the length
unfoldable pub numbers : List Stretch → List ℕ
numbers [] = []
numbers (x ∷ xs) = x.position ∷ x.length ∷ numbers xs
