-- Where a view lies, and its bytes.
use Rattle.std.specs.Prelude.{List, ℕ, ◌+◌, ◌≤◌, length, take, drop, eqb}
use Rattle.rules.specs.Basics.{whether◌then◌else◌}
use Rattle.rules.specs.Rule.{View}
use Rattle.look.specs.declared.Place.{Place}
use Rattle.look.specs.declared.Place.TheVariants.{Storage, Scratch}

-- a place as the rules write it
abbrev pub view_at : Place → View
view_at (Storage a) = record { in_scratch = 0; start = a }
view_at Scratch = record { in_scratch = 1; start = 0 }

-- the place of a view that the rules write
abbrev pub place_of : View → Place
place_of v = whether eqb v.in_scratch 0 then Storage v.start else Scratch

-- the n bytes at a place: from a start of storage, or from the front of the scratch
abbrev pub part_at : List ℕ → List ℕ → Place → ℕ → List ℕ
part_at storage scratch (Storage a) n = take n (drop a storage)
part_at storage scratch Scratch n = take n scratch

-- n bytes are there
abbrev pub Lies : List ℕ → List ℕ → Place → ℕ → Type 0
Lies storage scratch (Storage a) n = a + n ≤ length storage
Lies storage scratch Scratch n = n ≤ length scratch
