-- What a call gives back first, in the recount's words: drop and pullup the pieces that are reached by way of the bytes that go alone, every other call nothing.
use Rattle.std.specs.Prelude.{◌≡◌, ◌↔◌, List, [], ◌∷◌, ℕ, suc, ◌+◌, ◌-◌, length, leb}
use Rattle.rules.specs.Basics.{Is, whether◌then◌else◌, member}
use Rattle.rules.specs.Tables.{Tables, piece, holding, set_slip}
use Rattle.rules.specs.Chain.{chain}
use Rattle.rules.specs.Rule.{Wants}
use Rattle.rules.specs.Step.{Operation, Audit, Put, Free, Dup, Cut, Append, Drop, Keep, Pullup, Pack, Length, Read, Show, WireList}
use Rattle.rules.specs.Recount.{Reached, leaves}

-- the link to the first of the pieces ds with a byte past the first n, or none
unfoldable pub link_past : Tables → List ℕ → ℕ → ℕ
link_past T [] n = 0
link_past T (d ∷ ds) n = whether leb (piece T d).len n then link_past T ds (n - (piece T d).len) else suc d

-- the tables in which slip s heads that piece of its chain
abbrev pub turned_past : Tables → ℕ → ℕ → Tables
turned_past T s n = set_slip T s (holding (link_past T (chain T s) n))

-- The pieces ds are those that are reached in T, and no longer once slip s heads the first piece with a byte past n; so the recount then leaves
-- them, and what it leaves in T.
pub record GivesBack (T : Tables) (s n : ℕ) (ds : List ℕ) : Type 0 where
  pub which : (d : ℕ) → Is (member d ds) ↔ (Reached T d × (Reached (turned_past T s n) d → ⊥))
  pub room : length ds + (leaves T).pieces ≡ (leaves (turned_past T s n)).pieces

-- what an operation that wants w gives back first
abbrev pub GivesFirst : Operation → Tables → Wants → Type 0
GivesFirst Audit T w = w.back ≡ []
GivesFirst (Put input) T w = w.back ≡ []
GivesFirst (Free s) T w = w.back ≡ []
GivesFirst (Dup s) T w = w.back ≡ []
GivesFirst (Cut s off n) T w = w.back ≡ []
GivesFirst (Append a b) T w = w.back ≡ []
GivesFirst (Drop s n) T w = GivesBack T s.slip n w.back
GivesFirst (Keep s n) T w = w.back ≡ []
GivesFirst (Pullup s n) T w = (w.pieces ≡ 0 → w.back ≡ []) × ((w.pieces ≡ 0 → ⊥) → GivesBack T s.slip n w.back)
GivesFirst (Pack s) T w = w.back ≡ []
GivesFirst (Length s) T w = w.back ≡ []
GivesFirst (Read s off n out) T w = w.back ≡ []
GivesFirst (Show s n scratch) T w = w.back ≡ []
GivesFirst (WireList s list) T w = w.back ≡ []
