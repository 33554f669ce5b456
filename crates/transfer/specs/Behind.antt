-- Places in a chain, one behind the other.
use Rattle.std.specs.Prelude.{◌≡◌, true, ℕ, ◌+◌, ◌-◌, ◌<◌, min, ltb}
use Rattle.rules.specs.Basics.{whether◌then◌else◌}
use Rattle.rules.specs.Tables.{Tables, piece, piece_total}
use Rattle.rules.specs.Chain.{stretch, position_of}
use Rattle.chain.specs.Find.{spot_of}
use Rattle.transfer.specs.declared.Cursor.{Cursor}
use Rattle.transfer.specs.declared.Extent.{Extent}

-- the place lies before the end of the piece that its link leads to
abbrev pub InPiece : Tables → Cursor → Type 0
InPiece T c = (c.link ≡ 0 → ⊥) → c.into < (piece T (c.link - 1)).len

-- the place n bytes behind the place c
unfoldable pub behind : Tables → Cursor → ℕ → Cursor
behind T c n =
    let s = spot_of (piece_total T) T true c.link (c.into + n) in
    record { link = s.link; into = s.into }

-- the bytes from the place c on that its piece has, at most n: where they start in storage, and how many
abbrev pub extent_at : Tables → Cursor → ℕ → Extent
extent_at T c n =
    let p = piece T (c.link - 1) in
    record { start = position_of T.stock (stretch p) + c.into; count = min n (p.len - c.into) }

-- the place k bytes behind the place c, which are of its piece; at its end, the start of the next
abbrev pub advanced : Tables → Cursor → ℕ → Cursor
advanced T c k =
    whether ltb (c.into + k) (piece T (c.link - 1)).len
    then record { link = c.link; into = c.into + k }
    else record { link = (piece T (c.link - 1)).next; into = 0 }
