-- A page: lent bytes, and where the next byte of a text goes.
use Rattle.std.specs.Prelude.{◌≡◌, List, [], ◌∷◌, ℕ, ◌+◌, length, set, ltb}
use Prim.Native.Char.{code}
use Prim.Native.String.{String, [] as none, ◌∷◌ as ◌then◌}
use Rattle.rules.specs.Basics.{whether◌then◌else◌}
use Rattle.page.specs.declared.Page.{Page as Lent}

-- what a page holds
pub record Page : Type 0 where
  pub bytes : List ℕ
  pub at : ℕ

abbrev pub page : Lent → Page
page p = record { bytes = p.bytes.now; at = p.at }

-- the page with the byte x written, if there is room
abbrev pub ink_byte : Page → ℕ → Page
ink_byte p x = whether ltb p.at (length p.bytes) then record { bytes = set p.bytes p.at x; at = p.at + 1 } else p

-- the page with a text written, byte after byte
unfoldable pub inked : Page → List ℕ → Page
inked p [] = p
inked p (x ∷ xs) = inked (ink_byte p x) xs

-- r is the page p, of the same lent bytes, with the text t written
pub record Wrote (p r : Lent) (t : List ℕ) : Type 0 where
  pub lent : r.bytes.ghost_name ≡ p.bytes.ghost_name
  pub is : page r ≡ inked (page p) t

-- the codes of a quoted text
abbrev pub ascii : String → List ℕ
ascii none = []
ascii (c then s) = code c ∷ ascii s
