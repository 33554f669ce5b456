-- The text of the slips, a line for each, as
--   slip 1   50 bytes  p2[b0 500+12] > p3[b1 0+38]
--   slip 2.1  vacant
use Rattle.std.specs.Prelude.{List, [], ◌++◌, ℕ, zero, suc, max, length, eqb}
use Rattle.rules.specs.Basics.{whether◌then◌else◌}
use Rattle.rules.specs.Tables.{Tables, slip, serial, slip_total}
use Rattle.rules.specs.Chain.{chain, length_of}
use Rattle.rules.specs.Room.{is_vacant}
use Rattle.page.specs.Page.{ascii}
use Rattle.page.specs.Digits.{digits, padded, tagged, serial_text}
use Rattle.draw_chain.specs.Text.{chain_text}

-- f 0, .., f (n - 1), one after the other
unfoldable pub up_to : ℕ → (ℕ → List ℕ) → List ℕ
up_to zero f = []
up_to (suc n) f = up_to n f ++ f n

-- the greatest of f 0, .., f (n - 1), or 0
unfoldable pub most_to : ℕ → (ℕ → ℕ) → ℕ
most_to zero f = 0
most_to (suc n) f = max (most_to n f) (f n)

-- ---- a slip

-- a length, right-aligned to w digits
abbrev pub length_text : ℕ → ℕ → List ℕ
length_text w n = ascii "  " ++ padded w n ++ ascii " bytes  "

-- what slip s holds
unfoldable pub state_text : Tables → ℕ → ℕ → List ℕ
state_text T w s =
    whether eqb (slip T s) 0
    then ascii "  vacant"
    else whether eqb (slip T s) 1
    then (length_text w 0 ++ ascii "empty")
    else (length_text w (length_of T s) ++ chain_text T (chain T s))

unfoldable pub slip_text : Tables → ℕ → ℕ → List ℕ
slip_text T w s = tagged "  slip " s ++ serial_text (serial T s) ++ state_text T w s ++ ascii "\n"

-- the digits of the longest length
abbrev pub width_at : Tables → ℕ → ℕ
width_at T s = whether is_vacant T s then 0 else length (digits (length_of T s))

abbrev pub widest : Tables → ℕ
widest T = most_to (slip_total T) (width_at T)

abbrev pub slips_text : Tables → List ℕ
slips_text T = up_to (slip_total T) (slip_text T (widest T))
