-- The text of the tables after row 3 of document 01's morning, written out. Assumes nothing.
use mathlib.Core.Path.{◌≡◌, refl}
use mathlib.Core.List.{[], ◌∷◌, ◌++◌}
use Rattle.rules.specs.Basics.{whether◌then◌else◌, places}
use Rattle.rules.specs.Tables.{Tables, blank}
use Rattle.rules.specs.Chain.{walk, stretches, total}
use Rattle.rules.specs.Morning.{p, state}
use Rattle.page.specs.Page.{ascii}
use Rattle.page.specs.Digits.{digits_in}
use Rattle.draw_chain.specs.Text.{piece_text, joined_text, rest_text, chain_text}
use Rattle.draw_slips.specs.Text.{up_to, most_to, state_text, slip_text}
use Rattle.draw.specs.Text.{tables_text}

-- two chains share piece 1, three pieces lie on buffer 0, and two slips were given before
abbrev row3 : Tables
row3 =
    state (2 ∷ 4 ∷ 6 ∷ 0 ∷ []) (0 ∷ 12 ∷ 0 ∷ 1 ∷ []) (p 1 0 0 512 2 ∷ p 2 1 0 88 0 ∷ p 1 0 500 12 4 ∷ p 1 1 0 38 0 ∷ p 1 0 0 512 2 ∷ blank ∷ []) (3 ∷ 2 ∷ 0 ∷ 0 ∷ [])

pub drawn : tables_text row3 ≡
    ascii "  slip 0  600 bytes  p0[b0 0+512] > p1[b1 0+88]x2\n"
    ++ ascii "  slip 1.12   50 bytes  p2[b0 500+12] > p3[b1 0+38]\n"
    ++ ascii "  slip 2  600 bytes  p4[b0 0+512] > p1[b1 0+88]x2\n"
    ++ ascii "  slip 3.1  vacant\n"
    ++ ascii "  buffers  b0 x3  b1 x2  b2 free  b3 free\n"
    ++ ascii "  pieces   5 in use, 1 free\n"
unfolding whether◌then◌else◌ places walk stretches total digits_in up_to most_to piece_text joined_text rest_text chain_text state_text slip_text tables_text
drawn = refl
