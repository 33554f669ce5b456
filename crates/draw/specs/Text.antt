-- The text of a pool, as
--   slip 0  600 bytes  p0[b0 0+512] > p1[b1 0+88]x2
--   slip 1   50 bytes  p2[b0 500+12] > p3[b1 0+38]
--   slip 2    0 bytes  empty
--   slip 3  vacant
--   buffers  b0 x2  b1 x2  b2 free  b3 free
--   pieces   4 in use, 2 free
use Rattle.std.specs.Prelude.{Bool, ◌&&◌, List, ◌++◌, ℕ, ◌-◌, length, eqb, leb}
use Rattle.rules.specs.Basics.{whether◌then◌else◌}
use Rattle.rules.specs.Layout.{pool_length, header_length}
use Rattle.rules.specs.Tables.{Tables, buffer_count, piece_total, buffer_total}
use Rattle.rules.specs.Bytes.{decode, buffers_in, pieces_in, slips_in}
use Rattle.rules.specs.Sound.{marked}
use Rattle.rules.specs.Room.{free_pieces}
use Rattle.page.specs.Page.{ascii}
use Rattle.page.specs.Digits.{tagged}
use Rattle.draw_slips.specs.Text.{up_to, slips_text}

-- ---- buffers and pieces

abbrev pub hold_text : ℕ → List ℕ
hold_text n = whether eqb n 0 then ascii " free" else tagged " x" n

abbrev pub buffer_text : Tables → ℕ → List ℕ
buffer_text T b = tagged "  b" b ++ hold_text (buffer_count T b)

abbrev pub buffers_text : Tables → List ℕ
buffers_text T = ascii "  buffers" ++ up_to (buffer_total T) (buffer_text T) ++ ascii "\n"

abbrev pub stock_text : Tables → List ℕ
stock_text T = tagged "  pieces   " (piece_total T - length (free_pieces T)) ++ tagged " in use, " (length (free_pieces T)) ++ ascii " free\n"

-- ---- the whole

unfoldable pub tables_text : Tables → List ℕ
tables_text T = slips_text T ++ buffers_text T ++ stock_text T

-- mark, version and length are a pool's
abbrev pub fits_test : List ℕ → Bool
fits_test p = leb header_length (length p) && (marked p && eqb (length p) (pool_length (buffers_in p) (pieces_in p) (slips_in p)))

-- of any bytes
abbrev pub pool_text : List ℕ → List ℕ
pool_text p = whether fits_test p then tables_text (decode p) else ascii "  torn\n"
